-- The cell, and its row.
use Rattle.std.proofs.Common.{refl, sym, subst}
use Rattle.ob_effect.proofs.FitTakings.{relation_cell, takes_cell, takes_then}
use Rattle.ob_effect.specs.Deletion.{IsFitRow}
use Rattle.ob_effect.specs.declared.deletion.Deletion.{Deletion}
use Rattle.ob_effect.proofs.deletion.taking.add_cell.Goals as goal
use Rattle.ob_schema.specs.Models.{HasModel}

pub returns-in_ok-take : goal.returns-in_ok-take
returns-in_ok-take c = λ models of.
    let old = c.args.deletion.now in let cell = c.args.cell in let waiting = c.args.waiting.now.items in
    let mid : Deletion = record old { cells = c.push.new.self } in
    let row = subst (IsFitRow models) (sym c.row_of.ensures) (subst (HasModel models) (sym c.requires.of.0) of.model, c.requires.id) in
    takes_then models old mid c.take.new.deletion waiting waiting c.take.new.waiting.items
    (takes_cell models old mid waiting cell (relation_cell models c.args.relation cell of c.requires.of.0 c.requires.of.1 c.requires.id) c.in_ok-push.ensures.items refl refl) (c.in_ok-take.ensures models row)
