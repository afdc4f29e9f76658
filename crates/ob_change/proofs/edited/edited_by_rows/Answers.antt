-- One row more; and what all touched rows edit is what the change edits.
use Rattle.std.proofs.Common.{[], List, refl, subst}
use Rattle.std.proofs.lemmas.Grind.{not_there}
use Rattle.std.proofs.lemmas.List.{take_all}
use Rattle.ob_base.specs.declared.id.RowKey.{RowKey}
use Rattle.ob_change.proofs.EditedRows.{found-edited}
use Rattle.ob_change.proofs.Gaining.{BySome, gains_all, gains_next}
use Rattle.ob_change.proofs.edited.edited_by_rows.Goals as goal
use Rattle.ob_change.specs.Changing.{models_of, sides_of}
use Rattle.ob_change.specs.EditedSteps.{Gains, RowEdits}

pub loop-key-preserved : goal.loop-key-preserved
loop-key-preserved c =
    let none : RowKey = record { model = record { 0 = 0 }; id = record { 0 = 0 } } in
    let edits = RowEdits (models_of c.args.change) (sides_of c.args.change) in
    gains_next edits c.args.change.touched.now c.loop-key.key-index none [] c.loop-key.cells.items c.add_row.new.cells.items c.loop-key-test.true c.loop-key.invariant c.in_ok-add_row.ensures

pub returns : goal.returns
returns c =
    let models = models_of c.args.change in
    let sides = sides_of c.args.change in
    let keys = c.args.change.touched.now in
    let gained = subst (λ (l : List RowKey). Gains (BySome (RowEdits models sides) l) [] c.loop-key.cells.items) (take_all c.loop-key.key-index keys c.loop-key-test.false) c.loop-key.invariant in
    λ cell.
    let found = found-edited models c.parts_fit_together.ensures sides keys (not_there c.args.change.touches) (c.lists_alone_are_edited.ensures.own models sides) cell in
    let has = gains_all (BySome (RowEdits models sides) keys) [] c.loop-key.cells.items refl gained cell in
    (λ among. found.0 (has.0 among), λ edited. has.1 (found.1 edited))
