-- A given cell without a field back edits by what its row keeps.
use Rattle.std.proofs.Common.{◌∙◌, None, refl, sym}
use Rattle.std.proofs.lemmas.Result.{on_ok_weaker}
use Rattle.ob_change.proofs.CellSteps.{given-edits}
use Rattle.ob_change.proofs.BackFields.{unset}
use Rattle.ob_change.proofs.edited.add_field.Goals as goal
use Rattle.ob_change.specs.Changing.{models_of, sides_of}

pub returns-then-is_none : goal.returns-then-is_none
returns-then-is_none c =
    let none = sym c.or.ensures ∙ unset c.or.result c.if-is_none.ensures in
    on_ok_weaker c.add_kept.result
    (given-edits (models_of c.args.change) (sides_of c.args.change) c.args.own c.in-Some.info.now (sym c.in-Some.ensures) (c.if-not-is_given.ensures.0 refl) None none c.args.cells.now.items c.add_kept.new.cells.items)
    c.add_kept.ensures
