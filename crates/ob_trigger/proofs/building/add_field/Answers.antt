-- A field that a formula computes, or one that reads nothing.
use Rattle.std.proofs.Common.{sym}
use Rattle.ob_trigger.proofs.Indexing.{adds-as, formula_here}
use Rattle.ob_trigger.proofs.building.add_field.Goals as goal

pub returns : goal.returns
returns c = adds-as c.args.index.now c.add_formula.new.index _ _ c.in_ok-add_formula.ensures
    (formula_here c.args.schema.now c.args.computed c.in-Some.info.now c.in-Some-formula_of.formula.now (sym c.in-Some.ensures) (sym c.in-Some-formula_of.ensures))
