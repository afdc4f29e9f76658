use Rattle.std.proofs.Common.{◌≡◌, drop}
use Rattle.ob_orm.specs.NewRows.{value_for}
use Rattle.ob_orm.proofs.making.filling.value_for.Given as goal

-- none of the values so far is for the field
abbrev pub invariant-loop-one : goal.invariant-loop-one
invariant-loop-one l = value_for l.given l.number.0 ≡ value_for (drop l.one-index l.given) l.number.0
