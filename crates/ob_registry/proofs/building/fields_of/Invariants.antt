use Rattle.std.proofs.Common.{◌≡◌, ◌+◌, drop, length}
use Rattle.std.specs.Vec.Iter.{into_iter_items, into_iter_len}
use Rattle.ob_registry.proofs.MadeFields.{AreMadeUpto}
use Rattle.ob_registry.proofs.building.fields_of.Given as goal

abbrev pub invariant-loop-formula : goal.invariant-loop-formula
invariant-loop-formula l = record {
  rest : into_iter_items l.formula-iterator ≡ drop l.place l.fn.formulas.items;
  left : l.place + into_iter_len l.formula-iterator ≡ length l.fn.formulas.items;
  made : AreMadeUpto l.models l.model l.fn.formulas.items l.fields l.hidden l.place;
}
