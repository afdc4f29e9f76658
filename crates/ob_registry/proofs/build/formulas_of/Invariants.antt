use Rattle.ob_definition.specs.Findings.{Adds}
use Rattle.ob_registry.proofs.FormulaLoops.{AreBelow, AreUpto}
use Rattle.ob_registry.proofs.build.formulas_of.Given as goal

abbrev pub invariant-loop-place : goal.invariant-loop-place
invariant-loop-place l = record {
  formulas : AreUpto l.fn.models l.place l.formulas.items;
  faults : Adds (AreBelow l.fn.models l.place) l.initial.first l.first;
}
