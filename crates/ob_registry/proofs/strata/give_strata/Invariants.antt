use Rattle.ob_registry.specs.Graphs.{AreFormulas}
use Rattle.ob_registry.proofs.GivenStrata.{AreGiven}
use Rattle.ob_registry.proofs.strata.give_strata.Given as goal

abbrev pub invariant-loop-node : goal.invariant-loop-node
invariant-loop-node l = record {
  are : AreFormulas l.models l.formulas.items;
  given : AreGiven l.models l.formulas.items l.node;
}
