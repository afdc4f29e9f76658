use Rattle.std.proofs.Common.{suc}
use Rattle.ob_tables.specs.Finding.{BreaksIn, Finds, IsOf, is_of_formulas}
use Rattle.ob_tables.specs.Settling.{AreOutcomes}
use Rattle.ob_tables.proofs.Finds.{Below}
use Rattle.ob_tables.proofs.formulas.find_in_formulas.Given as goal

-- what formulas break in the models so far is found
abbrev pub invariant-loop-place : goal.invariant-loop-place
invariant-loop-place l = record {
  right : AreOutcomes l.given.tables.now.models l.given.tables.now.tables l.outcomes;
  found : Finds (Below (λ k. BreaksIn l.given.tables.now.models l.given.tables.now.tables is_of_formulas (IsOf (record { 0 = suc k }))) l.place) l.initial.findings l.findings;
}
