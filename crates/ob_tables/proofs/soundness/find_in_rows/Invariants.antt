use Rattle.std.proofs.Common.{suc}
use Rattle.ob_tables.specs.Finding.{BreaksIn, Finds, IsOf, is_of_rows}
use Rattle.ob_tables.proofs.Finds.{Below}
use Rattle.ob_tables.proofs.soundness.find_in_rows.Given as goal

-- what the models so far break is found
abbrev pub invariant-loop-place : goal.invariant-loop-place
invariant-loop-place l = Finds (Below (λ k. BreaksIn l.fn.tables.models l.fn.tables.tables is_of_rows (IsOf (record { 0 = suc k }))) l.place) l.initial.findings l.findings
