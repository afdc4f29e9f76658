use Rattle.std.proofs.Common.{suc}
use Rattle.ob_tables.specs.Finding.{BreaksIn, IsIn, is_of_plain}
use Rattle.ob_tables.proofs.Finds.{Below}
use Rattle.ob_tables.specs.Finding.{Finds}
use Rattle.ob_tables.proofs.cells.find_in_cells.Given as goal

-- what is broken in the columns so far is found
abbrev pub invariant-loop-place : goal.invariant-loop-place
invariant-loop-place l = Finds (Below (λ k. BreaksIn l.fn.tables.models l.fn.tables.tables is_of_plain (IsIn l.fn.model (record { 0 = suc k }))) l.place) l.initial.findings l.findings
