use Rattle.std.proofs.Common.{◌-◌}
use Rattle.ob_tables.specs.Finding.{Finds}
use Rattle.ob_tables.proofs.Finds.{Below}
use Rattle.ob_tables.proofs.Neighbours.{AreAlike}
use Rattle.ob_tables.proofs.unique.find_alike.Given as goal

-- neighbours so far that are alike are found
abbrev pub invariant-loop-place : goal.invariant-loop-place
invariant-loop-place l = Finds (Below (AreAlike l.fn.model l.fn.first l.members) (l.place - 1)) l.initial.findings l.findings
