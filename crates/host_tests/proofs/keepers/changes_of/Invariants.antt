use Rattle.std.specs.Prelude.{All}
use Rattle.ob_io.specs.Store.{IsChangeFit}
use Rattle.host_tests.proofs.keepers.changes_of.Given as goal

-- the changes so far fit
abbrev pub invariant-loop : goal.invariant-loop
invariant-loop l = All IsChangeFit l.changes
