use Rattle.std.specs.Prelude.{All, Contains}
use Rattle.ob_commands.proofs.judging.row_set.Given as goal

-- each row so far is one of the rows
abbrev pub invariant-loop-row : goal.invariant-loop-row
invariant-loop-row l = All (Contains l.rows) l.set.keys
