use Rattle.std.proofs.Common.{◌≤◌, take}
use Rattle.std.specs.Prelude.{All}
use Rattle.ob_base.specs.Limits.{max_id}
use Rattle.ob_commands.proofs.judging.past_limit.Given as goal

-- no id so far is past the limit
abbrev pub invariant-loop-row : goal.invariant-loop-row
invariant-loop-row l = All (λ row. row.id.0 ≤ max_id) (take l.row-index l.notes.made.items)
