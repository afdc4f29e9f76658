-- The rows so far are taken out.
use Rattle.std.proofs.Common.{◌≡◌, ◌++◌, take}
use Rattle.ob_unlink.specs.DeletionSteps.{gone_edits}
use Rattle.ob_unlink.proofs.unlinking.leaving.push_gone.Given as goal

abbrev pub invariant-loop-row : goal.invariant-loop-row
invariant-loop-row l = l.edits.items ≡ l.fn.edits.items ++ gone_edits (take l.row-index l.rows)
