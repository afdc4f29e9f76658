use Rattle.std.proofs.Common.{◌≡◌, take}
use Rattle.ob_audit.specs.Comparing.{AreRightIn}
use Rattle.ob_audit.proofs.comparing.first_difference.Given as goal

-- those so far are right
abbrev pub invariant-loop-cell : goal.invariant-loop-cell
invariant-loop-cell l = record { same : l.values ≡ l.fn.values; right : AreRightIn l.fn.values l.at (take l.cell-index l.stored) }
