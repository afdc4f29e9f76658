-- Those that stay so far are below the next ones.
use Rattle.ob_effect.proofs.RisingSets.{AreBelowFrom}
use Rattle.ob_effect.proofs.deletion.remaining.Given as goal

abbrev pub invariant-loop-id : goal.invariant-loop-id
invariant-loop-id l = AreBelowFrom l.id-index l.ids l.left
