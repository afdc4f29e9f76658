use Rattle.ob_call.proofs.MetIds.{IsGathered}
use Rattle.ob_call.proofs.ids.distinct_ids.Given as goal

abbrev pub invariant-loop-item : goal.invariant-loop-item
invariant-loop-item l = IsGathered l.items l.item-index l.ids.items l.seen
