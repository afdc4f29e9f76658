-- One id more.
use Rattle.std.proofs.Common.{◌∙◌}
use Rattle.ob_effect.proofs.RisingSets.{below_past, below_with}
use Rattle.ob_effect.proofs.deletion.remaining.Goals as goal
use Rattle.ob_effect.proofs.deletion.remaining.Goals.{then-not-leads_to+in_ok-push, else-not-leads_to}

pub loop-id-preserved : goal.loop-id-preserved
loop-id-preserved c =
    let i = c.loop-id.id-index in let ids = c.args.ids.now in
    elim c.if-not-leads_to.branch [
      | then-not-leads_to+in_ok-push w ↦ below_with i ids c.loop-id.left c.if-not-leads_to.left c.requires c.loop-id-test.true c.loop-id.invariant (w.left-is ∙ w.in_ok-push.ensures.ok)
      | else-not-leads_to w ↦ rw w.left-is (below_past i ids c.loop-id.left c.loop-id.invariant)
    ]
