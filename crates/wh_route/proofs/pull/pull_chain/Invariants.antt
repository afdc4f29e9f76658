use Rattle.std.proofs.Common.{◌-◌, ◌≤◌, length}
use Rattle.wh_route.proofs.Chains.{Leads}
use Rattle.wh_route.proofs.pull.pull_chain.Given as goal

abbrev pub invariant-loop-rule : goal.invariant-loop-rule
invariant-loop-rule l = Leads l.rules l.fn.place l.chain l.at × (length l.chain ≤ 8)

abbrev pub decreases-loop-rule : goal.decreases-loop-rule
decreases-loop-rule l = 8 - length l.chain
