use Rattle.std.proofs.Common.{take}
use Rattle.wh_route.proofs.Scans.{PullsSoFar}
use Rattle.wh_route.proofs.pull.pull_rule.Given as goal

abbrev pub invariant-loop-rule : goal.invariant-loop-rule
invariant-loop-rule l = PullsSoFar (take l.rule-index l.rules) l.place l.found
