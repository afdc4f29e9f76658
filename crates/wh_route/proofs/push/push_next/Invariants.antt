use Rattle.std.proofs.Common.{take}
use Rattle.wh_route.proofs.Scans.{PushesSoFar}
use Rattle.wh_route.proofs.push.push_next.Given as goal

abbrev pub invariant-loop-rule : goal.invariant-loop-rule
invariant-loop-rule l = PushesSoFar (take l.rule-index l.rules) l.place l.found
