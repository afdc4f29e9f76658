use Rattle.std.proofs.Common.{◌≡◌, take}
use Rattle.ob_tables.proofs.holdings.same_front.Given as goal

-- the lists begin alike so far
abbrev pub invariant-loop-place : goal.invariant-loop-place
invariant-loop-place l = take l.place l.a ≡ take l.place l.b
