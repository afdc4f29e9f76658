use Rattle.std.proofs.Common.{◌≡◌, length, take}
use Rattle.ob_cache.proofs.flushing.are_same.Given as goal

-- the values so far are the same
abbrev pub invariant-loop-x : goal.invariant-loop-x
invariant-loop-x l = take (length l.yielded) l.a ≡ take (length l.yielded) l.b
