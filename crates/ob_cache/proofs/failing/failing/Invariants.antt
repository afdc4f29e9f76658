use Rattle.std.proofs.Common.{◌≡◌}
use Rattle.ob_cache.proofs.failing.failing.Given as goal

-- the source is what it was
abbrev pub invariant-loop-read : goal.invariant-loop-read
invariant-loop-read l = l.source ≡ l.fn.source
