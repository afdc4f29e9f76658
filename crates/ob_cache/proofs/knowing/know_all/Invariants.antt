use Rattle.std.proofs.Common.{◌≡◌}
use Rattle.ob_cache.proofs.knowing.know_all.Given as goal

-- the values are over the same tables
abbrev pub invariant-loop-cell : goal.invariant-loop-cell
invariant-loop-cell l = l.source ≡ l.fn.source
