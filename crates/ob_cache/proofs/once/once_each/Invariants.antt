use Rattle.std.proofs.Common.{take}
use Rattle.ob_cache.proofs.OnceEach.{AreListed}
use Rattle.ob_cache.proofs.once.once_each.Given as goal

-- those that were met are listed, and so are the rows so far
abbrev pub invariant-loop-row : goal.invariant-loop-row
invariant-loop-row l = AreListed l.met.keys l.once.items × AreListed (take l.row-index l.rows) l.once.items
