use Rattle.std.proofs.Common.{take}
use Rattle.ob_query.proofs.Missing.{IsSeeking}
use Rattle.ob_query.proofs.reading.least_missing.Given as goal

abbrev pub invariant-loop-id : goal.invariant-loop-id
invariant-loop-id g l = IsSeeking g.K.Keeper l.fn.engine l.model l.engine (take l.id-index l.ids) l.missing
