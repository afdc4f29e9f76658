use Rattle.std.proofs.Common.{take}
use Rattle.ob_query.proofs.ReadSteps.{IsFetching}
use Rattle.ob_query.proofs.told_rows.fetched_rows.Given as goal

abbrev pub invariant-loop-id : goal.invariant-loop-id
invariant-loop-id g l = IsFetching g.K.Keeper l.by l.fn.engine l.model l.fields l.engine (take l.id-index l.ids) l.objects.items l.hidden
