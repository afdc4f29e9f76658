use Rattle.std.proofs.Common.{arith}
use Rattle.ob_rows.proofs.CallerLemmas.{makeable_at}
use Rattle.ob_effect.proofs.rows.push_stamps.Goals as goal

pub push_stamp-requires-clause-makeable : goal.push_stamp-requires-clause-makeable
push_stamp-requires-clause-makeable c = makeable_at c.args.writer.now.schema.now c.args.row.model c.model_info.result.now c.loop-index.index c.model_info.ensures.at (omega arith) c.model_info.ensures.fit
