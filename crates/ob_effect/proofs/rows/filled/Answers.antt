use Rattle.std.proofs.Common.{◌+◌, arith, sym, ◌∙◌}
use Rattle.ob_schema.specs.Fields.{HasFieldType}
use Rattle.ob_schema.specs.Models.{field_at}
use Rattle.ob_tables.proofs.CallerLemmas.{known_if}
use Rattle.ob_effect.proofs.FilledRows.{so_far-fit, so_far-more, so_far-none, so_far-passed}
use Rattle.ob_rows.proofs.CallerLemmas.{makeable_at}
use Rattle.ob_effect.proofs.rows.filled.Goals as goal
use Rattle.ob_effect.proofs.rows.filled.Goals.{then-is_plain_kept+in_ok-value+in-Some+in_ok-push, then-is_plain_kept+in_ok-value+in_default, else-is_plain_kept}

pub filled_value-requires-clause-makeable : goal.filled_value-requires-clause-makeable
filled_value-requires-clause-makeable c = makeable_at c.args.writer.now.schema.now c.args.model c.model_info.result.now c.loop-index.index c.model_info.ensures.at (omega arith) c.model_info.ensures.fit

pub loop-index-preserved : goal.loop-index-preserved
loop-index-preserved c =
    let models = c.args.writer.now.schema.now in
    let info = c.model_info.result.now in
    let i = c.loop-index.index in
    elim c.if-is_plain_kept.branch [
      | then-is_plain_kept+in_ok-value+in-Some+in_ok-push w ↦ rw w.values-is (so_far-more models c.args.model info c.model_info.ensures.at i c.info.result.now w.in-Some.value c.loop-index.values w.push.new.self (omega arith)
          c.info.ensures (sym c.is_plain_kept.ensures ∙ w.if-is_plain_kept.true) (known_if _ w.in-Some.value (HasFieldType (field_at models c.args.model (record { 0 = i + 1 }))) w.in-Some.is w.in_ok-value.ensures) w.in_ok-push.ensures.ok c.loop-index.invariant)
      | then-is_plain_kept+in_ok-value+in_default w ↦ rw w.values-is (so_far-passed models c.args.model info c.model_info.ensures.at i c.loop-index.values c.loop-index.invariant)
      | else-is_plain_kept w ↦ rw w.values-is (so_far-passed models c.args.model info c.model_info.ensures.at i c.loop-index.values c.loop-index.invariant)
    ]
