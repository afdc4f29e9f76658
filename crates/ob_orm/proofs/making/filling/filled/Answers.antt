use Rattle.std.proofs.Common.{arith, sym, ◌∙◌}
use Rattle.ob_orm.proofs.FilledRows.{so_far-all, so_far-fit, so_far-more, so_far-none, so_far-passed}
use Rattle.ob_rows.proofs.CallerLemmas.{makeable_at}
use Rattle.ob_orm.proofs.making.filling.filled.Goals as goal
use Rattle.ob_orm.proofs.making.filling.filled.Goals.{then-is_plain_kept+in_ok-value+in_ok-push_valued, else-is_plain_kept}

pub loop-index-init : goal.loop-index-init
loop-index-init c = rw c.new-values.ensures (so_far-none c.args.maker.now.schema.now c.args.maker.now.author c.args.made c.args.given.now c.args.model c.model_info.result.now c.model_info.ensures.at)

pub filled_value-requires-clause-makeable : goal.filled_value-requires-clause-makeable
filled_value-requires-clause-makeable c = makeable_at c.args.maker.now.schema.now c.args.model c.model_info.result.now c.loop-index.index c.model_info.ensures.at (omega arith) c.model_info.ensures.fit

pub loop-index-preserved : goal.loop-index-preserved
loop-index-preserved c =
    let models = c.args.maker.now.schema.now in
    let by = c.args.maker.now.author in
    let info = c.model_info.result.now in
    elim c.if-is_plain_kept.branch [
      | then-is_plain_kept+in_ok-value+in_ok-push_valued w ↦ rw w.values-is (so_far-more models by c.args.made c.args.given.now c.args.model info c.model_info.ensures.at c.loop-index.index c.info.result.now (omega arith) c.info.ensures
          c.loop-index.values w.push_valued.new.values w.in_ok-value.value (sym c.is_plain_kept.ensures ∙ w.if-is_plain_kept.true) w.in_ok-value.ensures.value w.in_ok-value.ensures.typed w.in_ok-push_valued.ensures c.loop-index.invariant)
      | else-is_plain_kept w ↦ rw w.values-is (so_far-passed models by c.args.made c.args.given.now c.args.model info c.model_info.ensures.at c.loop-index.index c.info.result.now (omega arith) c.info.ensures
          c.loop-index.values (sym c.is_plain_kept.ensures ∙ w.if-is_plain_kept.false) c.loop-index.invariant)
    ]

pub returns-clause-value : goal.returns-clause-value
returns-clause-value c =
    so_far-all c.args.maker.now.schema.now c.args.maker.now.author c.args.made c.args.given.now c.args.model c.model_info.result.now c.model_info.ensures.at c.loop-index.index c.loop-index.values (omega arith) c.loop-index.invariant

pub returns-clause-fit : goal.returns-clause-fit
returns-clause-fit c =
    so_far-fit c.args.maker.now.schema.now c.args.maker.now.author c.args.made c.args.given.now c.args.model c.model_info.result.now c.model_info.ensures.at c.loop-index.index c.loop-index.values c.loop-index.invariant
