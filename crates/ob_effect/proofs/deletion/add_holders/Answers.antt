-- One relation more.
use Rattle.std.proofs.Common.{List, subst}
use Rattle.ob_effect.proofs.FitTakings.{takes_then}
use Rattle.ob_effect.proofs.Questions.{asks_then}
use Rattle.ob_effect.specs.Deletion.{TakesFit}
use Rattle.ob_effect.proofs.deletion.add_holders.Goals as goal
use Rattle.ob_effect.proofs.deletion.add_holders.Goals.{then-eq+in_ok-add_by, else-eq}
use Rattle.ob_schema.specs.declared.info.ModelInfo.{ModelInfo}

pub returns-in_err-add_by-clause-asked : goal.returns-in_err-add_by-clause-asked
returns-in_err-add_by-clause-asked g c = asks_then g.K.Keeper c.args.engine.now c.loop-relation.engine c.add_by.new.engine c.loop-relation.invariant.asks c.add_by.ensures.asked

pub loop-relation-preserved : goal.loop-relation-preserved
loop-relation-preserved g c =
    let so_far = c.loop-relation.invariant in
    elim c.if-eq.branch [
      | then-eq+in_ok-add_by w ↦ (
          let more = subst (λ (ms : List ModelInfo). TakesFit ms c.loop-relation.deletion w.add_by.new.deletion c.loop-relation.waiting.items w.add_by.new.waiting.items) so_far.asks.same.models
          w.in_ok-add_by.ensures.taken in
          rw (w.engine-is, w.deletion-is, w.waiting-is) (record {
            takes = takes_then c.args.engine.now.held.models c.args.deletion.now c.loop-relation.deletion w.add_by.new.deletion c.args.waiting.now.items c.loop-relation.waiting.items w.add_by.new.waiting.items so_far.takes more;
            asks = asks_then g.K.Keeper c.args.engine.now c.loop-relation.engine w.add_by.new.engine so_far.asks w.add_by.ensures.asked;
          }))
      | else-eq w ↦ rw (w.engine-is, w.deletion-is, w.waiting-is) so_far
    ]
