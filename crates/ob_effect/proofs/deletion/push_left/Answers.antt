-- One cell more.
use Rattle.std.proofs.Common.{List, subst}
use Rattle.std.specs.Prelude.{All}
use Rattle.ob_effect.proofs.Questions.{asks_then}
use Rattle.ob_effect.specs.Effect.{IsFitChange}
use Rattle.ob_effect.proofs.deletion.push_left.Goals as goal
use Rattle.ob_effect.proofs.deletion.push_left.Goals.{then-not-contains+in_ok-push_left_of, else-not-contains}
use Rattle.ob_schema.specs.declared.info.ModelInfo.{ModelInfo}

pub returns-in_err-push_left_of-clause-asked : goal.returns-in_err-push_left_of-clause-asked
returns-in_err-push_left_of-clause-asked g c = asks_then g.K.Keeper c.args.engine.now c.loop-cell.engine c.push_left_of.new.engine c.loop-cell.invariant.asks c.push_left_of.ensures.asked

pub loop-cell-preserved : goal.loop-cell-preserved
loop-cell-preserved g c =
    let so_far = c.loop-cell.invariant in
    elim c.if-not-contains.branch [
      | then-not-contains+in_ok-push_left_of w ↦ (
          let more = subst (λ (ms : List ModelInfo). All (IsFitChange ms) c.loop-cell.edits.items → All (IsFitChange ms) w.push_left_of.new.edits.items) so_far.asks.same.models w.in_ok-push_left_of.ensures.fit in
          rw (w.engine-is, w.edits-is) (record {
            fit = λ all. more (so_far.fit all);
            asks = asks_then g.K.Keeper c.args.engine.now c.loop-cell.engine w.push_left_of.new.engine so_far.asks w.push_left_of.ensures.asked;
          }))
      | else-not-contains w ↦ rw (w.engine-is, w.edits-is) so_far
    ]
