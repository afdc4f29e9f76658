-- One row more.
use Rattle.std.proofs.Common.{List, subst}
use Rattle.ob_effect.proofs.Questions.{asks_then}
use Rattle.ob_effect.specs.Deletion.{TakesFit}
use Rattle.ob_effect.proofs.deletion.deletion_of.Goals as goal
use Rattle.ob_schema.specs.declared.info.ModelInfo.{ModelInfo}

pub returns-in_err-add_holders-clause-asked : goal.returns-in_err-add_holders-clause-asked
returns-in_err-add_holders-clause-asked g c = asks_then g.K.Keeper c.args.engine.now c.loop-next.engine c.add_holders.new.engine c.loop-next.invariant.asks c.add_holders.ensures.asked

pub loop-next-preserved : goal.loop-next-preserved
loop-next-preserved g c =
    let so_far = c.loop-next.invariant in
    let more = subst (λ (ms : List ModelInfo). TakesFit ms c.loop-next.deletion c.add_holders.new.deletion c.pop.new.self.items c.add_holders.new.waiting.items) so_far.asks.same.models
    c.in_ok-add_holders.ensures.taken in
    record {
      rows = more.rows so_far.rows;
      cells = more.cells so_far.cells;
      asks = asks_then g.K.Keeper c.args.engine.now c.loop-next.engine c.add_holders.new.engine so_far.asks c.add_holders.ensures.asked;
    }
