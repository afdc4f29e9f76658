use Rattle.std.specs.Prelude.{All, Contains}
use Rattle.ob_effect.specs.Effect.{Asks}
use Rattle.ob_effect.specs.Lists.{IsListField}
use Rattle.ob_effect.proofs.effect.listed.lists_of.Given as goal

-- the engine was only asked, and the lists so far are such
abbrev pub invariant-loop-orders : goal.invariant-loop-orders
invariant-loop-orders g l = record {
  asked : Asks g.K.Keeper l.fn.engine l.engine;
  lists : All (λ one. IsListField l.fn.engine.held.models one.cell.model one.cell.field) l.lists.items;
  orders : All (λ one. Contains l.all one.orders.now) l.lists.items;
}
