-- What the relations so far lead to is taken, by an engine that was asked alone.
use Rattle.ob_effect.specs.Deletion.{TakesFit}
use Rattle.ob_effect.specs.Effect.{Asks}
use Rattle.ob_effect.proofs.deletion.add_holders.Given as goal

abbrev pub invariant-loop-relation : goal.invariant-loop-relation
invariant-loop-relation g l = record {
  takes : TakesFit l.fn.engine.held.models l.fn.deletion l.deletion l.fn.waiting.items l.waiting.items;
  asks : Asks g.K.Keeper l.fn.engine l.engine;
}
