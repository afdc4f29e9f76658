use Rattle.ob_effect.specs.Effect.{Asks}
use Rattle.ob_effect.proofs.effect.named.are_there.Given as goal

-- the engine was only asked
abbrev pub invariant-loop-id : goal.invariant-loop-id
invariant-loop-id g l = Asks g.K.Keeper l.fn.engine l.engine
