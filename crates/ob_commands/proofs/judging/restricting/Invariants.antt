use Rattle.ob_effect.specs.Effect.{Asks}
use Rattle.ob_commands.proofs.judging.restricting.Given as goal

-- the engine was only asked
abbrev pub invariant-loop-relation : goal.invariant-loop-relation
invariant-loop-relation g l = Asks g.K.Keeper l.fn.engine l.engine
