use Rattle.ob_effect.specs.Effect.{Asks}
use Rattle.ob_commands.proofs.judging.some_restricting.Given as goal

-- the engine was only asked
abbrev pub invariant-loop-row : goal.invariant-loop-row
invariant-loop-row g l = Asks g.K.Keeper l.fn.engine l.engine
