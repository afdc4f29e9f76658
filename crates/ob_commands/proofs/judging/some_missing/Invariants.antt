use Rattle.ob_effect.specs.Effect.{Asks}
use Rattle.ob_commands.proofs.judging.some_missing.Given as goal

-- the engine was only asked
abbrev pub invariant-loop-named : goal.invariant-loop-named
invariant-loop-named g l = Asks g.K.Keeper l.fn.engine l.engine
