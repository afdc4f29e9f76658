use Rattle.std.specs.Prelude.{All}
use Rattle.ob_effect.specs.Effect.{Asks}
use Rattle.ob_schema.specs.Models.{HasModel}
use Rattle.ob_commands.proofs.judging.some_locked.Given as goal

-- the engine was only asked, and the touches that are left are of its models
abbrev pub invariant-loop-touch : goal.invariant-loop-touch
invariant-loop-touch g l = record {
  asked : Asks g.K.Keeper l.fn.engine l.engine;
  models : All (λ touch. HasModel l.fn.engine.held.models touch.row.model) l.touch-iterator;
}

abbrev pub invariant-loop-row : goal.invariant-loop-row
invariant-loop-row g l = Asks g.K.Keeper l.fn.engine l.engine
