use Rattle.std.specs.Prelude.{All}
use Rattle.ob_effect.specs.Effect.{Asks}
use Rattle.ob_schema.specs.Models.{HasModel}
use Rattle.ob_commands.proofs.judging.test_made.Given as goal

-- the engine was only asked, and the rows that are left are of its models
abbrev pub invariant-loop-row : goal.invariant-loop-row
invariant-loop-row g l = record {
  asked : Asks g.K.Keeper l.fn.engine l.engine;
  models : All (λ row. HasModel l.fn.engine.held.models row.model) l.row-iterator;
}
