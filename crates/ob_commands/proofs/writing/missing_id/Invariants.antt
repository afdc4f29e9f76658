use Rattle.std.specs.Prelude.{IfSome}
use Rattle.ob_effect.specs.Effect.{Asks}
use Rattle.ob_commands.specs.Making.{MissesSome}
use Rattle.ob_commands.proofs.writing.missing_id.Given as goal

-- the engine was only asked, and what is missing so far was asked for
abbrev pub invariant-loop-id : goal.invariant-loop-id
invariant-loop-id g l = record {
  asked : Asks g.K.Keeper l.fn.engine l.engine;
  missing : IfSome l.missing (MissesSome g.K.Keeper l.model l.ids l.fn.engine);
}
