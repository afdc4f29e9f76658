use Rattle.ob_effect.specs.Effect.{Edits, IsNoted}
use Rattle.ob_commands.proofs.writing.write_each.Given as goal

-- the rows so far were written and noted
abbrev pub invariant-loop-id : goal.invariant-loop-id
invariant-loop-id g l = record {
  edits : Edits g.K.Keeper l.fn.engine l.engine;
  noted : IsNoted l.fn.engine.held.models l.notes l.engine.held;
}
