use Rattle.std.proofs.Common.{◌≡◌, vec_len}
use Rattle.ob_effect.specs.Effect.{Edits, IsNoted}
use Rattle.ob_commands.specs.Finding.{IsFound}
use Rattle.ob_commands.specs.Making.{TakeAll}
use Rattle.ob_commands.proofs.creating.make_each.Given as goal

-- the rows so far were made and noted, and took their ids
abbrev pub invariant-loop-number : goal.invariant-loop-number
invariant-loop-number g l = record {
  edits : Edits g.K.Keeper l.fn.engine l.engine;
  noted : IsNoted l.fn.engine.held.models l.notes l.engine.held;
  taken : TakeAll g.K.Keeper l.call.model l.ids.items l.fn.engine l.engine;
  each : vec_len l.ids ≡ l.number;
  found : IsFound l.writer.by l.found;
}
