use Rattle.std.specs.Prelude.{map}
use Rattle.ob_codec.specs.Commands.{order_at}
use Rattle.ob_codec.specs.Input.{order_of}
use Rattle.ob_codec.proofs.Reading.{IsReadTo}
use Rattle.ob_codec.proofs.commands.commands_from.Given as goal

abbrev pub invariant-loop-number : goal.invariant-loop-number
invariant-loop-number l = IsReadTo order_at l.items l.number (map order_of l.commands)
