use Rattle.ob_codec.proofs.Reading.{IsPassedTo}
use Rattle.ob_codec.proofs.commands.clear_from.Given as goal

abbrev pub invariant-loop-number : goal.invariant-loop-number
invariant-loop-number l = IsPassedTo l.command l.elements l.number
