use Rattle.ob_call.proofs.NamedNumbers.{IsNumberedTo}
use Rattle.ob_call.proofs.columns.numbers_of.Given as goal

abbrev pub invariant-loop-index : goal.invariant-loop-index
invariant-loop-index l = IsNumberedTo l.all l.flags l.index l.numbers.items
