-- The parts that follow settle what those before did not.
use Rattle.std.proofs.Common.{◌≡◌, length}
use Rattle.ob_http.specs.Message.{lists_word}
use Rattle.ob_http.proofs.fields.lists_word.Given as goal

abbrev pub invariant-loop-part : goal.invariant-loop-part
invariant-loop-part l = lists_word l.word l.rest ≡ lists_word l.word l.list

abbrev pub decreases-loop-part : goal.decreases-loop-part
decreases-loop-part l = length l.rest
