-- The words so far are copies of the texts so far.
use Rattle.std.proofs.Common.{◌≡◌, take}
use Rattle.ob_words.specs.Views.{texts}
use Rattle.ob_words.proofs.reading.words_of.Given as goal

abbrev pub invariant-loop-text : goal.invariant-loop-text
invariant-loop-text l = l.words ≡ texts (take l.text-index l.given)
