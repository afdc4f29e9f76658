use Rattle.std.proofs.Common.{◌≡◌, take}
use Rattle.ob_registry.proofs.field_building.same_words.Given as goal

abbrev pub invariant-loop-word : goal.invariant-loop-word
invariant-loop-word l = l.words ≡ take l.word-index l.own
