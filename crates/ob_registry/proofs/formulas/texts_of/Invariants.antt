use Rattle.std.proofs.Common.{◌≡◌, take}
use Rattle.ob_registry.specs.Telling.{texts_in}
use Rattle.ob_registry.proofs.formulas.texts_of.Given as goal

abbrev pub invariant-loop-name : goal.invariant-loop-name
invariant-loop-name l = texts_in l.texts.items ≡ take l.name-index l.names
