use Rattle.std.proofs.Common.{◌≡◌, map, take}
use Rattle.toml.specs.View.{view}
use Rattle.ob_module.specs.Meaning.{text_of}
use Rattle.ob_module.proofs.tables.texts_of.Given as goal

abbrev pub invariant-loop-item : goal.invariant-loop-item
invariant-loop-item l = l.texts ≡ map (λ item. text_of (view item)) (take l.item-index l.item-items)
