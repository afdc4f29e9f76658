use Rattle.std.proofs.Common.{arith}
use Rattle.toml.specs.View.{view}
use Rattle.ob_module.specs.Meaning.{items_of, text_of}
use Rattle.ob_module.proofs.Documents.{map-whole}
use Rattle.ob_module.proofs.tables.texts_of.Goals as goal

pub returns : goal.returns
returns c =
    map-whole text_of view c.items_of-item-items.result.now (items_of (view c.args.value.now)) c.loop-item.item-index c.loop-item.texts c.loop-item.invariant (omega arith) c.items_of-item-items.ensures
