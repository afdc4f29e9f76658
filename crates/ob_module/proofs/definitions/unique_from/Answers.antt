use Rattle.std.proofs.Common.{arith, codes}
use Rattle.toml.specs.View.{view}
use Rattle.ob_module.specs.Meaning.{items_at, texts_of}
use Rattle.ob_module.proofs.Documents.{map-whole}
use Rattle.ob_module.proofs.definitions.unique_from.Goals as goal

pub returns : goal.returns
returns c =
    map-whole texts_of view c.items_at-set-items.result.now (items_at (codes "unique") (view c.args.model.now)) c.loop-set.set-index c.loop-set.sets c.loop-set.invariant (omega arith) c.items_at-set-items.ensures
