use Rattle.std.proofs.Common.{arith, codes}
use Rattle.toml.specs.View.{view}
use Rattle.ob_module.specs.Meaning.{items_at, parent_from}
use Rattle.ob_module.proofs.Documents.{map-whole}
use Rattle.ob_module.proofs.definitions.parents_from.Goals as goal

pub returns : goal.returns
returns c =
    map-whole parent_from view c.items_at-pair-items.result.now (items_at (codes "inherits") (view c.args.model.now)) c.loop-pair.pair-index c.loop-pair.parents c.loop-pair.invariant (omega arith) c.items_at-pair-items.ensures
