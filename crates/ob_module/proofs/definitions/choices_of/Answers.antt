use Rattle.std.proofs.Common.{arith}
use Rattle.toml.specs.View.{view}
use Rattle.ob_module.specs.Meaning.{choice_from, items_of}
use Rattle.ob_module.proofs.Documents.{map-whole}
use Rattle.ob_module.proofs.definitions.choices_of.Goals as goal

pub returns : goal.returns
returns c =
    map-whole choice_from view c.items_of-pair-items.result.now (items_of (view c.args.list.now)) c.loop-pair.pair-index c.loop-pair.choices c.loop-pair.invariant (omega arith) c.items_of-pair-items.ensures
