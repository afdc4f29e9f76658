use Rattle.std.proofs.Common.{drop, map}
use Rattle.serde_json.specs.View.{view}
use Rattle.ob_group.proofs.GroupTexts.{AreTakenTo}
use Rattle.ob_group.specs.GroupForms.{taken_keys, texts_in}
use Rattle.ob_group.specs.GroupParts.{written_view}
use Rattle.ob_group.proofs.aggregates.taken_keys.Given as goal

-- with the texts that are still to come all are taken
abbrev pub invariant-loop-item : goal.invariant-loop-item
invariant-loop-item l = AreTakenTo (taken_keys (written_view l.written)) (texts_in (map view (drop l.item-index l.written.items.now))) l.taken
