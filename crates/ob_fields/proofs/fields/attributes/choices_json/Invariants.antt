use Rattle.std.proofs.Common.{◌≡◌, map, take}
use Rattle.serde_json.specs.View.{view}
use Rattle.ob_fields.specs.FieldsGet.{choice_data}
use Rattle.ob_fields.proofs.fields.attributes.choices_json.Given as goal

abbrev pub invariant-loop-choice : goal.invariant-loop-choice
invariant-loop-choice l = map view l.items.items ≡ map choice_data (take l.choice-index l.choices)
