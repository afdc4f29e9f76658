use Rattle.std.proofs.Common.{◌≡◌, map, take}
use Rattle.std.specs.List.{filter_map}
use Rattle.serde_json.specs.View.{view}
use Rattle.ob_call.specs.Forms.{fields_at}
use Rattle.ob_group.specs.NamedGroups.{entry_field}
use Rattle.ob_schema.specs.Paths.{step_at}
use Rattle.ob_group.proofs.aggregates.steps_of.Given as goal

abbrev pub invariant-loop-item : goal.invariant-loop-item
invariant-loop-item l = l.fields.items ≡ map (step_at l.model) (filter_map (entry_field (fields_at l.schema l.model)) (map view (take l.item-index l.items)))
