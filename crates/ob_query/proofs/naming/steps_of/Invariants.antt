use Rattle.std.proofs.Common.{◌≡◌, map, take}
use Rattle.std.specs.List.{filter_map}
use Rattle.serde_json.specs.View.{view}
use Rattle.ob_call.specs.Forms.{fields_at, number_from}
use Rattle.ob_schema.specs.Paths.{step_at}
use Rattle.ob_query.proofs.naming.steps_of.Given as goal

abbrev pub invariant-loop-item : goal.invariant-loop-item
invariant-loop-item l = l.fields.items ≡ map (step_at l.model) (filter_map (number_from (fields_at l.schema l.model)) (map view (take l.item-index l.items)))
