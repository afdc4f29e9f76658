use Rattle.std.proofs.Common.{◌≡◌, drop, map}
use Rattle.serde_json.specs.View.{view}
use Rattle.ob_call.specs.Forms.{fields_at, first_item}
use Rattle.ob_call.proofs.Items.{names_one}
use Rattle.ob_call.proofs.field_names.first_unknown.Given as goal

abbrev pub invariant-loop-number : goal.invariant-loop-number
invariant-loop-number l = first_item (names_one (fields_at l.schema l.model)) 0 (map view l.items) ≡ first_item (names_one (fields_at l.schema l.model)) l.number (map view (drop l.number l.items))
