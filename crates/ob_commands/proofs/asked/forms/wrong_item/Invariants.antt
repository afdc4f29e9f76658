use Rattle.std.proofs.Common.{◌≡◌, drop, map}
use Rattle.serde_json.specs.View.{view}
use Rattle.ob_call.specs.Forms.{fields_at}
use Rattle.ob_commands.specs.Asked.{wrong_item}
use Rattle.ob_commands.proofs.asked.forms.wrong_item.Given as goal

-- the first item that is wrong is the first of those that are left
abbrev pub invariant-loop-number : goal.invariant-loop-number
invariant-loop-number l =
    let fields = fields_at l.values.schema.now l.values.model in
    wrong_item fields 0 (map view l.items) ≡ wrong_item fields l.number (map view (drop l.number l.items))
