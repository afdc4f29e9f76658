use Rattle.std.proofs.Common.{◌≡◌, drop, map}
use Rattle.serde_json.specs.View.{view}
use Rattle.ob_call.specs.Forms.{fields_at}
use Rattle.ob_orm.specs.Objects.{first_wrong}
use Rattle.ob_rows.specs.Values.{new_values_fault}
use Rattle.ob_orm.proofs.objects.first_wrong.Given as goal

-- the first item that is wrong is the first of those that are left
abbrev pub invariant-loop-number : goal.invariant-loop-number
invariant-loop-number l =
    let fault = new_values_fault l.values.schema.now (fields_at l.values.schema.now l.values.model) in
    first_wrong fault 0 (map view l.items) ≡ first_wrong fault l.number (map view (drop l.number l.items))
