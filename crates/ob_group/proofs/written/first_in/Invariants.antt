use Rattle.std.proofs.Common.{◌≡◌, drop, map}
use Rattle.serde_json.specs.View.{view}
use Rattle.ob_call.specs.Forms.{fields_at}
use Rattle.ob_group.specs.GroupForms.{first_in}
use Rattle.ob_group.proofs.written.first_in.Given as goal

-- none of those before is a text
abbrev pub invariant-loop-item : goal.invariant-loop-item
invariant-loop-item l = first_in (fields_at l.schema l.model) (map view l.items) ≡ first_in (fields_at l.schema l.model) (map view (drop l.item-index l.items))
