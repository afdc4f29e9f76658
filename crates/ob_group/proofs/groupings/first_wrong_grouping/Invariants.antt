use Rattle.std.proofs.Common.{◌≡◌, [], drop, map}
use Rattle.serde_json.specs.View.{view}
use Rattle.ob_call.specs.Forms.{fields_at}
use Rattle.ob_group.specs.GroupForms.{first_wrong_grouping}
use Rattle.ob_group.specs.GroupParts.{text_of}
use Rattle.ob_group.proofs.groupings.first_wrong_grouping.Given as goal

-- none of those before is wrong
abbrev pub invariant-loop-number : goal.invariant-loop-number
invariant-loop-number l =
    first_wrong_grouping (fields_at l.schema l.model) [] 0 (map view l.items) ≡ first_wrong_grouping (fields_at l.schema l.model) (map text_of l.earlier.items) l.number (map view (drop l.number l.items))
