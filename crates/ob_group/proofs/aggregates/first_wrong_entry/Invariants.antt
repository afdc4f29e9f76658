use Rattle.std.proofs.Common.{◌≡◌, ℕ, List, drop, map}
use Rattle.serde_json.specs.View.{view}
use Rattle.ob_call.specs.Forms.{fields_at}
use Rattle.ob_group.specs.GroupForms.{first_wrong_entry}
use Rattle.ob_group.specs.GroupParts.{AreTaken}
use Rattle.ob_group.proofs.aggregates.first_wrong_entry.Given as goal

-- none of those before is wrong, and their keys are taken too
abbrev pub invariant-loop-number : goal.invariant-loop-number
invariant-loop-number l = (keys : List (List ℕ)) → AreTaken keys l.fn.taken
    → (more : List (List ℕ)) × AreTaken more l.taken
    × (first_wrong_entry (fields_at l.schema l.model) keys 0 (map view l.items) ≡ first_wrong_entry (fields_at l.schema l.model) more l.number (map view (drop l.number l.items)))
