-- Those of the ids so far whose rows stay.
use Rattle.std.proofs.Common.{◌≡◌, filter, not, take}
use Rattle.ob_unlink.specs.Deletion.{leads_to_gone}
use Rattle.ob_rows.specs.RowSets.{has_key}
use Rattle.ob_unlink.proofs.unlinking.leaving.remaining.Given as goal

abbrev pub invariant-loop-id : goal.invariant-loop-id
invariant-loop-id l = l.left ≡ filter (λ id. not (leads_to_gone (has_key l.rows) l.field id)) (take l.id-index l.ids)
