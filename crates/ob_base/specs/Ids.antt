-- Ids of rows within their limits, and the order of rows.
use Rattle.std.specs.Prelude.{◌≤◌}
use Rattle.std.specs.declared.cmp.Ordering.{Ordering}
use Rattle.std.specs.Ordering.{nat_cmp, ordering_then}
use Rattle.ob_base.specs.declared.id.RecId.{RecId}
use Rattle.ob_base.specs.declared.id.RowKey.{RowKey}
use Rattle.ob_base.specs.Limits.{max_id}

-- an id that a row may have: 1 to 4,294,967,295
abbrev pub IsId : RecId → Type 0
IsId id = (1 ≤ id.0) × (id.0 ≤ max_id)

-- by model, then id
abbrev pub row_key_cmp : RowKey → RowKey → Ordering
row_key_cmp a b = ordering_then (nat_cmp a.model.0 b.model.0) (nat_cmp a.id.0 b.id.0)
