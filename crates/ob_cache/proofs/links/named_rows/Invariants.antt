use Rattle.std.proofs.Common.{◌≡◌, filter, is_some, take}
use Rattle.ob_schema.specs.Tables.{row_at}
use Rattle.ob_cache.proofs.links.named_rows.Given as goal

-- of the ids so far those of rows that are there
abbrev pub invariant-loop-id : goal.invariant-loop-id
invariant-loop-id l = l.there ≡ filter (λ id. is_some (row_at l.tables.tables l.model id)) (take l.id-index l.id-items)
