-- What a keeper keeps, as a finite map, and what changes do to it.
use Rattle.std.specs.Prelude.{◌≡◌, ℕ, ◌^◌, ◌<◌, ◌≤◌, ◌==◌, ◌&&◌, nat_lt, Bool, List, [], ◌∷◌, map, filter, length, Option, unwrap_or, IfSome, All, AllPairs, ◌≢◌}
use Rattle.std.specs.declared.cmp.Ordering.{Ordering}
use Rattle.std.specs.Ordering.{nat_cmp, ordering_then}
use Rattle.std.specs.List.{list_any}
use Rattle.std.specs.List.Sorted.{IsStrictlySortedBy}
use Rattle.std.specs.FinMap as finite
use Rattle.ob_base.specs.declared.id.ModelNo.{ModelNo}
use Rattle.ob_base.specs.declared.id.FieldNo.{FieldNo}
use Rattle.ob_base.specs.declared.id.RecId.{RecId}
use Rattle.ob_base.specs.Ids.{row_key_cmp}
use Rattle.ob_base.specs.Rising.{IsRising}
use Rattle.ob_io.specs.declared.store.Link.{Link}
use Rattle.ob_io.specs.declared.store.KeptRow.{KeptRow}
use Rattle.ob_io.specs.declared.store.Change.{Change}
use Rattle.ob_io.specs.declared.store.Change.TheVariants.{Put, Gone, Next}

-- by field, then target
abbrev pub link_cmp : Link → Link → Ordering
link_cmp a b = ordering_then (nat_cmp a.field.0 b.field.0) (nat_cmp a.target.0 b.target.0)

-- the rows by model and id, and the next ids that were set
pub record Store : Type 0 where
  pub rows : finite.FinMap row_key_cmp KeptRow
  pub next_ids : finite.FinMap nat_cmp ℕ

-- nothing is kept yet
abbrev pub empty_store : Store
empty_store = record { rows = finite.empty; next_ids = finite.empty }

-- the row of a model and an id, where it is kept
abbrev pub row_at : Store → ModelNo → RecId → Option KeptRow
row_at store model id = finite.get store.rows (record { model = model; id = id })

-- each row stands under its own id
abbrev pub RowsNamed : Store → Type 0
RowsNamed store = (model : ModelNo) (id : RecId) → IfSome (row_at store model id) (λ row. row.id ≡ id)

-- the model's next id, 1 where none was set
abbrev pub next_of : Store → ModelNo → ℕ
next_of store model = unwrap_or (finite.get store.next_ids model.0) 1

-- the row with its links rising by field, then target
abbrev pub in_order : KeptRow → KeptRow
in_order row = record { id = row.id; body = row.body; links = finite.keys (finite.from_entries {R = link_cmp} (map (λ link. (link, tt {0})) row.links)) }

-- what one change makes of a store
abbrev pub changed : Change → Store → Store
changed (Put model row) store = record { rows = finite.insert store.rows (record { model = model; id = row.id }) (in_order row); next_ids = store.next_ids }
changed (Gone model id) store = record { rows = finite.remove store.rows (record { model = model; id = id }); next_ids = store.next_ids }
changed (Next model next) store = record { rows = store.rows; next_ids = finite.insert store.next_ids model.0 next }

-- what changes make of a store, carried out in order
abbrev pub all_changed : List Change → Store → Store
all_changed [] store = store
all_changed (change ∷ changes) store = all_changed changes (changed change store)

-- the rows of a model with ids above that one, rising
abbrev pub rows_after : Store → ModelNo → RecId → List KeptRow
rows_after store model after = map (λ e. e.1) (filter (λ e. (e.0.model.0 == model.0) && nat_lt after.0 e.0.id.0) (finite.entries store.rows))

-- whether a row names the target by the field
abbrev pub has_link : FieldNo → RecId → KeptRow → Bool
has_link field target row = list_any (λ link. (link.field.0 == field.0) && (link.target.0 == target.0)) row.links

-- the ids above that one of the rows of a model that name the target by the field, rising
abbrev pub holders_after : Store → ModelNo → FieldNo → RecId → RecId → List RecId
holders_after store model field target after = map (λ row. row.id) (filter (has_link field target) (rows_after store model after))

-- a number that a keeper may be handed and may answer
abbrev pub Fits63 : ℕ → Type 0
Fits63 n = n < 2 ^ 63

-- a row that a keeper may be handed: distinct links, and numbers below 2^63
pub record IsRowFit (row : KeptRow) : Type 0 where
  pub id : Fits63 row.id.0
  pub targets : All (λ link. Fits63 link.target.0) row.links
  pub distinct : AllPairs (λ a b. a ≢ b) row.links

-- a change that a keeper may be handed
abbrev pub IsChangeFit : Change → Type 0
IsChangeFit (Put model row) = IsRowFit row
IsChangeFit (Gone model id) = Fits63 id.0
IsChangeFit (Next model next) = Fits63 next

-- a row that a keeper answers: of the asked id, its links rising by field and then target, its numbers below 2^63
pub record IsAnswerOf (id : RecId) (row : KeptRow) : Type 0 where
  pub same_id : row.id ≡ id
  pub rising : IsStrictlySortedBy link_cmp row.links
  pub targets : All (λ link. Fits63 link.target.0) row.links

-- at most so many ids, above that one and rising
pub record IsPage (after : RecId) (most : ℕ) (ids : List RecId) : Type 0 where
  pub few : length ids ≤ most
  pub above : All (λ id. (after.0 < id.0) × Fits63 id.0) ids
  pub rising : IsRising ids
