-- What the store that slots show becomes when one of the two maps changes, and which room is kept.
use Rattle.std.proofs.Common.{◌≡◌, ℕ, Option, IsSome, cond, ap}
use Rattle.std.specs.Ordering.{nat_cmp, eq_by_cmp}
use Rattle.std.specs.Cmp.{nat_cmp_total}
use Rattle.std.proofs.lemmas.Map.Lookups.{exact_unsigned}
use Rattle.std.specs.BTreeMap.{BTreeMap, get}
use Rattle.ob_base.specs.declared.id.RowKey.{RowKey}
use Rattle.ob_io.specs.declared.store.KeptRow.{KeptRow}
use Rattle.ob_io.specs.declared.store.Change.{Change}
use Rattle.ob_io.specs.declared.store.Change.TheVariants.{Put, Gone, Next}
use Rattle.ob_io.specs.declared.slots.Slots.{Slots}
use Rattle.ob_base.specs.Ids.{row_key_cmp}
use Rattle.ob_io.specs.Slots.{content, set_to, shown, shown_store, HasRoom}
use Rattle.ob_io.proofs.Shown.{exact_rows, rows_total, shown_same, shown_set}

-- the slots with other rows, or with other next ids
abbrev pub with_rows : Slots → BTreeMap RowKey (Option KeptRow) → Slots
with_rows s rows = record { rows = rows; next_ids = s.next_ids }

abbrev pub with_next : Slots → BTreeMap ℕ (Option ℕ) → Slots
with_next s next = record { rows = s.rows; next_ids = next }

module _ (s : Slots) (n : BTreeMap RowKey (Option KeptRow)) where
  pub rows_same : ((q : RowKey) → content row_key_cmp n q ≡ content row_key_cmp s.rows q) → shown_store (with_rows s n) ≡ shown_store s
  rows_same h = ap (λ rows. record { rows = rows; next_ids = shown s.next_ids.entries }) (shown_same rows_total exact_rows s.rows n h)

  pub rows_set : (k : RowKey) (w : Option KeptRow) → ((q : RowKey) → content row_key_cmp n q ≡ cond (eq_by_cmp row_key_cmp k q) w (content row_key_cmp s.rows q))
      → shown_store (with_rows s n) ≡ record { rows = set_to (shown s.rows.entries) k w; next_ids = shown s.next_ids.entries }
  rows_set k w h = ap (λ rows. record { rows = rows; next_ids = shown s.next_ids.entries }) (shown_set rows_total exact_rows s.rows n k w h)

  pub rows_room_kept : ((q : RowKey) → IsSome (get row_key_cmp s.rows q) → IsSome (get row_key_cmp n q)) → (c : Change) → HasRoom s c → HasRoom (with_rows s n) c
  rows_room_kept h (Put model row) = h _
  rows_room_kept h (Gone model id) = h _
  rows_room_kept h (Next model next) = λ room. room

module _ (s : Slots) (n : BTreeMap ℕ (Option ℕ)) where
  pub next_same : ((q : ℕ) → content nat_cmp n q ≡ content nat_cmp s.next_ids q) → shown_store (with_next s n) ≡ shown_store s
  next_same h = ap (λ next. record { rows = shown s.rows.entries; next_ids = next }) (shown_same nat_cmp_total exact_unsigned s.next_ids n h)

  pub next_set : (k : ℕ) (w : Option ℕ) → ((q : ℕ) → content nat_cmp n q ≡ cond (eq_by_cmp nat_cmp k q) w (content nat_cmp s.next_ids q))
      → shown_store (with_next s n) ≡ record { rows = shown s.rows.entries; next_ids = set_to (shown s.next_ids.entries) k w }
  next_set k w h = ap (λ next. record { rows = shown s.rows.entries; next_ids = next }) (shown_set nat_cmp_total exact_unsigned s.next_ids n k w h)

  pub next_room_kept : ((q : ℕ) → IsSome (get nat_cmp s.next_ids q) → IsSome (get nat_cmp n q)) → (c : Change) → HasRoom s c → HasRoom (with_next s n) c
  next_room_kept h (Put model row) = λ room. room
  next_room_kept h (Gone model id) = λ room. room
  next_room_kept h (Next model next) = h _
