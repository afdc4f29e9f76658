-- Which rows a deletion takes, what keeps them, and what is left, from what its steps say.
use Rattle.std.proofs.Common.{◌≡◌, ◌↔◌, ◌<◌, inl, inr, ℕ, true, List, Option, refl, sym, subst, arith}
use Rattle.std.specs.Prelude.{All, Any, Contains, IsSome}
use Rattle.std.specs.BTreeSet as sorted
use Rattle.std.proofs.lemmas.List.Elements.{All-contains, All-map, All-weaker}
use Rattle.ob_base.specs.declared.id.Cell.{Cell}
use Rattle.ob_base.specs.declared.id.ModelNo.{ModelNo}
use Rattle.ob_base.specs.declared.id.RowKey.{RowKey}
use Rattle.ob_base.specs.declared.refusal.BrokenKind.{BrokenKind}
use Rattle.ob_base.specs.declared.refusal.BrokenKind.TheVariants as kind
use Rattle.ob_base.specs.declared.refusal.Refusal.{Refusal}
use Rattle.ob_base.specs.declared.refusal.Refusal.TheVariants as refusal
use Rattle.ob_base.specs.declared.value.Value.{Value}
use Rattle.ob_cache.proofs.CallerLemmas.{Refuses-weaker}
use Rattle.ob_cache.specs.Calls.{Refuses, settled_over}
use Rattle.ob_cache.specs.Stages.{IsKeptRelation, resting, settled_of, with_edits}
use Rattle.ob_cache.specs.Standing.{Holding, RestsAt, Stands, Stays, max_next_id}
use Rattle.ob_io.specs.Store.{Store}
use Rattle.ob_rows.specs.Settling.{BreaksField, IsBrokenBy}
use Rattle.ob_unlink.specs.Deletion.{AreLeft, BarsAs, IsDeleted, is_cascaded, is_named, row_of_cell}
use Rattle.ob_unlink.specs.DeletionSteps.{AreFit, BarsRow, BarsRowAs, Covers, IsFitCell, RestrictsBy, SettlesDeletion, IsBarredBy, IsDeletion, IsFitRow, IsMakingNone, IsRestricting, IsStoppedBy, MayAllGo, MayGo, deletion_edits, gone_edits}
use Rattle.ob_rows.specs.RowSets.{has_key}
use Rattle.ob_unlink.specs.Unlink.{AreDeleted}
use Rattle.ob_rows.specs.Rights.{rows_named}
use Rattle.ob_rows.specs.There.{AreThere}
use Rattle.ob_rows.proofs.CallerLemmas.{all_among, any_one, contains-map, rests-sound, row-among, row-of-kept, sound_in, stays-rests}
use Rattle.ob_unlink.proofs.Emptied.{emptied}
use Rattle.ob_unlink.proofs.TakenRows.{cell-among}
use Rattle.ob_schema.specs.Broken.{Sound}
use Rattle.ob_schema.specs.Models.{HasField, HasModel, IsRegistry, field_at}
use Rattle.ob_schema.specs.Plain.{names}
use Rattle.ob_schema.specs.Tables.{Fits, Tables, kept_at, row_at}
use Rattle.ob_schema.specs.declared.info.ModelInfo.{ModelInfo}
use Rattle.ob_tables.proofs.CallerLemmas.{there_is, told_and}
use Rattle.ob_tables.specs.After.{after}
use Rattle.ob_tables.specs.Changes.{MakesBelow}
use Rattle.ob_tables.specs.Fitting.{IsFitEdit}
use Rattle.ob_tables.specs.declared.edit.Edit.{Edit}
use Rattle.ob_tables.specs.declared.edit.Edit.TheVariants as edit

module _ (models : List ModelInfo) (tables : Tables) (rows : sorted.BTreeSet RowKey) (cells : sorted.BTreeSet Cell) where
  -- ---- all that go are there

  module _ (model : ModelNo) (ids : List ℕ) (there : AreThere model tables ids) where
    row-there : (row : RowKey) → IsDeleted models tables (rows_named model ids) row → IsSome (row_at tables row.model row.id)
    row-there row (is_named _ c) =
        let id = contains-map (λ (id : ℕ). let row : RowKey = record { model = model; id = record { 0 = id } } in row) ids row c in
        subst (λ (r : RowKey). IsSome (row_at tables r.model r.id)) id.2 (All-contains (λ (id : ℕ). IsSome (row_at tables model (record { 0 = id }))) ids id.0 there id.1)
    row-there row (is_cascaded cell other goes named action) =
        let kept = told_and (kept_at tables cell) (λ (v : Value). names other.id v ≡ true) named.named in row-of-kept tables cell kept.0 kept.1

    pub covers-of : IsDeletion models tables (rows_named model ids) rows cells → Covers models tables rows cells
    covers-of deletion = record { there = λ row has. row-there row ((deletion.goes row).0 has); name = deletion.name }

  module _ (covers : Covers models tables rows cells) where
    -- each of the rows as a list is there
    pub all-there : All (λ (row : RowKey). IsSome (row_at tables row.model row.id)) rows.keys
    all-there = all_among (λ (row : RowKey). IsSome (row_at tables row.model row.id)) rows.keys (λ row c. covers.there row ((row-among rows row).1 c))

    -- and each of the cells is kept
    pub all-kept : All (λ (cell : Cell). IsSome (kept_at tables cell)) cells.keys
    all-kept = all_among (λ (cell : Cell). IsSome (kept_at tables cell)) cells.keys
        (λ cell c. let one = (covers.name cell).0 ((cell-among cells cell).1 c) in there_is (kept_at tables cell) _ (told_and (kept_at tables cell) (λ (v : Value). names one.0.id v ≡ true) one.2.named).1)

    -- ---- what keeps them

    -- where no row of its own and no cell does, nothing does
    pub none-bars : All (MayGo models tables) rows.keys → All (λ cell. IsRestricting models (has_key rows) cell → ⊥) cells.keys → MayAllGo models tables rows
    none-bars may_go unrestricted b bars = by b.kind bars
      where
        may : (row : RowKey) → has_key rows row ≡ true → MayGo models tables row
        may row goes = All-contains (MayGo models tables) rows.keys row may_go ((row-among rows row).0 goes)

        by : (k : BrokenKind) → BarsAs models tables (has_key rows) k b.cell → ⊥
        by kind.Restrict is =
            All-contains (λ (cell : Cell). IsRestricting models (has_key rows) cell → ⊥) cells.keys b.cell unrestricted ((cell-among cells b.cell).0 ((covers.name b.cell).1 (is.row, is.goes, is.named))) (is.action, is.stays)
        by kind.Managed is = (may (row_of_cell b.cell) is.goes).passing is.lasts
        by kind.Locked is = (may (row_of_cell b.cell) is.goes).unlocked is.locked
        by _ is = is

    -- a row that may not go
    pub row-bars : (w : Refusal) → Any (λ row. BarsRow models tables row w) rows.keys → IsBarredBy models tables rows w
    row-bars (refusal.Constraint b) any =
        let one = any_one (λ row. BarsRow models tables row (refusal.Constraint b)) rows.keys any in
        let row = one.0 in
        let own = one.2.0 in
        by row own (subst (λ (r : RowKey). has_key rows r ≡ true) (sym own) ((row-among rows row).1 one.1)) b.kind one.2.1
      where
        by : (row : RowKey) → row_of_cell b.cell ≡ row → has_key rows (row_of_cell b.cell) ≡ true → (k : BrokenKind) → BarsRowAs models tables k row b.cell.field → BarsAs models tables (has_key rows) k b.cell
        by row own goes k such = at goes k (subst (λ (r : RowKey). BarsRowAs models tables k r b.cell.field) (sym own) such)
          where
            at : has_key rows (row_of_cell b.cell) ≡ true → (k : BrokenKind) → BarsRowAs models tables k (row_of_cell b.cell) b.cell.field → BarsAs models tables (has_key rows) k b.cell
            at goes kind.Managed (lasts, is_id) = record { goes = goes; lasts = lasts; is_id = is_id }
            at goes kind.Locked (locked, told) = record { goes = goes; locked = locked; told = told }
            at goes _ is = absurd is
    row-bars _ any = absurd (any_one (λ (row : RowKey). ⊥) rows.keys any).2

    -- a cell of a row that stays
    pub cell-bars : (w : Refusal) (cell : Cell) → Contains cells.keys cell → IsRestricting models (has_key rows) cell → w ≡ refusal.Constraint (record { kind = kind.Restrict; cell = cell }) → IsBarredBy models tables rows w
    cell-bars w cell among (action, stays) is =
        let one = (covers.name cell).0 ((cell-among cells cell).1 among) in
        subst (IsBarredBy models tables rows) (sym is) (record { stays = stays; action = action; row = one.0; named = one.2; goes = one.1 })

    -- ---- what is left

    module _ (registry : IsRegistry models) (fits : Fits models tables) (some : List RowKey) (goes : (row : RowKey) → (has_key rows row ≡ true) ↔ IsDeleted models tables some row) (edits : List Edit)
        (are : edits ≡ deletion_edits models tables rows cells) where
      left : AreLeft models (has_key rows) tables (after models tables edits)
      left = subst (λ (es : List Edit). AreLeft models (has_key rows) tables (after models tables es)) (sym are) (emptied models tables registry fits rows cells covers)

      -- the rows are deleted
      pub are-deleted : MayAllGo models tables rows → Sound models (after models tables edits) → AreDeleted models some tables (after models tables edits)
      are-deleted may_go sound = record { gone = has_key rows; with_these = goes; may_go = may_go; left = left; sound = sound }

      -- or the tables without them break something
      pub breaks-stop : (w : Refusal) → IsBrokenBy models (after models tables edits) w → IsStoppedBy models tables some w
      breaks-stop (refusal.Constraint b) broken = record { gone = has_key rows; with_these = goes; stops = inr (after models tables edits, left, broken) }
      breaks-stop _ broken = absurd broken

  -- what keeps them stops their deletion
  pub bars-stop : (some : List RowKey) → ((row : RowKey) → (has_key rows row ≡ true) ↔ IsDeleted models tables some row) → (w : Refusal) → IsBarredBy models tables rows w → IsStoppedBy models tables some w
  bars-stop some goes (refusal.Constraint b) bars = record { gone = has_key rows; with_these = goes; stops = inl bars }
  bars-stop some goes _ bars = absurd bars

-- ---- the edits may be asked for

pub edits-fit : (models : List ModelInfo) (edits : List Edit) → All (IsMakingNone models) edits → All (IsFitEdit models) edits
edits-fit models edits all = All-weaker (IsMakingNone models) (IsFitEdit models) (λ one fit. fit.0) edits all

makes-none : (model : ModelNo) (one : Edit) → MakesBelow model 0 one → MakesBelow model max_next_id one
makes-none model (edit.Make other id values) below = λ same. absurd (none id.0 (below same))
  where
    none : (n : ℕ) → n < 0 → ⊥
    none n low = omega (arith, low)
makes-none model (edit.Set cell v) below = tt
makes-none model (edit.Gone other id) below = tt

pub edits-below : (models : List ModelInfo) (edits : List Edit) → All (IsMakingNone models) edits → (model : ModelNo) → All (MakesBelow model max_next_id) edits
edits-below models edits all model = All-weaker (IsMakingNone models) (MakesBelow model max_next_id) (λ one fit. makes-none model one (fit.1 model)) edits all

-- those that take rows out
pub gone-fit : (models : List ModelInfo) (rows : List RowKey) → All (IsFitRow models) rows → All (IsMakingNone models) (gone_edits rows)
gone-fit models rows all =
    All-map (IsMakingNone models) (λ (row : RowKey). edit.Gone row.model row.id) rows
    (All-weaker (IsFitRow models) (λ row. IsMakingNone models (edit.Gone row.model row.id)) (λ row fit. ((fit.1, fit.0), λ model. tt)) rows all)

-- ---- refusals of cells

module _ (models : List ModelInfo) (rows : sorted.BTreeSet RowKey) (cells : sorted.BTreeSet Cell) where
  -- a cell that restricts is told
  pub restricts-told : (rose : Type 0) (w : Refusal) (cell : Cell) → Contains cells.keys cell → IsRestricting models (has_key rows) cell → w ≡ refusal.Constraint (record { kind = kind.Restrict; cell = cell })
      → Refuses rose (RestrictsBy models rows cells) w
  restricts-told rose w cell among restricts is = subst (Refuses rose (RestrictsBy models rows cells)) (sym is) (refl, among, restricts)

  -- and keeps the rows that it names
  pub restricts-bars : (tables : Tables) → Covers models tables rows cells → (w : Refusal) → RestrictsBy models rows cells w → IsBarredBy models tables rows w
  restricts-bars tables covers (refusal.Constraint b) (is, among, restricts) =
      cell-bars models tables rows cells covers (refusal.Constraint b) b.cell among restricts (λ i. refusal.Constraint (record { kind = is i; cell = b.cell }))
  restricts-bars tables covers _ h = absurd h

  -- it is one of the models'
  pub restricts-field : AreFit models rows cells → (w : Refusal) → RestrictsBy models rows cells w → BreaksField models w
  restricts-field fit (refusal.Constraint b) (is, among, restricts) = let t = told_and (field_at models b.cell.model b.cell.field) _ restricts.0 in there_is (field_at models b.cell.model b.cell.field) t.0 t.1
  restricts-field fit _ h = absurd h

-- ---- the rows and cells of a deletion are of the registry

module _ (models : List ModelInfo) (rows : sorted.BTreeSet RowKey) (cells : sorted.BTreeSet Cell) (fit : AreFit models rows cells) where
  pub rows-fit : All (IsFitRow models) rows.keys
  rows-fit = all_among (IsFitRow models) rows.keys (λ row c. fit.rows_fit row ((row-among rows row).1 c))

  pub rows-models : All (λ (row : RowKey). HasModel models row.model) rows.keys
  rows-models = all_among (λ (row : RowKey). HasModel models row.model) rows.keys (λ row c. (fit.rows_fit row ((row-among rows row).1 c)).0)

  pub cells-fit : All (IsFitCell models) cells.keys
  cells-fit = all_among (IsFitCell models) cells.keys (λ cell c. fit.cells_fit cell ((cell-among cells cell).1 c))

  pub cells-fields : All (λ (cell : Cell). HasField models cell.model cell.field) cells.keys
  cells-fields = all_among (λ (cell : Cell). HasField models cell.model cell.field) cells.keys
      (λ cell c. let t = told_and (field_at models cell.model cell.field) IsKeptRelation (fit.cells_fit cell ((cell-among cells cell).1 c)).0 in there_is (field_at models cell.model cell.field) t.0 t.1)

-- ---- what is settled

module _ (first second third : Option Store) (old mid new : Holding) (stays : Stays first old second mid) (registry : IsRegistry old.models) (model : ModelNo) (ids : List ℕ) (rows : sorted.BTreeSet RowKey)
    (cells : sorted.BTreeSet Cell) (edits items : List Edit) (passed : items ≡ edits)
    (told : (tables : Tables) → RestsAt first old tables → IsDeletion old.models tables (rows_named model ids) rows cells)
    (made : (tables : Tables) → RestsAt first old tables → Covers old.models tables rows cells → MayAllGo old.models tables rows × (edits ≡ deletion_edits old.models tables rows cells)) where
  -- the rows are deleted
  pub settles-all : ((tables : Tables) → RestsAt second mid tables → Stands third new (settled_of (with_edits (resting mid.models tables) items)))
      → (tables : Tables) → RestsAt first old tables → AreThere model tables ids → SettlesDeletion third new old.models tables (rows_named model ids)
  settles-all settled tables rests there =
      let deletion = told tables rests in
      let covers = covers-of old.models tables rows cells model ids there deletion in
      let (may, are) = made tables rests covers in
      let now = after old.models tables edits in
      let stands : Stands third new (settled_over old.models tables now) =
      subst (λ (es : List Edit). Stands third new (settled_of (with_edits (resting old.models tables) es))) passed
      (subst (λ (ms : List ModelInfo). Stands third new (settled_of (with_edits (resting ms tables) items))) stays.models (settled tables (stays-rests first second old mid stays tables rests))) in
      let fits = (rests-sound first old tables rests).fits in (
        now,
        are-deleted old.models tables rows cells covers registry fits (rows_named model ids) deletion.goes edits are may (sound_in old.models tables now third stands.over),
        stands,
      )

  -- or something stops that
  pub stops-all : (earlier later : Type 0) (w : Refusal) → (later → earlier)
      → ((tables : Tables) → RestsAt second mid tables → RestsAt third new tables × Refuses later (IsBrokenBy mid.models (after mid.models tables items)) w)
      → (tables : Tables) → RestsAt first old tables → AreThere model tables ids → RestsAt third new tables × Refuses earlier (IsStoppedBy old.models tables (rows_named model ids)) w
  stops-all earlier later w up refused tables rests there =
      let deletion = told tables rests in
      let covers = covers-of old.models tables rows cells model ids there deletion in
      let (may, are) = made tables rests covers in
      let own = refused tables (stays-rests first second old mid stays tables rests) in
      let fits = (rests-sound first old tables rests).fits in (
        own.0,
        Refuses-weaker later earlier (IsBrokenBy mid.models (after mid.models tables items)) (IsStoppedBy old.models tables (rows_named model ids)) w up
            (λ x broken. breaks-stop old.models tables rows cells covers registry fits (rows_named model ids) deletion.goes edits are x
            (subst (λ (es : List Edit). IsBrokenBy old.models (after old.models tables es) x) passed (subst (λ (ms : List ModelInfo). IsBrokenBy ms (after ms tables items) x) stays.models broken)))
            own.1,
      )
