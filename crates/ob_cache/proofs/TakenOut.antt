-- Values of rows that are gone, taken out of others: cell by cell, and row by row.
use Rattle.std.proofs.Common.{◌≡◌, ◌+◌, ◌<◌, ◌≤◌, ◌⊎◌, inl, inr, ℕ, zero, suc, Bool, true, false, cond, List, [], take, length, get_or, Option, Some, None, IsSome, Ok, refl, sym, ap, subst, ◌∙◌, arith}
use Rattle.std.specs.Prelude.{Contains, IfSome, option_and_then}
use Rattle.std.specs.Ordering.{is_eq}
use Rattle.std.specs.BTreeMap as tree
use Rattle.ob_base.specs.BrokenOrder.{cell_order}
use Rattle.ob_base.specs.declared.id.Cell.{Cell}
use Rattle.ob_base.specs.declared.id.FieldNo.{FieldNo}
use Rattle.ob_base.specs.declared.id.ModelNo.{ModelNo}
use Rattle.ob_base.specs.declared.id.RowKey.{RowKey}
use Rattle.ob_base.specs.declared.value.Value.{Value}
use Rattle.ob_cache.specs.Behind.{HasNoneOf, LosesGone}
use Rattle.ob_cache.specs.Rooms.{AreRight, IsComputedCell}
use Rattle.ob_cache.proofs.CellOrder.{cell-itself, cell-same}
use Rattle.ob_cache.proofs.MarkedValues.{contains-none, one-more}
use Rattle.ob_cache.proofs.OpenedTables.{within}
use Rattle.ob_schema.specs.Built.{numbered}
use Rattle.ob_schema.specs.Links.{Sides}
use Rattle.ob_schema.specs.Models.{HasField, field_at, fields_of, is_computed_from, model_at}
use Rattle.ob_schema.specs.Tables.{Tables, key_of, row_at}
use Rattle.ob_schema.specs.Val.{val}
use Rattle.ob_schema.specs.declared.info.FieldInfo.{FieldInfo}
use Rattle.ob_schema.specs.declared.info.ModelInfo.{ModelInfo}
use Rattle.ob_sound.specs.Touched.{TouchesOnly}
use Rattle.ob_tables.proofs.CallerLemmas.{not_there, there_is, told_and}

abbrev Filled : Type 0
Filled = tree.BTreeMap Cell Value

-- a cell's value is taken out
abbrev pub Takes : Cell → Filled → Filled → Type 0
Takes cell old new = (q : Cell) → tree.get cell_order new q ≡ cond (is_eq (cell_order cell q)) None (tree.get cell_order old q)

module _ (tables : Tables) where
  -- ---- cells of rows that aren't there

  pub loses-none : (values : Filled) → LosesGone tables values values
  loses-none values cell = inl refl

  pub loses-then : (a b c : Filled) → LosesGone tables a b → LosesGone tables b c → LosesGone tables a c
  loses-then a b c one next cell = by (one cell) (next cell)
    where
      by : (tree.get cell_order b cell ≡ tree.get cell_order a cell) ⊎ ((row_at tables cell.model cell.id ≡ None) × (tree.get cell_order b cell ≡ None))
          → (tree.get cell_order c cell ≡ tree.get cell_order b cell) ⊎ ((row_at tables cell.model cell.id ≡ None) × (tree.get cell_order c cell ≡ None))
          → (tree.get cell_order c cell ≡ tree.get cell_order a cell) ⊎ ((row_at tables cell.model cell.id ≡ None) × (tree.get cell_order c cell ≡ None))
      by (inl is) (inl also) = inl (also ∙ is)
      by (inr gone) (inl also) = inr (gone.0, also ∙ gone.1)
      by _ (inr gone) = inr gone

  pub loses-one : (old new : Filled) (cell : Cell) → row_at tables cell.model cell.id ≡ None → Takes cell old new → LosesGone tables old new
  loses-one old new cell gone takes q = by (is_eq (cell_order cell q)) refl (takes q)
    where
      by : (b : Bool) → is_eq (cell_order cell q) ≡ b → tree.get cell_order new q ≡ cond b None (tree.get cell_order old q)
          → (tree.get cell_order new q ≡ tree.get cell_order old q) ⊎ ((row_at tables q.model q.id ≡ None) × (tree.get cell_order new q ≡ None))
      by true same is = inr (subst (λ (c : Cell). row_at tables c.model c.id ≡ None) (cell-same cell q same) gone, is)
      by false same is = inl is

  -- what had no value has none
  pub still-none : (old new : Filled) → LosesGone tables old new → (cell : Cell) → tree.get cell_order old cell ≡ None → tree.get cell_order new cell ≡ None
  still-none old new loses cell none = elim (loses cell) [ inl is ↦ is ∙ none | inr gone ↦ gone.1 ]

-- ---- the fields of a model

pub field-within : (models : List ModelInfo) (model : ModelNo) (info : ModelInfo) → model_at models model ≡ Some info → (field : FieldNo) → HasField models model field → field.0 ≤ length (fields_of info)
field-within models model info is field has =
    within (fields_of info) field.0 (subst IsSome (ap (option_and_then (λ (i : ModelInfo). numbered (fields_of i) field.0)) is) has)

pub field-nowhere : (models : List ModelInfo) (model : ModelNo) → model_at models model ≡ None → (field : FieldNo) → HasField models model field → ⊥
field-nowhere models model none field has = not_there (field_at models model field) (ap (option_and_then (λ (i : ModelInfo). numbered (fields_of i) field.0)) none) has

module _ (models : List ModelInfo) (key : RowKey) where
  -- no cell of a row up to a field has a value
  abbrev pub NoneUpTo : ℕ → Filled → Type 0
  NoneUpTo place values = (cell : Cell) → key_of cell.model cell.id ≡ key → HasField models cell.model cell.field → cell.field.0 ≤ place → tree.get cell_order values cell ≡ None

  -- fields are numbered from 1
  pub up_to-none : (values : Filled) → NoneUpTo 0 values
  up_to-none values cell is has low = absurd (first (model_at models cell.model) cell.field.0 low has)
    where
      first : (o : Option ModelInfo) (n : ℕ) → n ≤ 0 → IsSome (option_and_then (λ (i : ModelInfo). numbered (fields_of i) n) o) → ⊥
      first None n low there = cc
      first (Some info) zero low there = cc
      first (Some info) (suc n) low there = omega arith

  -- one field more
  pub up_to-more : (place : ℕ) (old new : Filled) → Takes (record { model = key.model; id = key.id; field = record { 0 = place + 1 } }) old new → NoneUpTo place old → NoneUpTo (place + 1) new
  up_to-more place old new takes before cell is has low = by (is_eq (cell_order next cell)) refl (takes cell)
    where
      next : Cell
      next = record { model = key.model; id = key.id; field = record { 0 = place + 1 } }

      lower : (n : ℕ) → n ≤ place + 1 → (n ≡ place + 1 → ⊥) → n ≤ place
      lower n le apart = omega arith

      apart : is_eq (cell_order next cell) ≡ false → cell.field.0 ≡ place + 1 → ⊥
      apart other same =
          let one : cell ≡ next = λ i. record { model = (is i).model; id = (is i).id; field = record { 0 = same i } } in
          let not : false ≡ true = sym other ∙ ap (λ (c : Cell). is_eq (cell_order next c)) one ∙ cell-itself next in cc

      by : (b : Bool) → is_eq (cell_order next cell) ≡ b → tree.get cell_order new cell ≡ cond b None (tree.get cell_order old cell) → tree.get cell_order new cell ≡ None
      by true same now = now
      by false other now = now ∙ before cell is has (lower cell.field.0 low (apart other))

  -- all fields
  pub up_to-all : (last place : ℕ) → ((field : FieldNo) → HasField models key.model field → field.0 ≤ last) → last ≤ place → (values : Filled) → NoneUpTo place values → HasNoneOf models key values
  up_to-all last place all long values none cell is has =
      let low = all cell.field (subst (λ (m : ModelNo). HasField models m cell.field) (ap (λ (k : RowKey). k.model) is) has) in none cell is has (omega (arith, low, long))

module _ (models : List ModelInfo) (tables : Tables) where
  -- no cell of those of these rows that aren't there has a value
  abbrev pub NoneOf : List RowKey → Filled → Type 0
  NoneOf keys values = (cell : Cell) → Contains keys (key_of cell.model cell.id) → row_at tables cell.model cell.id ≡ None → HasField models cell.model cell.field → tree.get cell_order values cell ≡ None

  pub none-begun : (values : Filled) → NoneOf [] values
  none-begun values cell one gone has = absurd (contains-none (key_of cell.model cell.id) one)

  -- one row more
  pub none-more : (keys : List RowKey) (i : ℕ) (key : RowKey) → i < length keys → key ≡ get_or keys i key → (old new : Filled) → LosesGone tables old new
      → (row_at tables key.model key.id ≡ None → HasNoneOf models key new) → NoneOf (take i keys) old → NoneOf (take (i + 1) keys) new
  none-more keys i key low at old new loses here before cell one gone has = elim (one-more keys i key low at (key_of cell.model cell.id) one) [
    | inl earlier ↦ still-none tables old new loses cell (before cell earlier gone has)
    | inr same ↦ here (subst (λ (k : RowKey). row_at tables k.model k.id ≡ None) (sym same) gone) cell (sym same) has
  ]

-- ---- the rows that a change touched

module _ (models : List ModelInfo) (sides : Sides) (before values : Filled) (loses : LosesGone sides.behind before values) where
  -- values of rows that are there stay
  pub there-last : (cell : Cell) → IsSome (row_at sides.behind cell.model cell.id) → tree.get cell_order values cell ≡ tree.get cell_order before cell
  there-last cell there = elim (loses cell) [ inl is ↦ is | inr gone ↦ absurd (not_there (row_at sides.behind cell.model cell.id) gone.0 there) ]

  -- and rows that aren't there have none
  pub gone-lost : (touched : List RowKey) → TouchesOnly touched sides → AreRight models sides.before before → NoneOf models sides.behind touched values → (cell : Cell)
      → row_at sides.behind cell.model cell.id ≡ None → tree.get cell_order values cell ≡ None
  gone-lost touched touches right none cell gone = by (tree.get cell_order before cell) refl (right cell)
    where
      by : (o : Option Value) → tree.get cell_order before cell ≡ o → IfSome o (λ v. IsComputedCell models sides.before cell × (val models sides.before cell ≡ Ok v)) → tree.get cell_order values cell ≡ None
      by None is any = still-none sides.behind before values loses cell is
      by (Some v) is told = elim (touches cell.model cell.id) [
        | inl same ↦ absurd (not_there (row_at sides.before cell.model cell.id) (same ∙ gone) told.0.0)
        | inr one ↦ (let field = told_and (field_at models cell.model cell.field) (λ (i : FieldInfo). is_computed_from i.origin ≡ true) told.0.1 in
            none cell one gone (there_is (field_at models cell.model cell.field) field.0 field.1))
      ]
