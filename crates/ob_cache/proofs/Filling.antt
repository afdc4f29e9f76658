-- The values of computed cells as they are gathered: cell by cell, field by field, model by model.
use Rattle.std.proofs.Common.{◌≡◌, ◌+◌, ◌<◌, ◌≤◌, ◌⊎◌, ◌++◌, inl, inr, ℕ, zero, suc, true, List, [], ◌∷◌, take, length, get_or, Option, Some, None, IsSome, refl, sym, ap, subst, ◌∙◌, arith, length-append}
use Rattle.std.specs.Prelude.{IsOk, IsSomeAnd, option_and_then}
use Rattle.std.specs.List.{slice_get}
use Rattle.std.specs.BTreeMap as tree
use Rattle.std.proofs.lemmas.Bool.{cases_eq}
use Rattle.std.proofs.lemmas.List.{take_more, take_all}
use Rattle.std.proofs.lemmas.Option.{option_and_then_some}
use Rattle.ob_base.specs.BrokenOrder.{cell_order}
use Rattle.ob_base.specs.Limits.{max_models}
use Rattle.ob_base.specs.declared.id.Cell.{Cell}
use Rattle.ob_base.specs.declared.id.FieldNo.{FieldNo}
use Rattle.ob_base.specs.declared.id.ModelNo.{ModelNo}
use Rattle.ob_base.specs.declared.id.RecId.{RecId}
use Rattle.ob_base.specs.declared.value.Value.{Value}
use Rattle.ob_cache.specs.Reading.{IsOneOf}
use Rattle.ob_cache.specs.Rooms.{AreRight, AreValues, HaveValues, IsIn, IsOf, KeepsAll}
use Rattle.ob_cache.proofs.Gathering.{one-at, one-split}
use Rattle.ob_cache.proofs.OpenedTables.{within}
use Rattle.ob_cache.proofs.SoundForms.{no_value}
use Rattle.ob_expr.specs.Computing.{overflow, too_long, zero_divisor}
use Rattle.ob_schema.specs.Built.{numbered}
use Rattle.ob_schema.specs.Models.{IsRegistry, field_at, fields_of, is_computed_from, model_at}
use Rattle.ob_schema.specs.Tables.{Tables, ids_in, row_at}
use Rattle.ob_schema.specs.Val.{val}
use Rattle.ob_schema.specs.declared.info.FieldInfo.{FieldInfo}
use Rattle.ob_schema.specs.declared.info.ModelInfo.{ModelInfo}
use Rattle.ob_tables.specs.Faults.{HasNoValue}
use Rattle.ob_tables.specs.declared.fault.ScratchFault.{ScratchFault}
use Rattle.ob_tables.specs.declared.fault.ScratchFault.TheVariants as scratch
use Rattle.ob_tables.proofs.CallerLemmas.{not_there, there_is, told_and}

-- a cell that has a value lacks it for no reason but want of memory
pub no-fault : (models : List ModelInfo) (tables : Tables) (cell : Cell) (f : ScratchFault) → IsSome (row_at tables cell.model cell.id) → IsOk (val models tables cell) → HasNoValue models tables cell f → f ≡ scratch.NoMemory
no-fault models tables cell scratch.Missing there ok none = absurd (not_there (row_at tables cell.model cell.id) none there)
no-fault models tables cell scratch.Overflow there ok is = absurd (no_value (val models tables cell) overflow is ok)
no-fault models tables cell scratch.TooLong there ok is = absurd (no_value (val models tables cell) too_long is ok)
no-fault models tables cell scratch.ZeroDivisor there ok is = absurd (no_value (val models tables cell) zero_divisor is ok)
no-fault models tables cell scratch.NoMemory there ok is = refl

-- the map of values
abbrev Filled : Type 0
Filled = tree.BTreeMap Cell Value

-- the cell of a field in a row
abbrev pub cell_of : ModelNo → FieldNo → RecId → Cell
cell_of model field id = record { model = model; id = id; field = field }

-- the cells of a field in some rows have values
abbrev pub HaveRows : ModelNo → FieldNo → List RecId → Filled → Type 0
HaveRows model field ids values = (id : RecId) → IsOneOf id ids → IsSome (tree.get cell_order values (cell_of model field id))

pub rows-none : (model : ModelNo) (field : FieldNo) (values : Filled) → HaveRows model field [] values
rows-none model field values id one = absurd one

-- one more row
pub rows-more : (model : ModelNo) (field : FieldNo) (ids : List RecId) (i : ℕ) (id : RecId) → i < length ids → id ≡ get_or ids i id → (old new : Filled) → KeepsAll old new
    → HaveRows model field (take i ids) old → IsSome (tree.get cell_order new (cell_of model field id)) → HaveRows model field (take (i + 1) ids) new
rows-more model field ids i id low at old new keeps before here other one = by (one-split other id (take i ids) (subst (IsOneOf other) (take_more ids i id low ∙ ap (λ (x : RecId). take i ids ++ x ∷ []) (sym at)) one))
  where
    by : IsOneOf other (take i ids) ⊎ (other ≡ id) → IsSome (tree.get cell_order new (cell_of model field other))
    by (inl earlier) = keeps (cell_of model field other) (before other earlier)
    by (inr is) = subst (λ (r : RecId). IsSome (tree.get cell_order new (cell_of model field r))) (sym is) here

module _ (models : List ModelInfo) (tables : Tables) where
  -- all rows
  pub rows-all : (model : ModelNo) (field : FieldNo) (i : ℕ) (values : Filled) → ((id : RecId) → IsSome (row_at tables model id) → (place : ℕ) × (slice_get (ids_in tables model) place ≡ Some id))
      → length (ids_in tables model) ≤ i → HaveRows model field (take i (ids_in tables model)) values → HaveValues models tables (IsIn model field) values
  rows-all model field i values listed long all cell at is =
      let place = listed cell.id (subst (λ (m : ModelNo). IsSome (row_at tables m cell.id)) at.model_is is.0) in
      subst (λ (c : Cell). IsSome (tree.get cell_order values c)) (λ j. cell_of (sym at.model_is j) (sym at.field_is j) cell.id)
      (all cell.id (subst (IsOneOf cell.id) (sym (take_all i (ids_in tables model) long)) (one-at (ids_in tables model) place.0 cell.id place.1)))

  -- a field that no formula computes has no such cells
  pub column-passed : (model : ModelNo) (field : FieldNo) (values : Filled) → (IsSomeAnd (field_at models model field) (λ info. is_computed_from info.origin ≡ true) → ⊥) → HaveValues models tables (IsIn model field) values
  column-passed model field values not cell at is =
      absurd (not (subst (λ (m : ModelNo). IsSomeAnd (field_at models m field) (λ info. is_computed_from info.origin ≡ true)) at.model_is
      (subst (λ (f : FieldNo). IsSomeAnd (field_at models cell.model f) (λ info. is_computed_from info.origin ≡ true)) at.field_is is.1)))

  -- the cells of the fields of a model up to a number
  pub record IsBefore (model : ModelNo) (place : ℕ) (cell : Cell) : Type 0 where
    pub model_is : cell.model ≡ model
    pub low : cell.field.0 ≤ place

  pub fields-none : (model : ModelNo) (values : Filled) → HaveValues models tables (IsBefore model 0) values
  fields-none model values cell before is = absurd (by cell.field.0 before.low is.1)
    where
      by : (n : ℕ) → n ≤ 0 → IsSomeAnd (field_at models cell.model (record { 0 = n })) (λ info. is_computed_from info.origin ≡ true) → ⊥
      by zero low known = let t = told_and (field_at models cell.model (record { 0 = 0 })) (λ info. is_computed_from info.origin ≡ true) known in no-field (model_at models cell.model) t.0 t.1
        where
          no-field : (o : Option ModelInfo) (f : FieldInfo) → option_and_then (λ info. numbered (fields_of info) 0) o ≡ Some f → ⊥
          no-field None f is = cc
          no-field (Some info) f is = cc
      by (suc n) low known = omega arith

  pub fields-more : (model : ModelNo) (place : ℕ) (field : FieldNo) → field.0 ≡ place + 1 → (old new : Filled) → KeepsAll old new
      → HaveValues models tables (IsBefore model place) old → HaveValues models tables (IsIn model field) new → HaveValues models tables (IsBefore model (place + 1)) new
  fields-more model place field number old new keeps before here cell at is = by (cases_eq cell.field.0 (place + 1))
    where
      lower : (n : ℕ) → n ≤ place + 1 → (n ≡ place + 1 → ⊥) → n ≤ place
      lower n le apart = omega arith

      by : (cell.field.0 ≡ place + 1) ⊎ (cell.field.0 ≡ place + 1 → ⊥) → IsSome (tree.get cell_order new cell)
      by (inl same) = here cell (record { model_is = at.model_is; field_is = ap (λ (n : ℕ). record { 0 = n }) (same ∙ sym number) }) is
      by (inr apart) = keeps cell (before cell (record { model_is = at.model_is; low = lower cell.field.0 at.low apart }) is)

  pub fields-all : (model : ModelNo) (info : ModelInfo) → model_at models model ≡ Some info → (place : ℕ) → length info.fields + length info.hidden ≤ place → (values : Filled)
      → HaveValues models tables (IsBefore model place) values → HaveValues models tables (IsOf model) values
  fields-all model info model_is place long values all cell of is = all cell (record { model_is = of; low = by (told_and (field_at models cell.model cell.field) (λ field. is_computed_from field.origin ≡ true) is.1) }) is
    where
      low : (n : ℕ) → n ≤ length (fields_of info) → length (fields_of info) ≡ length info.fields + length info.hidden → n ≤ place
      low n le both = omega arith

      by : (f : FieldInfo) × (field_at models cell.model cell.field ≡ Some f) × (is_computed_from f.origin ≡ true) → cell.field.0 ≤ place
      by t =
          let at : numbered (fields_of info) cell.field.0 ≡ Some t.0 =
          sym (ap (option_and_then (λ (i : ModelInfo). numbered (fields_of i) cell.field.0)) (ap (model_at models) of ∙ model_is)) ∙ t.1 in
          low cell.field.0 (within (fields_of info) cell.field.0 (there_is (numbered (fields_of info) cell.field.0) t.0 at)) (length-append info.fields info.hidden)

  -- a model that isn't there has no cells
  pub model-passed : (model : ModelNo) (values : Filled) → model_at models model ≡ None → HaveValues models tables (IsOf model) values
  model-passed model values none cell of is = absurd (no-model (model_at models cell.model) (ap (model_at models) of ∙ none) cell.field is.1)
    where
      no-model : (o : Option ModelInfo) → o ≡ None → (field : FieldNo) → IsSomeAnd (option_and_then (λ info. numbered (fields_of info) field.0) o) (λ info. is_computed_from info.origin ≡ true) → ⊥
      no-model None is field known = known
      no-model (Some info) is field known = cc

  -- the cells of the models up to a number
  abbrev pub IsUpTo : ℕ → Cell → Type 0
  IsUpTo place cell = cell.model.0 ≤ place

  pub models-none : (values : Filled) → HaveValues models tables (IsUpTo 0) values
  models-none values cell low is = absurd (by cell.model.0 low is.1)
    where
      by : (n : ℕ) → n ≤ 0 → IsSomeAnd (field_at models (record { 0 = n }) cell.field) (λ info. is_computed_from info.origin ≡ true) → ⊥
      by zero low known = known
      by (suc n) low known = omega arith

  pub models-more : (place : ℕ) (model : ModelNo) → model.0 ≡ place + 1 → (old new : Filled) → KeepsAll old new
      → HaveValues models tables (IsUpTo place) old → HaveValues models tables (IsOf model) new → HaveValues models tables (IsUpTo (place + 1)) new
  models-more place model number old new keeps before here cell at is = by (cases_eq cell.model.0 (place + 1))
    where
      lower : (n : ℕ) → n ≤ place + 1 → (n ≡ place + 1 → ⊥) → n ≤ place
      lower n le apart = omega arith

      by : (cell.model.0 ≡ place + 1) ⊎ (cell.model.0 ≡ place + 1 → ⊥) → IsSome (tree.get cell_order new cell)
      by (inl same) = here cell (ap (λ (n : ℕ). record { 0 = n }) (same ∙ sym number)) is
      by (inr apart) = keeps cell (before cell (lower cell.model.0 at apart) is)

  pub models-all : IsRegistry models → (place : ℕ) → max_models ≤ place → (values : Filled) → AreRight models tables values → HaveValues models tables (IsUpTo place) values → AreValues models tables values
  models-all registry place long values right all = record { right = right; all = λ cell any is. all cell (low cell (told_and (field_at models cell.model cell.field) (λ info. is_computed_from info.origin ≡ true) is.1)) is }
    where
      low : (cell : Cell) → (f : FieldInfo) × (field_at models cell.model cell.field ≡ Some f) × (is_computed_from f.origin ≡ true) → cell.model.0 ≤ place
      low cell t = option_and_then_some (λ (info : ModelInfo). numbered (fields_of info) cell.field.0) (model_at models cell.model) t.0 t.1
          (λ info is found. by cell.model.0 (within models cell.model.0 (there_is (model_at models cell.model) info is)) registry.few)
        where
          by : (n : ℕ) → n ≤ length models → length models ≤ max_models → n ≤ place
          by n le few = omega arith
