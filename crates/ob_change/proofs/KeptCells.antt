-- Cells whose rows keep their values, and the places of fields and models by their numbers.
use Rattle.std.proofs.Common.{◌≡◌, ◌<◌, ◌+◌, ◌&&◌, ◌++◌, add-one, get_or, ℕ, zero, suc, Bool, true, false, not, is_none, is_some, List, [], ◌∷◌, length, Option, Some, None, option_and_then, refl, sym, ap, subst, ◌∙◌}
use Rattle.std.specs.Prelude.{All, IsSome, slice_get}
use Rattle.std.proofs.lemmas.Option.{slice_get_read, slice_get_within}
use Rattle.ob_base.specs.declared.id.Cell.{Cell}
use Rattle.ob_base.specs.declared.id.FieldNo.{FieldNo}
use Rattle.ob_base.specs.declared.id.ModelNo.{ModelNo}
use Rattle.ob_base.specs.declared.value.Value.{Value}
use Rattle.ob_definition.specs.Types.{is_one2many}
use Rattle.ob_schema.specs.Built.{numbered}
use Rattle.ob_schema.specs.Fields.{is_plain_from, is_plain_kept}
use Rattle.ob_schema.specs.Models.{HasModel, IsCondition, IsRegistry, field_at, fields_of, model_at}
use Rattle.ob_schema.specs.Plain.{plain_at, plain_by, plain_from}
use Rattle.ob_schema.specs.Tables.{PlainRow, Tables, kept_in, row_at}
use Rattle.ob_schema.specs.declared.info.FieldInfo.{FieldInfo}
use Rattle.ob_schema.specs.declared.info.ModelInfo.{ModelInfo}
use Rattle.ob_tables.proofs.CallerLemmas.{Field-at, is_there, keeps, keeps-fields, plain-there, plain_is}

-- the parts of three tests
kept_parts : (p b m : Bool) → (p && (not b && m)) ≡ true → (p ≡ true) × (b ≡ false) × (m ≡ true)
kept_parts true false true kept = (refl, refl, refl)
kept_parts true false false kept = cc
kept_parts true true m kept = cc
kept_parts false b m kept = cc

no_some : {X : Type 0} (o : Option X) → is_none o ≡ true → is_some o ≡ false
no_some None is = refl
no_some (Some x) is = cc

own_value : (tables : Tables) (cell : Cell) (info : FieldInfo) (row : PlainRow) (inverse mirror : Option FieldNo) → is_some inverse ≡ false → is_some mirror ≡ false
    → plain_by tables inverse mirror info cell.field cell.id row ≡ kept_in row cell.field
own_value tables cell info row None None one many = refl
own_value tables cell info row (Some i) mirror one many = cc
own_value tables cell info row None (Some m) one many = cc

-- the value of a cell that its row keeps
pub kept-there : (models : List ModelInfo) (tables : Tables) (cell : Cell) (info : FieldInfo) (row : PlainRow) → IsRegistry models → field_at models cell.model cell.field ≡ Some info → is_plain_kept info ≡ true
    → row_at tables cell.model cell.id ≡ Some row → plain_at tables models cell ≡ Some (kept_in row cell.field)
kept-there models tables cell info row registry field kept here =
    let own = Field-at models cell.model cell.field info registry field in
    let parts = kept_parts (is_plain_from info.origin) (is_one2many info.field_type) (is_none info.mirror) kept in
    plain-there models tables cell own.info info own.model_is own.valid field (plain_is info.origin parts.0) row here
    ∙ ap (λ (v : Value). Some v) (own_value tables cell info row info.inverse info.mirror (own.right.inverse ∙ parts.1) (no_some info.mirror parts.2))

-- a cell with a value is one of a row that is there
pub row-of-value : (models : List ModelInfo) (tables : Tables) (cell : Cell) (v : Value) → plain_at tables models cell ≡ Some v → IsSome (row_at tables cell.model cell.id)
row-of-value models tables cell v has = by (field_at models cell.model cell.field) (row_at tables cell.model cell.id) has
  where
    by : (f : Option FieldInfo) (r : Option PlainRow) → option_and_then (λ info. option_and_then (plain_from tables info.origin info cell.field cell.id) r) f ≡ Some v → IsSome r
    by f (Some row) is = refl
    by None None is = cc
    by (Some info) None is = cc

-- what has a number stands at the place before it
pub numbered-place : {X : Type 0} (xs : List X) (n : ℕ) → IsSome (numbered xs n) → (k : ℕ) × (n ≡ suc k) × (k < length xs)
numbered-place xs zero there = cc
numbered-place xs (suc k) there = let x = is_there (slice_get xs k) there in (k, refl, slice_get_within xs k x.0 x.1)

slice_front : (fields hidden : List FieldInfo) (k : ℕ) (field : FieldInfo) → slice_get fields k ≡ Some field → slice_get (fields ++ hidden) k ≡ Some field
slice_front [] hidden k field h = cc
slice_front (f ∷ fields) hidden zero field h = h
slice_front (f ∷ fields) hidden (suc k) field h = slice_front fields hidden k field h

-- the named field at a place of a model
field-placed : (models : List ModelInfo) (model : ModelNo) (m : ModelInfo) (k : ℕ) (field : FieldInfo) → model_at models model ≡ Some m → slice_get m.fields k ≡ Some field
    → field_at models model (record { 0 = suc k }) ≡ Some field
field-placed models model m k field at is = ap (λ (o : Option ModelInfo). option_and_then (λ i. numbered (fields_of i) (suc k)) o) at ∙ slice_front m.fields m.hidden k field is

-- the one that is read there
pub field-read : (models : List ModelInfo) (model : ModelNo) (m : ModelInfo) (fields : List FieldInfo) (place : ℕ) (field : FieldInfo) → model_at models model ≡ Some m → fields ≡ m.fields → place < length fields
    → field ≡ get_or fields place field → field_at models model (record { 0 = place + 1 }) ≡ Some field
field-read models model m fields place field at all low is =
    subst (λ (n : ℕ). field_at models model (record { 0 = n }) ≡ Some field) (sym (add-one place))
    (field-placed models model m place field at (ap (λ (l : List FieldInfo). slice_get l place) (sym all) ∙ slice_get_read fields (length fields) place field refl low is))

keeps_some : (o : Option FieldInfo) → keeps o ≡ true → IsSome o
keeps_some None is = cc
keeps_some (Some field) is = refl

-- a field that rows keep is one of the named fields
pub kept-named : (models : List ModelInfo) (model : ModelNo) (m : ModelInfo) (number : FieldNo) (info : FieldInfo) → model_at models model ≡ Some m → All IsCondition m.hidden
    → field_at models model number ≡ Some info → is_plain_kept info ≡ true → (k : ℕ) × (number.0 ≡ suc k) × (k < length m.fields)
kept-named models model m number info at conditions field kept =
    let in_model : numbered (fields_of m) number.0 ≡ Some info = sym (ap (λ (o : Option ModelInfo). option_and_then (λ i. numbered (fields_of i) number.0) o) at) ∙ field in
    numbered-place m.fields number.0 (keeps_some (numbered m.fields number.0) (sym (keeps-fields m conditions number.0) ∙ ap keeps in_model ∙ kept))

-- a model that has a field is there
pub model-of-field : (models : List ModelInfo) (model : ModelNo) (number : FieldNo) (info : FieldInfo) → field_at models model number ≡ Some info → HasModel models model
model-of-field models model number info = by (model_at models model)
  where
    by : (o : Option ModelInfo) → option_and_then (λ i. numbered (fields_of i) number.0) o ≡ Some info → IsSome o
    by None is = cc
    by (Some m) is = refl
