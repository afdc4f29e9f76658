-- What an audit of the rows of a keeper reports: how what they keep for computed fields compares with the values from scratch, and what stands in stock of each product.
use Rattle.std.specs.Prelude.{◌≡◌, ◌≢◌, ◌↔◌, ◌<◌, ◌⊎◌, ◌&&◌, ⊤, ℕ, pos, List, [], ◌∷◌, ◌++◌, map, filter, length, Bool, false, if◌then◌else◌, codes, decimal, IsTrue, IsPermutation, Ok}
use Rattle.std.specs.Cmp.Lexicographic.{slice_cmp}
use Rattle.std.specs.Fmt.{signed_decimal}
use Rattle.std.specs.List.{AllByRecursion, AllZip, enumerate_from, flat_map}
use Rattle.std.specs.List.Sorted.{IsSortedByKey}
use Rattle.std.specs.Option.{option_map_or}
use Rattle.std.specs.Ordering.{nat_cmp}
use Rattle.serde_json.specs.Data.{Data}
use Rattle.serde_json.specs.Written.{compact_text}
use Rattle.ob_base.specs.Names.{kind_name}
use Rattle.ob_base.specs.declared.id.Cell.{Cell}
use Rattle.ob_base.specs.declared.id.FieldNo.{FieldNo}
use Rattle.ob_base.specs.declared.id.ModelNo.{ModelNo}
use Rattle.ob_base.specs.declared.id.RecId.{RecId}
use Rattle.ob_base.specs.declared.refusal.Broken.{Broken}
use Rattle.ob_base.specs.declared.value.Value.{Value}
use Rattle.ob_audit.specs.Rows.{ArePlain, IsFirstTo, Keeps, ShowsUnread}
use Rattle.ob_audit.specs.Sums.{AreTotals, Goods, goods_in}
use Rattle.ob_audit.specs.declared.fault.AuditFault.{AuditFault}
use Rattle.ob_audit.specs.declared.fault.AuditFault.TheVariants as audit_fault
use Rattle.ob_audit.specs.declared.report.Report.{Report}
use Rattle.ob_codec.specs.JsonForm.{IsJsonOf}
use Rattle.ob_io.specs.Store.{Store}
use Rattle.ob_schema.specs.Broken.{Sound, IsFirstBroken}
use Rattle.ob_schema.specs.Fields.{Column, columns}
use Rattle.ob_schema.specs.Models.{field_at, is_computed_from, model_at}
use Rattle.ob_schema.specs.Tables.{Tables, ids_in}
use Rattle.ob_schema.specs.Val.{val}
use Rattle.ob_schema.specs.declared.info.FieldInfo.{FieldInfo}
use Rattle.ob_schema.specs.declared.info.ModelInfo.{ModelInfo}

-- ---- names and lines

-- the name of a model, empty where there is none of the number
abbrev pub model_name : List ModelInfo → ModelNo → List ℕ
model_name models model = option_map_or (λ info. info.name) (model_at models model) []

-- the name of a field, empty where there is none of the number
abbrev pub field_name : List ModelInfo → ModelNo → FieldNo → List ℕ
field_name models model field = option_map_or (λ info. info.name) (field_at models model field) []

-- the last line
abbrev pub last_line : Bool → List ℕ
last_line equal = if equal then codes "audit equal" else codes "audit differs"

-- the line of a row that can't be read
abbrev pub unreadable_line : List ModelInfo → Cell → List ℕ
unreadable_line models cell = codes "unreadable " ++ model_name models cell.model ++ codes " " ++ decimal cell.id.0

-- the line of what is broken
abbrev pub broken_line : List ModelInfo → Broken → List ℕ
broken_line models b =
    codes "broken " ++ kind_name b.kind ++ codes " " ++ model_name models b.cell.model ++ codes " " ++ decimal b.cell.id.0 ++ codes " " ++ field_name models b.cell.model b.cell.field

-- the line of a field of which no cell differs, of so many rows
abbrev pub equal_line : (model field : List ℕ) → ℕ → List ℕ
equal_line model field rows = model ++ codes "." ++ field ++ codes " " ++ decimal rows ++ codes " equal"

-- the line of one that differs first at a row, which keeps a text and has another from scratch
abbrev pub differs_line : (model field : List ℕ) → ℕ → RecId → (kept scratch : List ℕ) → List ℕ
differs_line model field rows id kept scratch = model ++ codes "." ++ field ++ codes " " ++ decimal rows ++ codes " differs at " ++ decimal id.0 ++ codes ": kept " ++ kept ++ codes " scratch " ++ scratch

-- the line of a product with its sum
abbrev pub sum_line : Goods → List ℕ
sum_line total = codes "product " ++ decimal total.0 ++ codes " sum " ++ signed_decimal total.1

-- the text of a value: its JSON without blanks
pub record IsJsonText (v : Value) (text : List ℕ) : Type 0 where
  pub json : Data
  pub means : IsJsonOf v json
  pub spelled : text ≡ compact_text json

-- ---- the fields that are told

-- a formula gives a field's value, and rows keep it
abbrev pub is_stored : FieldInfo → Bool
is_stored field = is_computed_from field.origin && field.store

-- a field of a model with its number
abbrev pub FieldOf : Type 0
FieldOf = ModelNo × Column

-- the stored computed fields of a model, in byte order of their names
abbrev pub stored_columns : ModelInfo → List Column
stored_columns info = filter (λ column. is_stored column.1) (columns info)

abbrev pub stored_of_model : List ModelInfo → ModelNo → List FieldOf
stored_of_model models model = option_map_or (λ info. map (λ column. (model, column)) (stored_columns info)) (model_at models model) []

-- the models of a registry, each with its name
abbrev pub named_models : List ModelInfo → List (ModelNo × List ℕ)
named_models models = map (λ place. (record { 0 = place.0 }, place.1.name)) (enumerate_from 1 models)

-- the same in byte order of the names
pub record AreByName (models : List ModelInfo) (named : List (ModelNo × List ℕ)) : Type 0 where
  pub all : IsPermutation (named_models models) named
  pub sorted : IsSortedByKey (λ one. one.1) (slice_cmp nat_cmp) named

-- the stored computed fields of models, model by model
abbrev pub stored_fields : List ModelInfo → List (ModelNo × List ℕ) → List FieldOf
stored_fields models named = flat_map (λ one. stored_of_model models one.0) named

-- the cell of a field in a row
abbrev pub cell_in : FieldOf → RecId → Cell
cell_in field id = record { model = field.0; id = id; field = record { 0 = field.1.0 } }

-- ---- the report

module _ (models : List ModelInfo) (store : Store) (tables : Tables) where
  -- a cell is kept with another value than its own from scratch
  pub record Differs (cell : Cell) (kept scratch : Value) : Type 0 where
    pub keeps : Keeps models store cell kept
    pub valued : val models tables cell ≡ Ok scratch
    pub other : scratch ≢ kept

  -- no cell of a field is
  abbrev pub Agrees : FieldOf → Type 0
  Agrees field = (id : RecId) (kept scratch : Value) → Differs (cell_in field id) kept scratch → ⊥

  -- the row of least id whose cell of a field is
  pub record FirstDiffers (field : FieldOf) (id : RecId) (kept scratch : Value) : Type 0 where
    pub differs : Differs (cell_in field id) kept scratch
    pub none_before : (other : RecId) (k s : Value) → other.0 < id.0 → Differs (cell_in field other) k s → ⊥

  -- the number of the rows of a field's model
  abbrev pub rows_of_field : FieldOf → ℕ
  rows_of_field field = length (ids_in tables field.0)

  -- the line says that no cell of the field differs, and none does
  pub record TellsEqual (field : FieldOf) (line : List ℕ) : Type 0 where
    pub agrees : Agrees field
    pub text : line ≡ equal_line (model_name models field.0) field.1.1.name (rows_of_field field)

  -- the line says where one differs first, and how
  pub record TellsFirst (field : FieldOf) (line : List ℕ) : Type 0 where
    pub id : RecId
    pub kept : Value
    pub scratch : Value
    pub first : FirstDiffers field id kept scratch
    pub kept_text : List ℕ
    pub scratch_text : List ℕ
    pub kept_is : IsJsonText kept kept_text
    pub scratch_is : IsJsonText scratch scratch_text
    pub text : line ≡ differs_line (model_name models field.0) field.1.1.name (rows_of_field field) id kept_text scratch_text

  -- the line of a field
  abbrev pub TellsField : FieldOf → List ℕ → Type 0
  TellsField field line = TellsEqual field line ⊎ TellsFirst field line

  -- the report on tables that break nothing: a line for each stored computed field, one for each product with quants, and the last; it is equal where no cell differs and each sum is 0
  pub record TellsTables (report : Report) : Type 0 where
    pub plain : ArePlain models store tables
    pub sound : Sound models tables
    pub named : List (ModelNo × List ℕ)
    pub by_name : AreByName models named
    pub told : List (List ℕ)
    pub fields : AllZip TellsField (stored_fields models named) told
    pub totals : List Goods
    pub sums : AreTotals (goods_in models tables) totals
    pub lines : report.lines ≡ told ++ map sum_line totals ++ last_line report.equal ∷ []
    pub equal : IsTrue report.equal ↔ (AllByRecursion Agrees (stored_fields models named) × AllByRecursion (λ total. total.1 ≡ pos 0) totals)

  -- the report on tables that break something: the first, by cell, then kind
  pub record TellsBroken (report : Report) : Type 0 where
    pub plain : ArePlain models store tables
    pub broken : Broken
    pub first : IsFirstBroken models tables broken
    pub lines : report.lines ≡ broken_line models broken ∷ codes "audit differs" ∷ []
    pub equal : report.equal ≡ false

-- the report on rows of which one can't be read: the first, by model, then id
pub record TellsUnreadable (models : List ModelInfo) (store : Store) (report : Report) : Type 0 where
  pub cell : Cell
  pub first : IsFirstTo (ShowsUnread models store) cell
  pub lines : report.lines ≡ unreadable_line models cell ∷ codes "audit differs" ∷ []
  pub equal : report.equal ≡ false

-- the report on the rows of a keeper
abbrev pub IsReport : List ModelInfo → Store → Report → Type 0
IsReport models store report = TellsUnreadable models store report ⊎ ((tables : Tables) × (TellsBroken models store tables report ⊎ TellsTables models store tables report))

-- why there is no report: the keeper failed, or memory is wanting
abbrev pub StopsAudit : Type 0 → AuditFault → Type 0
StopsAudit rose audit_fault.Keeper = rose
StopsAudit rose audit_fault.NoMemory = ⊤
