-- Rights and rules of the calls that change rows: what a caller may do by his groups, and which rows rules deny him.
use Rattle.std.specs.Prelude.{◌≡◌, ℕ, List, map, find, not, true, false, All, Bool, Contains, Option, Some, None, IsSome, IsSomeAnd}
use Rattle.std.specs.declared.cmp.Ordering.TheVariants.{Less}
use Rattle.ob_access.specs.Admission.{denier}
use Rattle.ob_access.specs.Policies.{PolicyData}
use Rattle.ob_access.specs.Rights.{field_right, right}
use Rattle.ob_access.specs.Users.{AreGroupsOf}
use Rattle.ob_base.specs.Ids.{row_key_cmp}
use Rattle.ob_base.specs.declared.id.FieldNo.{FieldNo}
use Rattle.ob_base.specs.declared.id.ModelNo.{ModelNo}
use Rattle.ob_base.specs.declared.id.RecId.{RecId}
use Rattle.ob_base.specs.declared.id.RowKey.{RowKey}
use Rattle.ob_base.specs.declared.refusal.Op.{Op}
use Rattle.ob_base.specs.declared.refusal.Refusal.{Refusal}
use Rattle.ob_base.specs.declared.refusal.Refusal.TheVariants as refusal
use Rattle.ob_expr.specs.Meaning.{row_at}
use Rattle.ob_schema.specs.Facts.{Told}
use Rattle.ob_schema.specs.Tables.{Tables}
use Rattle.ob_schema.specs.declared.info.ModelInfo.{ModelInfo}

-- something that goes by the caller's groups, as the tables have them
abbrev pub ByGroups : List ModelInfo → PolicyData → Tables → RecId → (List RecId → Type 0) → Type 0
ByGroups models policy tables user P = (own : List RecId) × AreGroupsOf models policy tables user own × P own

-- ---- what he may do

-- an operation that is asked for on a model's rows
abbrev pub Asking : Type 0
Asking = Op × ModelNo

module _ (policy : PolicyData) (own : List RecId) (user : RecId) where
  -- he may do it
  abbrev pub may : Asking → Bool
  may asking = right policy own user asking.1 asking.0

  -- the first of some operations that he may not do
  abbrev pub first_withheld : List Asking → Option Asking
  first_withheld askings = find (λ asking. not (may asking)) askings

  -- the first of some fields of a model that he may not give a value
  abbrev pub first_unwritable : ModelNo → List FieldNo → Option FieldNo
  first_unwritable model fields = find (λ field. not (field_right policy own user model field true)) fields

-- ---- which rows rules deny him, by what is told

-- the rows of a model that have these ids
abbrev pub rows_named : ModelNo → List ℕ → List RowKey
rows_named model ids = map (λ id. record { model = model; id = record { 0 = id } }) ids

module _ (policy : PolicyData) (told : Told) (own : List RecId) (user : RecId) (op : Op) where
  -- the rule that denies him a row, where one does
  abbrev pub denied_by : RowKey → Option (List ℕ)
  denied_by row = denier policy told own user op (row_at row.model row.id)

  -- rules admit each of some rows to him
  abbrev pub AreAdmitted : List RowKey → Type 0
  AreAdmitted rows = All (λ row. denied_by row ≡ None) rows

  -- the least of some rows that a rule denies him, by model and id, and that rule's name
  pub record IsLeastDenied (rows : List RowKey) (row : RowKey) (name : List ℕ) : Type 0 where
    pub among : Contains rows row
    pub denied : denied_by row ≡ Some name
    pub least : All (λ other. row_key_cmp other row ≡ Less → denied_by other ≡ None) rows

  -- a refusal names it, with the rule
  abbrev pub DeniesLeast : List RowKey → Refusal → Type 0
  DeniesLeast rows (refusal.Rule model operation id name) = (operation ≡ op) × IsSomeAnd name (IsLeastDenied rows (record { model = model; id = id }))
  DeniesLeast rows _ = ⊥

-- ---- whatever the keeper tells

module _ (policy : PolicyData) (user : RecId) where
  -- in some groups he may not do it
  abbrev pub IsWithheld : Op → ModelNo → Type 0
  IsWithheld op model = (own : List RecId) × (right policy own user model op ≡ false)

  -- in some groups he may not give the field a value
  abbrev pub IsUnwritable : ModelNo → FieldNo → Type 0
  IsUnwritable model field = (own : List RecId) × (field_right policy own user model field true ≡ false)

-- a refusal names one of some rows, and a rule
abbrev pub DeniesOne : Op → List RowKey → Refusal → Type 0
DeniesOne op rows (refusal.Rule model operation id name) = (operation ≡ op) × Contains rows (record { model = model; id = id }) × IsSome name
DeniesOne op rows _ = ⊥
