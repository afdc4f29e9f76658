-- What a caller may do by his groups, and which rows rules deny him.
use Rattle.std.specs.Prelude.{◌≡◌, ℕ, List, Bool, true, false, Some}
use Rattle.ob_access.specs.Admission.{denier}
use Rattle.ob_access.specs.Policies.{PolicyData}
use Rattle.ob_access.specs.Rights.{field_right, right}
use Rattle.ob_access.specs.Users.{AreGroupsOf}
use Rattle.ob_base.specs.declared.id.FieldNo.{FieldNo}
use Rattle.ob_base.specs.declared.id.ModelNo.{ModelNo}
use Rattle.ob_base.specs.declared.id.RecId.{RecId}
use Rattle.ob_base.specs.declared.id.RowKey.{RowKey}
use Rattle.ob_base.specs.declared.refusal.Op.{Op}
use Rattle.ob_expr.specs.Meaning.{row_at}
use Rattle.ob_schema.specs.Facts.{Told, told_by}
use Rattle.ob_effect.specs.declared.asking.Caller.{Caller}
use Rattle.ob_schema.specs.Tables.{Tables}
use Rattle.ob_schema.specs.declared.info.ModelInfo.{ModelInfo}

-- something that goes by the caller's groups, as the tables have them
abbrev pub ByGroups : List ModelInfo → PolicyData → Tables → RecId → (List RecId → Type 0) → Type 0
ByGroups models policy tables user P = (own : List RecId) × AreGroupsOf models policy tables user own × P own

module _ (policy : PolicyData) (user : RecId) where
  -- with these groups he may not do it to rows of the model
  abbrev pub IsWithheld : Op → ModelNo → List RecId → Type 0
  IsWithheld op model own = right policy own user model op ≡ false

  -- with these groups he may
  abbrev pub IsGranted : Op → ModelNo → List RecId → Type 0
  IsGranted op model own = right policy own user model op ≡ true

  -- with these groups he may give the field no value
  abbrev pub IsUnwritable : ModelNo → FieldNo → List RecId → Type 0
  IsUnwritable model field own = field_right policy own user model field true ≡ false

  -- with these groups the rule of this name denies him a row of some tables
  abbrev pub IsDenied : List ModelInfo → Tables → Op → RowKey → List ℕ → List RecId → Type 0
  IsDenied models tables op row name own = denier policy (told_by models tables) own user op (row_at row.model row.id) ≡ Some name

module _ (by : Caller) where
  -- whether he may do this to rows of a model, and give values to a field
  abbrev pub may : Op → ModelNo → Bool
  may op model = right by.policy.now by.groups.now by.user model op

  abbrev pub may_give : ModelNo → FieldNo → Bool
  may_give model field = field_right by.policy.now by.groups.now by.user model field true

  -- by what is told the rule of this name denies him a row
  abbrev pub IsDeniedBy : Op → RowKey → List ℕ → Told → Type 0
  IsDeniedBy op row name told = denier by.policy.now told by.groups.now by.user op (row_at row.model row.id) ≡ Some name
