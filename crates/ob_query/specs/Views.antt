-- What a caller may know of tables: his view, and which models and fields he may read. Each call that reads is answered from it.
use Rattle.std.specs.Prelude.{List, Bool, false, not, find, is_some, Option, Result}
use Rattle.ob_access.specs.Policies.{PolicyData}
use Rattle.ob_access.specs.Rights.{field_right, right}
use Rattle.ob_access.specs.Users.{AreGroupsOf}
use Rattle.ob_access.specs.Views.{seen, seen_ids}
use Rattle.ob_base.specs.declared.id.ModelNo.{ModelNo}
use Rattle.ob_base.specs.declared.id.RecId.{RecId}
use Rattle.ob_base.specs.declared.refusal.Op.TheVariants as op
use Rattle.ob_base.specs.declared.refusal.Refusal.{Refusal}
use Rattle.ob_schema.specs.Facts.{Told, told_by}
use Rattle.ob_schema.specs.Tables.{Tables, ids_in, row_at}
use Rattle.ob_schema.specs.declared.info.ModelInfo.{ModelInfo}
use Rattle.ob_schema.specs.declared.info.Step.{Step}
use Rattle.serde_json.specs.Data.{Data}

-- ---- what he may know

-- a view: who calls and his groups; of each model which ids exist, and the ids of the rows that he sees, rising; and what he is told of rows and their cells
pub record View : Type 0 where
  pub user : RecId
  pub own : List RecId
  pub exists : ModelNo → RecId → Bool
  pub rows : ModelNo → List RecId
  pub told : Told

-- the view of tables that a caller with these groups has: the known rows of models that he may read which rules admit to him, and of lists of rows those alone
abbrev pub view_of : List ModelInfo → PolicyData → List RecId → RecId → Tables → View
view_of models policy own user tables = record {
  user = user;
  own = own;
  exists = λ model id. is_some (row_at tables model id);
  rows = λ model. seen_ids policy (told_by models tables) own user model (ids_in tables model);
  told = seen models policy own user (told_by models tables);
}

-- an outcome that a view gives, the caller's: with his groups
abbrev pub FromView : List ModelInfo → PolicyData → RecId → (View → Result Data Refusal → Type 0) → Tables → Result Data Refusal → Type 0
FromView models policy user Gives tables outcome = (own : List RecId) × AreGroupsOf models policy tables user own × Gives (view_of models policy own user tables) outcome

-- ---- what he may read

module _ (policy : PolicyData) (own : List RecId) (user : RecId) where
  -- the rows of a model
  abbrev pub may_read : ModelNo → Bool
  may_read model = right policy own user model op.Read

  -- a field
  abbrev pub may_read_field : Step → Bool
  may_read_field field = field_right policy own user field.model field.field false

  -- the first of some fields that he may not read
  abbrev pub first_denied : List Step → Option Step
  first_denied fields = find (λ field. not (may_read_field field)) fields
