-- When a caller can't tell two databases apart: his views of both show the same.
use Rattle.std.specs.Prelude.{◌≡◌, ◌⊎◌, List, Bool, true, Contains, Some, IsSomeAnd, Result, Ok}
use Rattle.ob_access.specs.Policies.{PolicyData}
use Rattle.ob_base.specs.declared.id.ModelNo.{ModelNo}
use Rattle.ob_base.specs.declared.id.RecId.{RecId}
use Rattle.ob_base.specs.declared.refusal.Refusal.{Refusal}
use Rattle.ob_call.specs.Called.{Called}
use Rattle.ob_domain.specs.Naming.{held_in, paths_asked}
use Rattle.ob_domain.specs.Reading.{domain_from}
use Rattle.ob_domain.specs.Trees.{Tree}
use Rattle.ob_query.specs.SearchForms.{active_field}
use Rattle.ob_access.specs.Users.{AreGroupsOf}
use Rattle.ob_query.specs.Views.{View, may_read_field, view_of}
use Rattle.ob_schema.specs.Models.{model_at}
use Rattle.ob_schema.specs.Tables.{Tables}
use Rattle.ob_schema.specs.declared.info.ModelInfo.{ModelInfo}
use Rattle.ob_schema.specs.declared.info.Step.{Step}
use Rattle.serde_json.specs.Data.{Data}

-- the field by which rows that aren't active are left out
abbrev pub IsActive : List ModelInfo → Step → Type 0
IsActive models field = IsSomeAnd (model_at models field.model) (λ info. active_field info ≡ Some field.field)

-- a field with the paths of a tree: a domain asks by it where rows stand
abbrev pub HasPaths : List ModelInfo → Step → Type 0
HasPaths models field = (model : ModelNo) × (domain : Data) × (tree : Tree) × (domain_from models model domain ≡ Ok tree) × Contains (paths_asked tree) field

-- a field whose values a view has: one that its caller may read, or `active`, or the paths of a tree
abbrev pub IsViewed : List ModelInfo → PolicyData → View → Step → Type 0
IsViewed models policy view field = (may_read_field policy view.own view.user field ≡ true) ⊎ (IsActive models field ⊎ HasPaths models field)

-- two views show the same: which ids exist, which rows are seen, in which order, and of these the values of those fields
pub record ShowTheSame (models : List ModelInfo) (policy : PolicyData) (one other : View) : Type 0 where
  pub exist : (model : ModelNo) (id : RecId) → one.exists model id ≡ other.exists model id
  pub rows : (model : ModelNo) → one.rows model ≡ other.rows model
  pub seen : (model : ModelNo) (id : RecId) → one.told.knows model id ≡ other.told.knows model id
  pub values : (field : Step) (id : RecId) → IsViewed models policy one field → one.told.knows field.model id ≡ true → held_in one.told field id ≡ held_in other.told field id

-- his views of two databases show the same: the groups that he has in the first are those that he has in the other
abbrev pub AreViewedAlike : List ModelInfo → PolicyData → RecId → (one other : Tables) → Type 0
AreViewedAlike models policy user one other =
    (own : List RecId) → AreGroupsOf models policy one user own → AreGroupsOf models policy other user own × ShowTheSame models policy (view_of models policy own user one) (view_of models policy own user other)

-- a call whose outcomes go by its caller's view: each that it may have over one database it may have over every other that is viewed alike
abbrev pub GoesByView : (List ModelInfo → PolicyData → Called → Tables → Result Data Refusal → Type 0) → Type 0
GoesByView Tells =
    (models : List ModelInfo) (policy : PolicyData) (c : Called) (one other : Tables) → model_at models c.model ≡ Some c.info → AreViewedAlike models policy c.caller one other
    → (outcome : Result Data Refusal) → Tells models policy c one outcome → Tells models policy c other outcome
