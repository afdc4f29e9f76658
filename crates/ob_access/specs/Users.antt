-- Users, as rows of a model of users: who may call with which key, who logs in with which name, and in which groups a caller is.
use Rattle.std.specs.Prelude.{◌&&◌, ◌↔◌, ℕ, List, [], Contains, IsSomeAnd, codes, bytes_eq, if◌then◌else◌, Bool, false, Option, Some, None, option_and_then, option_map}
use Rattle.std.specs.Option.{option_map_or}
use Rattle.ob_base.specs.Rising.{IsRising}
use Rattle.ob_base.specs.declared.id.FieldNo.{FieldNo}
use Rattle.ob_base.specs.declared.id.ModelNo.{ModelNo}
use Rattle.ob_base.specs.declared.id.RecId.{RecId}
use Rattle.ob_base.specs.declared.value.Value.{Value}
use Rattle.ob_base.specs.declared.value.Value.TheVariants as value
use Rattle.ob_schema.specs.Facts.{Told, told_by}
use Rattle.ob_schema.specs.Models.{HasField, field_named, model_at, model_named}
use Rattle.ob_schema.specs.Tables.{Tables}
use Rattle.ob_schema.specs.declared.info.FieldInfo.{FieldInfo}
use Rattle.ob_schema.specs.declared.info.ModelInfo.{ModelInfo}
use Rattle.ob_access.specs.Groups.{IsMember}
use Rattle.ob_access.specs.Policies.{PolicyData}
use Rattle.ob_access.specs.declared.users.Users.{Users}

-- the fields of a model by which its users are known
abbrev pub users_in : ModelNo → List FieldInfo → Option Users
users_in model fields =
    option_and_then (λ active. option_and_then (λ groups. option_and_then (λ key. option_map (λ login.
    record { model = model; active = active; groups = groups; key = key; login = login })
    (field_named fields (codes "login"))) (field_named fields (codes "key"))) (field_named fields (codes "groups_id"))) (field_named fields (codes "active"))

-- the model of users of a registry, where it has one
abbrev pub users_of : List ModelInfo → Option Users
users_of models = option_and_then (λ model. option_and_then (λ info. users_in model info.fields) (model_at models model)) (model_named models (codes "res.users"))

-- the model has these fields
pub record AreUsers (models : List ModelInfo) (users : Users) : Type 0 where
  pub active : HasField models users.model users.active
  pub groups : HasField models users.model users.groups
  pub key : HasField models users.model users.key
  pub login : HasField models users.model users.login

-- what a user holds for a field; nothing where there is no such user
abbrev pub user_value : Told → Users → RecId → FieldNo → Option Value
user_value told users id field = if told.knows users.model id then Some (told.held (record { model = users.model; id = id; field = field })) else None

-- a value is this text, byte for byte
abbrev pub is_word : List ℕ → Value → Bool
is_word text (value.Word own) = bytes_eq own text
is_word text _ = false

-- a value is true
abbrev pub is_true : Value → Bool
is_true (value.Bool b) = b
is_true _ = false

-- there is such a user, and he is active
abbrev pub is_active : Told → Users → RecId → Bool
is_active told users id = option_map_or is_true (user_value told users id users.active) false

-- he may call with this key
abbrev pub may_call : Told → Users → RecId → List ℕ → Bool
may_call told users id key = is_active told users id && option_map_or (is_word key) (user_value told users id users.key) false

-- he logs in with this name
abbrev pub has_login : Told → Users → RecId → List ℕ → Bool
has_login told users id login = option_map_or (is_word login) (user_value told users id users.login) false

-- the rows that a list of rows names
abbrev pub ids_of : Value → List RecId
ids_of (value.Refs ids) = ids
ids_of _ = []

-- the groups that his row names
abbrev pub stated_groups : Told → Users → RecId → List RecId
stated_groups told users id = option_map_or ids_of (user_value told users id users.groups) []

-- he is in a group: one that his row names, or one that such a group implies
abbrev pub IsInGroup : PolicyData → Told → Users → RecId → RecId → Type 0
IsInGroup policy told users id group = IsMember policy.groups (stated_groups told users id) group

-- he is in a group, as the model of users has it; where the registry has none he is in no group
abbrev pub IsInGroupOf : List ModelInfo → PolicyData → Told → RecId → RecId → Type 0
IsInGroupOf models policy told user group = IsSomeAnd (users_of models) (λ users. IsInGroup policy told users user group)

-- these are the groups of a caller by what is told: those that his row names, and with each the ones that it implies; each above the one before it
pub record AreGroupsBy (models : List ModelInfo) (policy : PolicyData) (told : Told) (user : RecId) (own : List RecId) : Type 0 where
  pub rising : IsRising own
  pub members : (group : RecId) → Contains own group ↔ IsInGroupOf models policy told user group

-- by what tables have
abbrev pub AreGroupsOf : List ModelInfo → PolicyData → Tables → RecId → List RecId → Type 0
AreGroupsOf models policy tables user own = AreGroupsBy models policy (told_by models tables) user own
