-- Who may call, and who logs in.
use Rattle.std.specs.Prelude.{ℕ, ◌&&◌, List, Bool, false, Option, None, option_and_then}
use Rattle.std.specs.List.{find}
use Rattle.std.specs.Option.{option_map_or}
use Rattle.ob_access.specs.Users as user
use Rattle.ob_access.specs.declared.users.Users.{Users}
use Rattle.ob_base.specs.declared.id.RecId.{RecId}
use Rattle.ob_cache.specs.Calls.{HasTables, Standpoint, models_at}
use Rattle.ob_schema.specs.Facts.{Told, told_by}
use Rattle.ob_schema.specs.Tables.{Tables, ids_in}
use Rattle.ob_schema.specs.declared.info.ModelInfo.{ModelInfo}

-- for whom a key opens a call, and whom a login and a key name
pub record Directory : Type 0 where
  pub may_call : RecId → (key : List ℕ) → Bool
  pub user_with : (login key : List ℕ) → Option RecId

-- a user logs in so: the key opens a call for him, and the login is his
abbrev pub logs_in : Told → Users → (login key : List ℕ) → RecId → Bool
logs_in told users login key id = user.may_call told users id key && user.has_login told users id login

-- the first user of tables who does; no two have one login
abbrev pub first_with : List ModelInfo → Tables → Users → (login key : List ℕ) → Option RecId
first_with models tables users login key = find (logs_in (told_by models tables) users login key) (ids_in tables users.model)

-- that of tables, by the rows of their model of users; without such a model there is nobody
unfoldable pub directory_of : List ModelInfo → Tables → Directory
directory_of models tables = record {
  may_call = λ id key. option_map_or (λ users. user.may_call (told_by models tables) users id key) (user.users_of models) false;
  user_with = λ login key. option_and_then (λ users. first_with models tables users login key) (user.users_of models);
}

-- nobody may call, and nobody logs in
abbrev pub nobody : Directory
nobody = record { may_call = λ _ _. false; user_with = λ _ _. None }

-- something holds of a directory: of that of an engine's tables, where they are told, and in any case of some one
pub record OfDirectory (at : Standpoint) (holds : Directory → Type 0) : Type 0 where
  pub told : (tables : Tables) → HasTables at tables → holds (directory_of (models_at at) tables)
  pub one : Directory
  pub of_one : holds one
