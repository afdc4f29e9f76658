-- What holds of those who may call and log in.
use Rattle.std.proofs.Common.{◌≡◌, ℕ, Bool, true, false, cond, List, ◌∷◌, Option, Some, None, refl, ap, ◌∙◌}
use Rattle.std.specs.List.{find}
use Rattle.std.specs.Option.{option_map_or}
use Rattle.std.specs.Prelude.{◌&&◌, IsSome, option_and_then}
use Rattle.ob_access.specs.Users as user
use Rattle.ob_access.specs.declared.users.Users.{Users}
use Rattle.ob_base.specs.declared.id.RecId.{RecId}
use Rattle.ob_cache.specs.Calls.{Standpoint, models_at}
use Rattle.ob_schema.specs.Built.{numbered}
use Rattle.ob_schema.specs.Facts.{told_by}
use Rattle.ob_schema.specs.Models.{HasModel, fields_of, model_at}
use Rattle.ob_schema.specs.Tables.{Tables}
use Rattle.ob_schema.specs.declared.info.ModelInfo.{ModelInfo}
use Rattle.ob_server.specs.Directory.{Directory, OfDirectory, directory_of, first_with, nobody}

-- what follows of every directory follows of an engine's
pub then_of : (at : Standpoint) (P Q : Directory → Type 0) → ((directory : Directory) → P directory → Q directory) → OfDirectory at P → OfDirectory at Q
then_of at P Q then holds = record { told = λ tables rests. then (directory_of (models_at at) tables) (holds.told tables rests); one = holds.one; of_one = then holds.one holds.of_one }

-- what holds of every directory holds of an engine's
pub of_each : (at : Standpoint) (P : Directory → Type 0) → ((directory : Directory) → P directory) → OfDirectory at P
of_each at P each = record { told = λ tables rests. each (directory_of (models_at at) tables); one = nobody; of_one = each nobody }

-- a directory by which all may call, or none, and one user logs in
abbrev pub with_answers : Bool → Option RecId → Directory
with_answers may found = record { may_call = λ _ _. may; user_with = λ _ _. found }

module _ (models : List ModelInfo) (tables : Tables) where
  -- by the rows of users a key opens a call exactly where it does by the directory
  pub opens_by_rows : (users : Users) (id : RecId) (key : List ℕ) → user.users_of models ≡ Some users → (directory_of models tables).may_call id key ≡ user.may_call (told_by models tables) users id key
  unfolding directory_of
  opens_by_rows users id key found = ap (λ (o : Option Users). option_map_or (λ users. user.may_call (told_by models tables) users id key) o false) found

  pub opens_nothing : (id : RecId) (key : List ℕ) → user.users_of models ≡ None → (directory_of models tables).may_call id key ≡ false
  unfolding directory_of
  opens_nothing id key found = ap (λ (o : Option Users). option_map_or (λ users. user.may_call (told_by models tables) users id key) o false) found

  -- and a login and a key name the user that they do by the directory
  pub first_by_rows : (users : Users) (login key : List ℕ) → user.users_of models ≡ Some users → (directory_of models tables).user_with login key ≡ first_with models tables users login key
  unfolding directory_of
  first_by_rows users login key found = ap (λ (o : Option Users). option_and_then (λ users. first_with models tables users login key) o) found

  pub first_of_none : (login key : List ℕ) → user.users_of models ≡ None → (directory_of models tables).user_with login key ≡ None
  unfolding directory_of
  first_of_none login key found = ap (λ (o : Option Users). option_and_then (λ users. first_with models tables users login key) o) found

-- ---- users

model_of : {A B : Type 0} (find : A → Option B) (o : Option A) → IsSome (option_and_then find o) → IsSome o
model_of find (Some x) has = refl
model_of find None has = absurd cc

-- the model of users is there
pub model_of_users : (models : List ModelInfo) (users : Users) → user.AreUsers models users → HasModel models users.model
model_of_users models users are = model_of (λ info. numbered (fields_of info) users.active.0) (model_at models users.model) are.active

-- a key that opens nothing lets nobody log in
pub unopened : (may has : Bool) → may ≡ false → false ≡ (may && has)
unopened false has is = refl
unopened true has is = absurd cc

-- with one that does the login decides
pub opened : (may has does : Bool) → may ≡ true → does ≡ has → does ≡ (may && has)
opened true has does is named = named
opened false has does is named = absurd cc

-- ---- the first that passes

-- it comes first
pub finds_first : (p : RecId → Bool) (ids rest : List RecId) (id : RecId) → ids ≡ id ∷ rest → p id ≡ true → find p ids ≡ Some id
finds_first p ids rest id is passes = ap (find p) is ∙ ap (λ (b : Bool). cond b (Some id) (find p rest)) passes

-- it comes later
pub finds_later : (p : RecId → Bool) (ids rest : List RecId) (id : RecId) → ids ≡ id ∷ rest → p id ≡ false → find p ids ≡ find p rest
finds_later p ids rest id is fails = ap (find p) is ∙ ap (λ (b : Bool). cond b (Some id) (find p rest)) fails
