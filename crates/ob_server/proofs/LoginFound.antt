-- What is told of three elements or more of a login, where each is as it has to be.
use Rattle.std.proofs.Common.{◌≡◌, ◌<◌, ◌≤◌, arith, length, Err, ℕ, true, false, List, [], ◌∷◌, Ok, Some, None, refl, drop, get_or}
use Rattle.serde_json.specs.Data.{Data, Items, item}
use Rattle.serde_json.specs.View.{items_view}
use Rattle.serde_json.specs.declared.value.Value.{Value}
use Rattle.ob_rpc.specs.Envelope.{is_text}
use Rattle.serde_json.specs.Find.{as_str}
use Rattle.ob_server.specs.Directory.{Directory}
use Rattle.ob_server.specs.Request.{listed, login_of, user_json}

-- the elements at the first three numbers of a list
pub record IsThree {X : Type 0} (xs : List X) (a b c : X) : Type 0 where
  pub first : a ≡ get_or xs 0 a
  pub second : b ≡ get_or xs 1 b
  pub third : c ≡ get_or xs 2 c

-- a list of three elements or more is these and the rest
pub three_and_rest : {X : Type 0} (xs : List X) (a b c : X) → 3 ≤ length xs → IsThree xs a b c → xs ≡ a ∷ b ∷ c ∷ drop 3 xs
three_and_rest [] a b c many at = absurd (omega arith)
three_and_rest (x0 ∷ []) a b c many at = absurd (omega arith)
three_and_rest (x0 ∷ x1 ∷ []) a b c many at = absurd (omega arith)
three_and_rest (x0 ∷ x1 ∷ x2 ∷ xs) a b c many at = rw (at.first, at.second, at.third) refl

module _ (database : List ℕ) (directory : Directory) (db login key : Data) (rest : Items) where
  abbrev elements : Items
  elements = item db (item login (item key rest))

  -- three elements of another database are wrong there
  pub no_login_database : is_text database db ≡ false → login_of database directory elements ≡ Err 0
  no_login_database other = rw other refl

  module _ (is_db : is_text database db ≡ true) where
    -- without a login that is a text at that
    pub no_login : as_str login ≡ None → login_of database directory elements ≡ Err 1
    no_login none = rw (is_db, none) refl

    module _ (name : List ℕ) (is_login : as_str login ≡ Some name) where
      -- without such a key at the key
      pub no_key : as_str key ≡ None → login_of database directory elements ≡ Err 2
      no_key none = rw (is_db, is_login, none) refl

      -- else they are told by the login and the key
      pub login_told : (word : List ℕ) → as_str key ≡ Some word → login_of database directory elements ≡ Ok (user_json (directory.user_with name word))
      login_told word is_key = rw (is_db, is_login, is_key) refl

-- fewer are wrong at the first that is missing
pub few_of_login : (database : List ℕ) (directory : Directory) (vs : List Value) → length vs < 3 → login_of database directory (items_view vs) ≡ Err (length vs)
few_of_login database directory [] few = refl
few_of_login database directory (a ∷ []) few = refl
few_of_login database directory (a ∷ b ∷ []) few = refl
few_of_login database directory (a ∷ b ∷ c ∷ rest) few = absurd (omega arith)

-- fewer than five elements have no arguments to be listed
pub few_listed : (vs : List Value) → length vs < 5 → items_view vs ≡ listed (items_view vs)
few_listed [] few = refl
few_listed (a ∷ []) few = refl
few_listed (a ∷ b ∷ []) few = refl
few_listed (a ∷ b ∷ c ∷ []) few = refl
few_listed (a ∷ b ∷ c ∷ d ∷ []) few = refl
few_listed (a ∷ b ∷ c ∷ d ∷ e ∷ rest) few = absurd (omega arith)
