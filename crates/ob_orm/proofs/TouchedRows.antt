-- The rows that a write touches, one behind another.
use Rattle.std.proofs.Common.{◌≡◌, ◌==◌, ◌+◌, ◌<◌, ℕ, zero, suc, eqb-true, Bool, true, false, List, [], ◌∷◌, ◌++◌, map, take, length, get_or, Option, Some, None, is_some, option_to_list, append-nil, append_assoc, refl, sym, ap, ◌∙◌, arith}
use Rattle.std.specs.Prelude.{All, Contains, IsSomeAnd, filter, option_and_then, option_map}
use Rattle.std.specs.List.{cons_option, filter_map, flat_map}
use Rattle.std.specs.Option.{option_map_or}
use Rattle.std.proofs.lemmas.List.{flat_map_more, take_more}
use Rattle.std.proofs.lemmas.List.Elements.{All-cons, All-contains_itself, All-head, All-nil, All-tail, All-weaker, Contains-append_right, filter_map-append}
use Rattle.ob_base.specs.declared.id.ModelNo.{ModelNo}
use Rattle.ob_base.specs.declared.id.RecId.{RecId}
use Rattle.ob_base.specs.declared.id.RowKey.{RowKey}
use Rattle.ob_cache.specs.Standing.{Holding, RestsAt, Stays}
use Rattle.ob_cache.specs.Telling.{TellsFacts}
use Rattle.ob_io.specs.Store.{Store}
use Rattle.ob_rows.proofs.CallerLemmas.{kept-more, passed-over, rests-tells, told-later}
use Rattle.ob_rows.specs.AskingSteps.{AreKnown}
use Rattle.ob_orm.specs.NewRows.{Values, behind}
use Rattle.ob_rows.specs.Rights.{rows_named}
use Rattle.ob_orm.specs.Touched.{given_parents, is_any, linked_in, parent_row, parent_rows}
use Rattle.ob_orm.specs.WriteSteps.{AreOfModels}
use Rattle.ob_schema.specs.Facts.{OfAllTold, Told, told_by}
use Rattle.ob_schema.specs.Models.{HasModel, IsParentIn, model_at}
use Rattle.ob_schema.specs.Tables.{PlainRow, Tables, key_of, row_at}
use Rattle.ob_schema.specs.declared.info.ModelInfo.{ModelInfo}
use Rattle.ob_schema.specs.declared.info.ParentInfo.{ParentInfo}

-- a parent that is none
abbrev pub no_parent : ParentInfo
no_parent = record { link = record { 0 = 0 }; model = record { 0 = 0 } }

-- ---- the parents for whose fields something is given

-- values that aren't empty are some
pub any-some : (values : Values) → (length values == 0) ≡ false → is_any values ≡ true
any-some [] some = absurd cc
any-some (one ∷ more) some = refl

pub any-none : (values : Values) → (length values == 0) ≡ true → is_any values ≡ false
any-none [] none = refl
any-none (one ∷ more) none = let is : length (one ∷ more) ≡ 0 = eqb-true (length (one ∷ more)) 0 none in absurd (let no : ⊥ = omega arith in no)

module _ (models : List ModelInfo) (model : ModelNo) (given : Values) where
  abbrev pub gives : ParentInfo → Bool
  gives parent = is_any (behind models model parent.link given)

  -- of one parent more
  module _ (all : List ParentInfo) (i : ℕ) (lt : i < length all) (parents : List ParentInfo) (far : parents ≡ filter gives (take i all)) where
    pub parents-pushed : (new : List ParentInfo) → gives (get_or all i no_parent) ≡ true → new ≡ parents ++ get_or all i no_parent ∷ [] → new ≡ filter gives (take (i + 1) all)
    parents-pushed new is pushed = pushed ∙ ap (λ (ps : List ParentInfo). ps ++ get_or all i no_parent ∷ []) far ∙ sym (kept-more gives all i no_parent lt is)

    pub parents-passed : gives (get_or all i no_parent) ≡ false → parents ≡ filter gives (take (i + 1) all)
    parents-passed is = far ∙ sym (passed-over gives all i no_parent lt is)

-- ---- what is told

-- what was told behind a question holds of the tables at which the engine rested before it
pub told-at : (a b : Option Store) (old new : Holding) → Stays a old b new → (P : Told → Type 0) → OfAllTold (TellsFacts b new) P → (tables : Tables) → RestsAt a old tables → P (told_by old.models tables)
told-at a b old new stays P h tables rests = told-later a b old new stays P h (told_by old.models tables) (rests-tells a old tables rests)

-- ---- the row of a parent

module _ (models : List ModelInfo) (model : ModelNo) (given : Values) (tables : Tables) (id : ℕ) (parent : ParentInfo) where
  abbrev row_of : Option RecId → Option RowKey
  row_of o = option_and_then (λ row. option_map (λ there. key_of parent.model row) (row_at tables parent.model row)) o

  abbrev key_if : RecId → Option PlainRow → Option RowKey
  key_if row o = option_map (λ there. key_of parent.model row) o

  at_row : (row : RecId) → linked_in models model tables given id parent.link ≡ Some row → parent_row models model given tables id parent ≡ key_if row (row_at tables parent.model row)
  at_row row named = ap row_of named

  -- the link names none
  pub row-unnamed : (rows : List RowKey) → None ≡ linked_in models model tables given id parent.link → rows ≡ rows ++ option_to_list (parent_row models model given tables id parent)
  row-unnamed rows named = sym (append-nil rows) ∙ ap (λ (o : Option RowKey). rows ++ option_to_list o) (ap row_of named)

  -- the one that it names is there
  pub row-pushed : (rows new : List RowKey) (row : RecId) → Some row ≡ linked_in models model tables given id parent.link → true ≡ is_some (row_at tables parent.model row) → new ≡ rows ++ key_of parent.model row ∷ []
      → new ≡ rows ++ option_to_list (parent_row models model given tables id parent)
  row-pushed rows new row named there pushed = pushed ∙ sym (ap (λ (o : Option RowKey). rows ++ option_to_list o) (at_row row (sym named) ∙ by (row_at tables parent.model row) there)) where
    by : (o : Option PlainRow) → true ≡ is_some o → key_if row o ≡ Some (key_of parent.model row)
    by None there = absurd cc
    by (Some kept) there = refl

  -- or isn't
  pub row-gone : (rows : List RowKey) (row : RecId) → Some row ≡ linked_in models model tables given id parent.link → false ≡ is_some (row_at tables parent.model row)
      → rows ≡ rows ++ option_to_list (parent_row models model given tables id parent)
  row-gone rows row named there = sym (append-nil rows) ∙ sym (ap (λ (o : Option RowKey). rows ++ option_to_list o) (at_row row (sym named) ∙ by (row_at tables parent.model row) there)) where
    by : (o : Option PlainRow) → false ≡ is_some o → key_if row o ≡ None
    by None there = refl
    by (Some kept) there = absurd cc

-- ---- the rows of several

module _ {X Y : Type 0} (h : X → Option Y) where
  listed : (o : Option Y) → cons_option o [] ≡ option_to_list o
  listed None = refl
  listed (Some y) = refl

  -- what one more gives
  pub chosen-more : (old : List Y) (xs : List X) (i : ℕ) (d : X) → i < length xs → (old ++ filter_map h (take i xs)) ++ option_to_list (h (get_or xs i d)) ≡ old ++ filter_map h (take (i + 1) xs)
  chosen-more old xs i d lt =
      append_assoc old (filter_map h (take i xs)) (option_to_list (h (get_or xs i d)))
      ∙ ap (λ (ys : List Y). old ++ (filter_map h (take i xs) ++ ys)) (sym (listed (h (get_or xs i d))))
      ∙ ap (λ (ys : List Y). old ++ ys) (sym (ap (filter_map h) (take_more xs i d lt) ∙ filter_map-append h (take i xs) (get_or xs i d ∷ [])))

-- ---- a row with those of its parents

module _ (models : List ModelInfo) (model : ModelNo) (given : Values) (tables : Tables) (id : ℕ) where
  abbrev parents_if : List ParentInfo → Option PlainRow → List RowKey
  parents_if parents o = option_map_or (λ there. filter_map (parent_row models model given tables id) parents) o []

  -- the row isn't there
  pub touched-gone : (rows new : List RowKey) → false ≡ is_some (row_at tables model (record { 0 = id })) → new ≡ rows ++ key_of model (record { 0 = id }) ∷ []
      → new ≡ rows ++ (key_of model (record { 0 = id }) ∷ parent_rows models model given tables id)
  touched-gone rows new there pushed = pushed ∙ sym (ap (λ (ks : List RowKey). rows ++ (key_of model (record { 0 = id }) ∷ ks)) (by (row_at tables model (record { 0 = id })) there)) where
    by : (o : Option PlainRow) → false ≡ is_some o → parents_if (given_parents models model given) o ≡ []
    by None there = refl
    by (Some kept) there = absurd cc

  -- it is
  pub touched-there : (rows with_own new : List RowKey) (parents : List ParentInfo) → true ≡ is_some (row_at tables model (record { 0 = id })) → parents ≡ given_parents models model given
      → with_own ≡ rows ++ key_of model (record { 0 = id }) ∷ [] → new ≡ with_own ++ filter_map (parent_row models model given tables id) parents
      → new ≡ rows ++ (key_of model (record { 0 = id }) ∷ parent_rows models model given tables id)
  touched-there rows with_own new parents there are own pushed =
      pushed ∙ ap (λ (ks : List RowKey). ks ++ filter_map (parent_row models model given tables id) parents) own
      ∙ append_assoc rows (key_of model (record { 0 = id }) ∷ []) (filter_map (parent_row models model given tables id) parents)
      ∙ ap (λ (ps : List ParentInfo). rows ++ (key_of model (record { 0 = id }) ∷ filter_map (parent_row models model given tables id) ps)) are
      ∙ sym (ap (λ (ks : List RowKey). rows ++ (key_of model (record { 0 = id }) ∷ ks)) (by (row_at tables model (record { 0 = id })) there)) where
        by : (o : Option PlainRow) → true ≡ is_some o → parents_if (given_parents models model given) o ≡ filter_map (parent_row models model given tables id) (given_parents models model given)
        by None there = absurd cc
        by (Some kept) there = refl

-- the rows of one id more
pub rows-more : (f : ℕ → List RowKey) (ids : List ℕ) (i d : ℕ) → i < length ids → flat_map f (take i ids) ++ f (get_or ids i d) ≡ flat_map f (take (i + 1) ids)
rows-more f ids i d lt = flat_map_more f [] (take i ids) (get_or ids i d) ∙ sym (ap (flat_map f) (take_more ids i d lt))

-- ---- of which models they are, and which of them are known

-- rows of one of several ids
pub known-at : (told : Told) (model : ModelNo) (ids : List ℕ) (i d : ℕ) → i < length ids → AreKnown (rows_named model ids) told → told.knows model (record { 0 = get_or ids i d }) ≡ true
known-at told model [] i d lt known = absurd (let no : ⊥ = omega arith in no)
known-at told model (id ∷ ids) zero d lt known = All-head (λ (row : RowKey). told.knows row.model row.id ≡ true) (key_of model (record { 0 = id })) (rows_named model ids) known
known-at told model (id ∷ ids) (suc i) d lt known =
    known-at told model ids i d (omega arith) (All-tail (λ (row : RowKey). told.knows row.model row.id ≡ true) (key_of model (record { 0 = id })) (rows_named model ids) known)

-- what is true of what a function makes of each
unmapped : {X Y : Type 0} (P : Y → Type 0) (f : X → Y) (xs : List X) → All P (map f xs) → All (λ x. P (f x)) xs
unmapped P f [] h = All-nil (λ x. P (f x))
unmapped P f (x ∷ xs) h = All-cons (λ y. P (f y)) x xs (All-head P (f x) (map f xs) h) (unmapped P f xs (All-tail P (f x) (map f xs) h))

-- parents are of their models
pub of-models : (model : ModelNo) (parents : List ParentInfo) → AreOfModels (model ∷ map (λ parent. parent.model) parents) parents
of-models model parents =
    let ms : List ModelNo = map (λ (parent : ParentInfo). parent.model) parents in
    All-weaker (λ (parent : ParentInfo). Contains ms parent.model) (λ parent. Contains (model ∷ ms) parent.model) (λ parent within. Contains-append_right (model ∷ []) ms parent.model within) parents
    (unmapped (Contains ms) (λ (parent : ParentInfo). parent.model) parents (All-contains_itself ms))

-- and so is the model itself
pub own-model : (model : ModelNo) (ms : List ModelNo) → Contains (model ∷ ms) model
own-model model ms = (0, omega arith, refl)

-- the model of a parent is one
pub parent-model : (models : List ModelInfo) (model : ModelNo) (parent : ParentInfo) → IsParentIn models model parent → HasModel models parent.model
parent-model models model parent within = by (model_at models parent.model) within.single where
  by : (o : Option ModelInfo) → IsSomeAnd o (λ info. info.inherits ≡ []) → is_some o ≡ true
  by None single = absurd single
  by (Some info) single = refl
