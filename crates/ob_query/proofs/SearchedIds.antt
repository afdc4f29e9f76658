-- The ids of a model's rows, in tables that are sound.
use Rattle.std.proofs.Common.{◌≡◌, ℕ, suc, ◌+◌, ◌<◌, ◌≤◌, ◌⊎◌, inl, inr, List, [], ◌∷◌, Option, Some, None, is_some, IsSome, refl, arith, length}
use Rattle.std.specs.Prelude.{slice_get, IsSomeAnd, codes, true}
use Rattle.std.specs.List.{AllByRecursion}
use Rattle.std.proofs.lemmas.Bool.{cases_lt}
use Rattle.ob_base.specs.Limits.{max_id}
use Rattle.ob_base.specs.declared.id.FieldNo.{FieldNo}
use Rattle.ob_base.specs.declared.id.ModelNo.{ModelNo}
use Rattle.ob_base.specs.declared.id.RecId.{RecId}
use Rattle.ob_base.specs.declared.refusal.BrokenKind.TheVariants as kind
use Rattle.ob_cache.proofs.CallerLemmas.{id-found, id-there}
use Rattle.ob_query.proofs.Walks.{above, above-all, few-ids}
use Rattle.ob_schema.specs.Broken.{AreSound}
use Rattle.ob_schema.specs.Models.{HasModel, IsRegistry, field_at, field_named, is_id_from, model_at}
use Rattle.ob_schema.specs.Tables.{Tables, ids_in, row_at}
use Rattle.ob_schema.specs.declared.info.ModelInfo.{ModelInfo}
use Rattle.ob_tables.proofs.CallerLemmas.{ids-rise, ids-there}

-- an id that rows may have
abbrev IsRowId : RecId → Type 0
IsRowId id = (0 < id.0) × (id.0 ≤ max_id)

-- what holds of whatever stands in a list holds of all
each_at : {X : Type 0} (P : X → Type 0) (xs : List X) → ((k : ℕ) (x : X) → slice_get xs k ≡ Some x → P x) → AllByRecursion P xs
each_at P [] each = tt
each_at P (x ∷ xs) each = (each 0 x refl, each_at P xs (λ k y e. each (suc k) y e))

weaker : {X : Type 0} (o : Option X) (P Q : X → Type 0) → ((x : X) → P x → Q x) → IsSomeAnd o P → IsSomeAnd o Q
weaker None P Q f h = absurd h
weaker (Some x) P Q f h = f x h

found : {X : Type 0} (o : Option X) → IsSome o → (x : X) × (o ≡ Some x)
found None h = cc
found (Some x) h = (x, refl)

module _ (models : List ModelInfo) (registry : IsRegistry models) (tables : Tables) (sound : AreSound models tables) (model : ModelNo) (there : HasModel models model) where
  -- the model has a field `id`
  id_field : (number : FieldNo) × IsSomeAnd (field_at models model number) (λ field. is_id_from field.origin ≡ true)
  id_field = let own = found (model_at models model) there in by own.0 own.1 (field_named own.0.fields (codes "id")) refl where
    by : (info : ModelInfo) → model_at models model ≡ Some info → (o : Option FieldNo) → field_named info.fields (codes "id") ≡ o → (number : FieldNo) × IsSomeAnd (field_at models model number) (λ field. is_id_from field.origin ≡ true)
    by info is None none = absurd (id-there models registry model info is none)
    by info is (Some number) named = (number, id-found models registry model info is number named)

  -- a row's id is one that rows may have, since else it were broken
  row_id : (id : RecId) → IsSome (row_at tables model id) → IsRowId id
  row_id id row = (above_none (cases_lt 0 id.0), within (cases_lt max_id id.0)) where
    past : (id.0 ≡ 0) ⊎ (max_id < id.0) → ⊥
    past wrong =
        sound.sound (record { kind = kind.Limit; cell = record { model = model; id = id; field = id_field.0 } })
        (inl (row, weaker (field_at models model id_field.0) (λ field. is_id_from field.origin ≡ true) (λ field. (is_id_from field.origin ≡ true) × ((id.0 ≡ 0) ⊎ (max_id < id.0))) (λ field is. (is, wrong)) id_field.1))

    above_none : (0 < id.0) ⊎ (id.0 ≤ 0) → 0 < id.0
    above_none (inl low) = low
    above_none (inr none) = absurd (past (inl (omega arith)))

    within : (max_id < id.0) ⊎ (id.0 ≤ max_id) → id.0 ≤ max_id
    within (inl far) = absurd (past (inr far))
    within (inr low) = low

  -- each id of the model's rows is one
  row_ids : AllByRecursion IsRowId (ids_in tables model)
  row_ids = each_at IsRowId (ids_in tables model) (λ k id at. row_id id (ids-there tables model k id at))

firsts : {X : Type 0} (P Q : X → Type 0) (xs : List X) → AllByRecursion (λ x. P x × Q x) xs → AllByRecursion P xs
firsts P Q [] h = tt
firsts P Q (x ∷ xs) h = (h.0.0, firsts P Q xs h.1)

seconds : {X : Type 0} (P Q : X → Type 0) (xs : List X) → AllByRecursion (λ x. P x × Q x) xs → AllByRecursion Q xs
seconds P Q [] h = tt
seconds P Q (x ∷ xs) h = (h.0.1, seconds P Q xs h.1)

-- each of them stands above none, so a walk comes to all
pub all-above : (models : List ModelInfo) → IsRegistry models → (tables : Tables) → AreSound models tables → (model : ModelNo) → HasModel models model → above (record { 0 = 0 }) (ids_in tables model) ≡ ids_in tables model
all-above models registry tables sound model there =
    above-all (record { 0 = 0 }) (ids_in tables model) (firsts (λ id. 0 < id.0) (λ id. id.0 ≤ max_id) (ids_in tables model) (row_ids models registry tables sound model there))

-- and they are few
pub few-rows : (models : List ModelInfo) → IsRegistry models → (tables : Tables) → AreSound models tables → (model : ModelNo) → HasModel models model → length (ids_in tables model) ≤ max_id + 1
few-rows models registry tables sound model there =
    few-ids max_id (ids_in tables model) (ids-rise model tables) (seconds (λ id. 0 < id.0) (λ id. id.0 ≤ max_id) (ids_in tables model) (row_ids models registry tables sound model there))

-- each of them is known
pub all-there : (tables : Tables) (model : ModelNo) → AllByRecursion (λ id. is_some (row_at tables model id) ≡ true) (ids_in tables model)
all-there tables model = each_at (λ id. is_some (row_at tables model id) ≡ true) (ids_in tables model) (λ k id at. ids-there tables model k id at)
