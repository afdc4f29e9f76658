-- Pages of ids.
use Rattle.std.proofs.Common.{◌≡◌, ◌≤◌, ◌<◌, ◌^◌, inl, inr, ℕ, true, List, [], ◌∷◌, filter, length, Option, Some, None, is_some, IsSome, refl, ap, subst, sym, arith}
use Rattle.std.specs.Prelude.{All, IsSomeAnd, nat_lt, option_and_then}
use Rattle.std.proofs.lemmas.List.{length-take}
use Rattle.std.proofs.lemmas.List.Elements.{All-cons, All-filter, All-map, All-nil, All-take, All-weaker, filter_passes}
use Rattle.std.proofs.lemmas.Bool.Decides.{nat_tests}
use Rattle.ob_base.specs.Rising.{IsRising}
use Rattle.ob_base.specs.declared.id.FieldNo.{FieldNo}
use Rattle.ob_base.specs.declared.id.ModelNo.{ModelNo}
use Rattle.ob_base.specs.declared.id.RecId.{RecId}
use Rattle.ob_cache.specs.Stages.{IsPageAbove}
use Rattle.ob_schema.specs.Built.{numbered}
use Rattle.ob_schema.specs.Models.{FieldHas, HasModel, fields_of, model_at}
use Rattle.ob_schema.specs.Plain.{names, naming}
use Rattle.ob_schema.specs.Tables.{PlainRow, Tables, ids_in, kept_in, row_at, rows_in}
use Rattle.ob_schema.specs.declared.info.FieldInfo.{FieldInfo}
use Rattle.ob_schema.specs.declared.info.ModelInfo.{ModelInfo}
use Rattle.ob_tables.specs.Fitting.{IsFitId}
use Rattle.ob_tables.specs.Paging.{first_above}
use Rattle.ob_tables.proofs.CallerLemmas.{Stands, rows_in-there}

less : (a b : ℕ) → nat_lt a b ≡ true → a < b
less a b h = grind (arith, nat_tests)

-- what holds of whatever stands among them holds of all
all-standing : {X : Type 0} (P : X → Type 0) (xs : List X) → ((x : X) → Stands x xs → P x) → All P xs
all-standing P [] each = All-nil P
all-standing P (x ∷ xs) each = All-cons P x xs (each x (inl refl)) (all-standing P xs (λ y among. each y (inr among)))

-- an id below a number that fits has a next one
fit-below : (id : RecId) (next : ℕ) → next < 2 ^ 64 → id.0 < next → IsFitId id
fit-below id next fits below = omega arith

module _ (tables : Tables) (model : ModelNo) (next : ℕ) (fits : next < 2 ^ 64) (above : (id : RecId) → IsSome (row_at tables model id) → id.0 < next) where
  -- the id of a row has a next one
  pub row-fit : (id : RecId) → IsSome (row_at tables model id) → IsFitId id
  row-fit id there = fit-below id next fits (above id there)

  rows-fit : All (λ (e : RecId × PlainRow). IsFitId e.0) (rows_in tables model)
  rows-fit = all-standing (λ (e : RecId × PlainRow). IsFitId e.0) (rows_in tables model) (λ e among. row-fit e.0 (ap is_some (rows_in-there tables model e among)))

  pub ids-fit : All IsFitId (ids_in tables model)
  ids-fit = All-map IsFitId (λ (e : RecId × PlainRow). e.0) (rows_in tables model) rows-fit

  pub naming-fit : (field : FieldNo) (id : RecId) → All IsFitId (naming tables model field id)
  naming-fit field id =
      let test = λ (e : RecId × PlainRow). names id (kept_in e.1 field) in
      All-map IsFitId (λ (e : RecId × PlainRow). e.0) (filter test (rows_in tables model)) (All-filter test (λ (e : RecId × PlainRow). IsFitId e.0) (rows_in tables model) rows-fit)

-- the first ids above one, where they rise
pub page-fits : (after : RecId) (most : ℕ) (all ids : List RecId) → ids ≡ first_above after most all → All IsFitId all → IsRising ids → IsPageAbove after most ids
page-fits after most all ids is fit rising =
    let is_above = λ (id : RecId). nat_lt after.0 id.0 in
    record {
      few = subst (λ (l : List RecId). length l ≤ most) (sym is) (omega (arith, length-take most (filter is_above all)));
      fit = subst (All IsFitId) (sym is) (All-take IsFitId most (filter is_above all) (All-filter is_above IsFitId all fit));
      above = subst (All (λ id. after.0 < id.0)) (sym is)
          (All-take (λ id. after.0 < id.0) most (filter is_above all)
          (All-weaker (λ id. is_above id ≡ true) (λ id. after.0 < id.0) (λ id h. less after.0 id.0 h) (filter is_above all) (filter_passes is_above all)));
      rising = rising;
    }

-- a field that has a property is one of a model
pub model-there : (models : List ModelInfo) (model : ModelNo) (field : FieldNo) (P : FieldInfo → Type 0) → FieldHas models P model field → HasModel models model
model-there models model field P has = by (model_at models model) has
  where
    by : (o : Option ModelInfo) → IsSomeAnd (option_and_then (λ info. numbered (fields_of info) field.0) o) P → IsSome o
    by None has = absurd has
    by (Some info) has = refl
