-- Where nothing stands against entries in their turn, models, their names and their checks are within limits.
use Rattle.std.proofs.Common.{◌≡◌, ◌⊎◌, inl, inr, ℕ, zero, suc, ◌+◌, ◌<◌, ◌≤◌, ◌&&◌, ◌||◌, ◌==◌, nat_le, not, Bool, true, false, cond, List}
use Rattle.std.proofs.Common.{[], ◌∷◌, ◌++◌, length, take, Option, Some, None, is_none, is_some, refl, sym, ap, subst, ◌∙◌, arith}
use Rattle.std.specs.Prelude.{All, IfSome, IsSomeAnd, option_and_then, slice_get}
use Rattle.std.specs.List.{list_all}
use Rattle.std.specs.Option.{option_map_or}
use Rattle.std.specs.Str.{bytes_eq}
use Rattle.std.proofs.lemmas.Bool.{and_parts, cases_lt, false≢true}
use Rattle.std.proofs.lemmas.Bool.Decides.{nat_tests}
use Rattle.std.proofs.lemmas.List.{length-take-le}
use Rattle.std.proofs.lemmas.List.Elements.{All-cons, All-contains, All-head, All-nil, All-tail}
use Rattle.ob_base.specs.Limits.{max_checks, max_models, max_name_bytes}
use Rattle.ob_base.specs.NameBytes.{begins_with_letter, is_name_byte}
use Rattle.ob_definition.specs.declared.definition.ModelDef.{ModelDef}
use Rattle.ob_definition.specs.declared.fault.SchemaFault.{SchemaFault}
use Rattle.ob_definition.specs.declared.fault.SchemaFault.TheVariants as fault
use Rattle.ob_definition.specs.EntryFaults.{IsGatheringFault, IsPastLimit, extends_with_key, is_wrong_entry}
use Rattle.ob_definition.specs.Gathered.{Gathered, added, before, begun, begun_new, blank, copied, gathered, gathered_from, model_of, opened, opened_by, put, with_entry, with_opened}
use Rattle.ob_definition.specs.Names.{is_model_name}
use Rattle.ob_definition.specs.Rooms.{spot_at}
use Rattle.ob_registry.specs.Resolving.{AreFew}
use Rattle.ob_schema.proofs.CallerLemmas.{found-among}

-- ---- one model more

abbrev HasFewChecks : Gathered → Type 0
HasFewChecks g = length g.checks ≤ max_checks

abbrev HasShortName : Gathered → Type 0
HasShortName g = length g.name ≤ max_name_bytes

put-all : (P : Gathered → Type 0) (g : Gathered) (models : List Gathered) → P g → All P models → All P (put g models)
put-all P g [] own all = All-cons P g [] own (All-nil P)
put-all P g (m ∷ models) own all = by (bytes_eq m.name g.name) (put-all P g models own (All-tail P m models all))
  where
    by : (b : Bool) → All P (put g models) → All P (cond b (g ∷ models) (m ∷ put g models))
    by true rest = All-cons P g models own (All-tail P m models all)
    by false rest = All-cons P m (put g models) (All-head P m models all) rest

put-known : (g : Gathered) (models : List Gathered) → is_none (model_of models g.name) ≡ false → length (put g models) ≡ length models
put-known g [] known = absurd (let e : ◌≡◌ {A = Bool} true false = known in cc)
put-known g (m ∷ models) known = by (bytes_eq m.name g.name) known (put-known g models)
  where
    by : (b : Bool) → is_none (cond b (Some m) (model_of models g.name)) ≡ false → (is_none (model_of models g.name) ≡ false → length (put g models) ≡ length models)
        → length (cond b (g ∷ models) (m ∷ put g models)) ≡ length (m ∷ models)
    by true there rest = refl
    by false there rest = let same = rest there in omega arith

put-most : (g : Gathered) (models : List Gathered) → length (put g models) ≤ length models + 1
put-most g [] = omega arith
put-most g (m ∷ models) = by (bytes_eq m.name g.name) (put-most g models)
  where
    by : (b : Bool) → length (put g models) ≤ length models + 1 → length (cond b (g ∷ models) (m ∷ put g models)) ≤ length (m ∷ models) + 1
    by true rest = omega arith
    by false rest = omega arith

put-few : (n : ℕ) (def : ModelDef) (g : Gathered) (models : List Gathered) → AreFew models → HasShortName g
    → (((is_none (model_of models g.name) ≡ true) × (max_models ≤ length models)) ⊎ (max_checks < length (added n def g).checks) → ⊥) → AreFew (put (added n def g) models)
put-few n def g models few short limit = record {
  few = size (is_none (model_of models g.name)) refl;
  short_names = put-all HasShortName (added n def g) models short few.short_names;
  few_checks = put-all HasFewChecks (added n def g) models checked few.few_checks;
}
  where
    checked : HasFewChecks (added n def g)
    checked = elim (cases_lt max_checks (length (added n def g).checks)) as (λ _. HasFewChecks (added n def g)) [ inl many ↦ absurd (limit (inr many)) | inr low ↦ omega (arith, low) ]

    size : (b : Bool) → is_none (model_of models g.name) ≡ b → length (put (added n def g) models) ≤ max_models
    size true free = elim (cases_lt (length models) max_models) as (λ _. length (put (added n def g) models) ≤ max_models) [
      | inl low ↦ (let most = put-most (added n def g) models in omega (arith, most, low))
      | inr full ↦ absurd (limit (inl (free, omega (arith, full))))
    ]
    size false known = let same = put-known (added n def g) models known in omega (arith, same, few.few)

-- ---- names

model-short : (name : List ℕ) → not (is_model_name name) ≡ false → length name ≤ max_name_bytes
model-short name right = by (is_model_name name) refl right
  where
    by : (b : Bool) → is_model_name name ≡ b → not b ≡ false → length name ≤ max_name_bytes
    by true e right =
        let byte : ℕ → Bool = λ b. is_name_byte b || (b == 46) in
        let low : nat_le (length name) max_name_bytes ≡ true = (and_parts (begins_with_letter name && list_all byte name) (nat_le (length name) max_name_bytes) e).1 in
        grind (arith, nat_tests)
    by false e right = absurd (false≢true (sym right))

not-first : (a b : Bool) → ((a || b) ≡ true → ⊥) → a ≡ false
not-first true b refuted = absurd (refuted refl)
not-first false b refuted = refl

-- the model to which an entry adds has a short name
opened-short : (n : ℕ) (def : ModelDef) (models : List Gathered) → All HasShortName models → (name inherit : Option (List ℕ)) → option_map_or (λ own. not (is_model_name own)) name false ≡ false
    → IfSome (opened_by models n def name inherit) HasShortName
opened-short n def models all None None right = tt
opened-short n def models all None (Some base) right = by (model_of models base) refl
  where
    by : (o : Option Gathered) → model_of models base ≡ o → IfSome o HasShortName
    by None e = tt
    by (Some g) e = All-contains HasShortName models g all (found-among (λ (m : Gathered). bytes_eq m.name base) models g e).0
opened-short n def models all (Some name) None right = by (is_some (model_of models name))
  where
    by : (b : Bool) → IfSome (cond b None (Some (begun def (blank n name)))) HasShortName
    by true = tt
    by false = model-short name right
opened-short n def models all (Some name) (Some base) right = of (model_of models base)
  where
    by : (m : Gathered) (b : Bool) → IfSome (cond b None (Some (begun def (copied n name m)))) HasShortName
    by m true = tt
    by m false = model-short name right

    of : (o : Option Gathered) → IfSome (option_and_then (λ m. begun_new models def (copied n name m)) o) HasShortName
    of None = tt
    of (Some m) = by m (is_some (model_of models name))

-- ---- one entry more

entry-few : (n : ℕ) (def : ModelDef) (models : List Gathered) → AreFew models → (IsPastLimit models n def → ⊥) → (is_wrong_entry def ≡ true → ⊥) → AreFew (with_entry n models def)
entry-few n def models few limit right =
    by (opened models n def) (opened-short n def models few.short_names def.name def.inherit (not-first (option_map_or (λ own. not (is_model_name own)) def.name false) (extends_with_key def) right)) limit
  where
    by : (o : Option Gathered) → IfSome o HasShortName → (IsSomeAnd o (λ model. ((is_none (model_of models model.name) ≡ true) × (max_models ≤ length models)) ⊎ (max_checks < length (added n def model).checks)) → ⊥)
        → AreFew (with_opened n def o models)
    by None short past = few
    by (Some g) short past = put-few n def g models few short past

from-snoc : (n : ℕ) (models : List Gathered) (xs : List ModelDef) (def : ModelDef) → gathered_from n models (xs ++ def ∷ []) ≡ with_entry (n + length xs) (gathered_from n models xs) def
from-snoc n models [] def = ap (λ (k : ℕ). with_entry k models def) (let same : n ≡ n + 0 = omega arith in same)
from-snoc n models (x ∷ xs) def =
    from-snoc (suc n) (with_entry n models x) xs def
    ∙ ap (λ (k : ℕ). with_entry k (gathered_from (suc n) (with_entry n models x) xs) def) (let same : suc n + length xs ≡ n + suc (length xs) = omega arith in same)

take-snoc : (defs : List ModelDef) (k : ℕ) (def : ModelDef) → slice_get defs k ≡ Some def → take (suc k) defs ≡ take k defs ++ def ∷ []
take-snoc [] k def at = absurd (let e : ◌≡◌ {A = Option ModelDef} None (Some def) = at in cc)
take-snoc (d ∷ defs) zero def at = let same : d ≡ def = let e : ◌≡◌ {A = Option ModelDef} (Some d) (Some def) = at in cc in ap (λ (x : ModelDef). x ∷ []) same
take-snoc (d ∷ defs) (suc k) def at = ap (λ (xs : List ModelDef). d ∷ xs) (take-snoc defs k def at)

defined-at : (defs : List ModelDef) (k : ℕ) → k < length defs → (def : ModelDef) × (slice_get defs k ≡ Some def)
defined-at [] k low = absurd (omega arith)
defined-at (d ∷ defs) zero low = (d, refl)
defined-at (d ∷ defs) (suc k) low = defined-at defs k (omega arith)

before-more : (defs : List ModelDef) (k : ℕ) (def : ModelDef) → k < length defs → slice_get defs k ≡ Some def → before defs (suc k) ≡ with_entry k (before defs k) def
before-more defs k def low at =
    ap gathered (take-snoc defs k def at) ∙ from-snoc 0 [] (take k defs) def
    ∙ ap (λ (n : ℕ). with_entry n (before defs k) def) (let size : length (take k defs) ≡ k = length-take-le k defs (omega arith) in let same : 0 + length (take k defs) ≡ k = omega arith in same)

take-all : (defs : List ModelDef) → take (length defs) defs ≡ defs
take-all [] = refl
take-all (d ∷ defs) = ap (λ (xs : List ModelDef). d ∷ xs) (take-all defs)

module _ (defs : List ModelDef) (none : (why : SchemaFault) → IsGatheringFault defs why → ⊥) where
  before-few : (k : ℕ) → k ≤ length defs → AreFew (before defs k)
  before-few zero low = record { few = omega arith; short_names = All-nil HasShortName; few_checks = All-nil HasFewChecks }
  before-few (suc k) low =
      let here = defined-at defs k (omega arith) in
      let limit : IsPastLimit (before defs k) k here.0 → ⊥ = λ past. none (fault.Limit (spot_at k [])) (k, here.0, here.1, ((refl, refl), past)) in
      let right : is_wrong_entry here.0 ≡ true → ⊥ = λ wrong. none (fault.Kind (spot_at k [])) (k, here.0, here.1, ((refl, refl), wrong)) in
      subst AreFew (sym (before-more defs k here.0 (omega arith) here.1)) (entry-few k here.0 (before defs k) (before-few k (omega arith)) limit right)

  pub few_models : AreFew (gathered defs)
  few_models = subst (λ (l : List ModelDef). AreFew (gathered l)) (take-all defs) (before-few (length defs) (omega arith))
