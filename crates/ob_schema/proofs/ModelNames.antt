-- What a look-up by name found is there.
use Rattle.std.proofs.Common.{◌≡◌, ℕ, zero, suc, ◌<◌, Bool, true, false, cond, ltb, List, [], ◌∷◌, ◌++◌, length, get_or, Option, Some, None, option_map, is_some, inl, inr, refl, sym, ap, subst, ◌∙◌, ◌-◌, arith}
use Rattle.std.specs.Prelude.{IfSome, IsSome, slice_get}
use Rattle.std.specs.List.{position, position_or_len}
use Rattle.std.specs.Str.{bytes_eq}
use Rattle.std.proofs.lemmas.Bool.{false≢true}
use Rattle.std.proofs.lemmas.Bool.Decides.{nat_tests}
use Rattle.std.proofs.lemmas.Option.{slice_get_cases, slice_get_read, slice_get_within}
use Rattle.ob_base.specs.declared.id.FieldNo.{FieldNo}
use Rattle.ob_base.specs.declared.id.ModelNo.{ModelNo}
use Rattle.ob_schema.specs.declared.info.FieldInfo.{FieldInfo}
use Rattle.ob_schema.specs.declared.info.ModelInfo.{ModelInfo}
use Rattle.ob_schema.specs.Built.{numbered}
use Rattle.ob_schema.specs.Models.{HasField, HasModel, IsModel, IsRegistry, field_named, model_at, model_named}

position-within : {X : Type 0} (p : X → Bool) (xs : List X) (i : ℕ) → position p xs ≡ Some i → i < length xs
position-within p xs i found = by (ltb (position_or_len p xs) (length xs)) refl found
  where
    by : (b : Bool) → ltb (position_or_len p xs) (length xs) ≡ b → cond b (Some (position_or_len p xs)) None ≡ Some i → i < length xs
    by true below e = let same : position_or_len p xs ≡ i = cc in grind (arith, nat_tests)
    by false below e = absurd (cc)

slice_get-some : {X : Type 0} (xs : List X) (i : ℕ) → i < length xs → IsSome (slice_get xs i)
slice_get-some [] i inside = absurd (omega arith)
slice_get-some (x ∷ xs) zero inside = refl
slice_get-some (x ∷ xs) (suc i) inside = slice_get-some xs i (omega arith)

-- what is read at the place of a number that there is has this number
pub numbered-read : {X : Type 0} (xs : List X) (n : ℕ) (x : X) → IsSome (numbered xs n) → x ≡ get_or xs (n - 1) x → numbered xs n ≡ Some x
numbered-read xs zero x there is = absurd (false≢true there)
numbered-read xs (suc i) x there is = elim (slice_get_cases xs i).1 [
  | inl found ↦ slice_get_read xs (length xs) i x refl (slice_get_within xs i found.0 found.2) (is ∙ ap (λ (k : ℕ). get_or xs k x) (let place : suc i - 1 ≡ i = omega arith in place))
  | inr past ↦ absurd (false≢true (sym (ap is_some past.1) ∙ there))
]

numbered-named : (fields : List FieldInfo) (name : List ℕ) (field : FieldNo) → field_named fields name ≡ Some field → IsSome (numbered fields field.0)
numbered-named fields name field found = by (position (λ f. bytes_eq f.name name) fields) refl found
  where
    by : (o : Option ℕ) → position (λ f. bytes_eq f.name name) fields ≡ o → option_map (λ i. let number : FieldNo = record { 0 = suc i } in number) o ≡ Some field → IsSome (numbered fields field.0)
    by None e f = absurd (cc)
    by (Some i) e f =
        let number : FieldNo = record { 0 = suc i } in
        let same : number ≡ field = cc in
        rw (← same) (slice_get-some fields i (position-within (λ f. bytes_eq f.name name) fields i e))

slice_get-front : {X : Type 0} (xs ys : List X) (i : ℕ) → IsSome (slice_get xs i) → IsSome (slice_get (xs ++ ys) i)
slice_get-front [] ys i there = absurd (false≢true there)
slice_get-front (x ∷ xs) ys zero there = there
slice_get-front (x ∷ xs) ys (suc i) there = slice_get-front xs ys i there

-- what has a number among the first has it among all
pub numbered-front : {X : Type 0} (xs ys : List X) (n : ℕ) → IsSome (numbered xs n) → IsSome (numbered (xs ++ ys) n)
numbered-front xs ys zero there = there
numbered-front xs ys (suc i) there = slice_get-front xs ys i there

-- a model that was found by its name is there
HasModel-named : (models : List ModelInfo) (name : List ℕ) (model : ModelNo) → model_named models name ≡ Some model → HasModel models model
HasModel-named models name model found = by (position (λ m. bytes_eq m.name name) models) refl found
  where
    by : (o : Option ℕ) → position (λ m. bytes_eq m.name name) models ≡ o → option_map (λ i. let number : ModelNo = record { 0 = suc i } in number) o ≡ Some model → HasModel models model
    by None e f = absurd (cc)
    by (Some i) e f =
        let number : ModelNo = record { 0 = suc i } in
        let same : number ≡ model = cc in
        rw (← same) (slice_get-some models i (position-within (λ m. bytes_eq m.name name) models i e))

-- so what a look-up by name answers is there
pub IfSome-model_named : (models : List ModelInfo) (name : List ℕ) (found : Option ModelNo) → found ≡ model_named models name → IfSome found (HasModel models)
IfSome-model_named models name None is = tt
IfSome-model_named models name (Some model) is = HasModel-named models name model (sym is)

pub IfSome-field_named : (models : List ModelInfo) (model : ModelNo) (info : ModelInfo) (name : List ℕ) (found : Option FieldNo)
    → model_at models model ≡ Some info → found ≡ field_named info.fields name → IfSome found (HasField models model)
IfSome-field_named models model info name None at named = tt
IfSome-field_named models model info name (Some field) at named = rw at (numbered-front info.fields info.hidden field.0 (numbered-named info.fields name field (sym named)))

-- what was found has the fact
pub IfSome-found : {X : Type 0} (P : X → Type 0) (found : Option X) (x : X) → found ≡ Some x → P x → IfSome found P
IfSome-found {X = X} P found x is holds = let Q : Option X → Type 0 = λ o. IfSome o P in subst Q (sym is) holds

-- a model that is read at its number is right among all
pub IsModel-read : (inside models : List ModelInfo) (model : ModelNo) (info : ModelInfo) → IsRegistry inside → inside ≡ models
    → HasModel models model → info ≡ get_or models (model.0 - 1) info → IsModel models model info
IsModel-read inside models model info registry same there is =
    let P : List ModelInfo → Type 0 = λ (l : List ModelInfo). IsRegistry l in
    (subst P same registry).each model info (numbered-read models model.0 info there is)
