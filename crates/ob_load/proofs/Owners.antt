-- The module that has an entry among all models.
use Rattle.std.proofs.Common.{◌≡◌, ◌≢◌, ◌⊎◌, inl, inr, ℕ, zero, suc, ◌+◌, ◌-◌, ◌<◌, ◌≤◌, Bool, true, false, List, [], ◌∷◌, ◌++◌, length, length-append, map, drop, get_or, Option, None, Some, refl, sym, ap, subst, append_assoc, ◌∙◌, arith}
use Rattle.std.specs.Prelude.{codes, if◌then◌else◌, nat_lt, slice_get}
use Rattle.std.proofs.lemmas.Bool.{cases_lt}
use Rattle.std.proofs.lemmas.Bool.Decides.{nat_tests}
use Rattle.std.proofs.lemmas.List.{append-nil, length-map}
use Rattle.std.proofs.lemmas.Option.{slice_get_within}
use Rattle.ob_definition.specs.declared.definition.ModelDef.{ModelDef}
use Rattle.toml.specs.Data.{Members, table}
use Rattle.toml.specs.View.{view}
use Rattle.toml.specs.declared.value.Value.{Value}
use Rattle.ob_load.specs.Loading.{all_models, owner_of}
use Rattle.ob_module.specs.Meaning.{items_at, model_from, models_of}
use Rattle.ob_module.specs.Modules.{Module, numbered}
use Rattle.ob_module.proofs.CallerLemmas.{numbered-same}

-- an entry of the first module
pub owner-here : (m : Module) (more : List Module) (n : ℕ) → n < length (models_of m.document) → owner_of (m ∷ more) n ≡ Some (m, n)
owner-here m more n low =
    let on : nat_lt n (length (models_of m.document)) ≡ true = grind (arith, nat_tests) in
    ap (λ (b : Bool). if b then Some (m, n) else owner_of more (n - length (models_of m.document))) on

-- an entry past the first module is one of those behind it
pub owner-behind : (m : Module) (more : List Module) (n : ℕ) → length (models_of m.document) ≤ n → owner_of (m ∷ more) n ≡ owner_of more (n - length (models_of m.document))
owner-behind m more n high =
    let off : nat_lt n (length (models_of m.document)) ≡ false = grind (arith, nat_tests) in
    ap (λ (b : Bool). if b then Some (m, n) else owner_of more (n - length (models_of m.document))) off

-- each entry of all models has one
pub owner-is : (all : List Module) (n : ℕ) → n < length (all_models all) → owner_of all n ≢ None
owner-is [] n low none = absurd (omega (arith, low))
owner-is (m ∷ all) n low none = by (cases_lt n (length (models_of m.document))) (owner-is all (n - length (models_of m.document)))
  where
    sizes : length (all_models (m ∷ all)) ≡ length (models_of m.document) + length (all_models all)
    sizes = length-append (models_of m.document) (all_models all)

    by : (n < length (models_of m.document)) ⊎ (length (models_of m.document) ≤ n)
        → (n - length (models_of m.document) < length (all_models all) → owner_of all (n - length (models_of m.document)) ≢ None) → ⊥
    by (inl here) rest = let e : ◌≡◌ {A = Option (Module × ℕ)} None (Some (m, n)) = sym none ∙ owner-here m all n here in cc
    by (inr behind) rest = rest (let e = sizes in omega (arith, low, e, behind)) (sym (owner-behind m all n behind) ∙ none)

-- as many models as tables
pub models-count : (document : Members) (tables : List Value) → map view tables ≡ items_at (codes "model") (table document) → length (models_of document) ≡ length tables
models-count document tables is = length-map (items_at (codes "model") (table document)) model_from ∙ ap length (sym is) ∙ length-map tables view

-- ---- the modules that are left

module _ (modules : List Module) where
  -- the numbers that are left are those of the modules that are left
  pub numbered-rest : (numbers : List ℕ) (all : List Module) (i : ℕ) → numbered modules numbers all → numbered modules (drop i numbers) (drop i all)
  numbered-rest numbers all zero is = is
  numbered-rest [] [] (suc i) is = tt
  numbered-rest [] (m ∷ all) (suc i) is = absurd is
  numbered-rest (n ∷ numbers) [] (suc i) is = absurd is
  numbered-rest (n ∷ numbers) (m ∷ all) (suc i) is = numbered-rest numbers all i is.1

  -- the next of them
  next_of : (numbers : List ℕ) (i n : ℕ) (rest : List Module) → i < length numbers → n ≡ get_or numbers i n → numbered modules (drop i numbers) rest
      → (m : Module) × (more : List Module) × (rest ≡ m ∷ more) × (slice_get modules n ≡ Some m) × numbered modules (drop (suc i) numbers) more
  next_of [] i n rest low at is = absurd (omega (arith, low))
  next_of (x ∷ numbers) zero n [] low at is = absurd is
  next_of (x ∷ numbers) zero n (m ∷ more) low at is = (m, more, refl, ap (slice_get modules) at ∙ is.0, is.1)
  next_of (x ∷ numbers) (suc i) n rest low at is = next_of numbers i n rest (omega (arith, low)) at is

  pub numbered-next : (numbers : List ℕ) (i n : ℕ) (rest : List Module) → i < length numbers → n ≡ get_or numbers i n → numbered modules (drop i numbers) rest
      → (m : Module) × (more : List Module) × (rest ≡ m ∷ more) × (slice_get modules n ≡ Some m) × numbered modules (drop (i + 1) numbers) more
  numbered-next numbers i n rest low at is =
      let step = next_of numbers i n rest low at is in
      let e : suc i ≡ i + 1 = omega arith in
      (step.0, step.1, step.2, step.3, subst (λ (k : ℕ). numbered modules (drop k numbers) step.1) e step.4)

  -- each is a number of a module
  pub numbered-low : (numbers : List ℕ) (all : List Module) (i n : ℕ) → numbered modules numbers all → i < length numbers → n ≡ get_or numbers i n → n < length modules
  numbered-low numbers all i n is low at = let step = numbered-next numbers i n (drop i all) low at (numbered-rest numbers all i is) in slice_get_within modules n step.0 step.3

  -- none is left
  pub numbered-end : (numbers : List ℕ) (i : ℕ) (rest : List Module) → length numbers ≤ i → numbered modules (drop i numbers) rest → rest ≡ []
  numbered-end [] zero [] high is = refl
  numbered-end [] zero (m ∷ rest) high is = absurd is
  numbered-end [] (suc i) [] high is = refl
  numbered-end [] (suc i) (m ∷ rest) high is = absurd is
  numbered-end (x ∷ numbers) zero rest high is = absurd (omega (arith, high))
  numbered-end (x ∷ numbers) (suc i) rest high is = numbered-end numbers i rest (omega (arith, high)) is

  module _ (numbers : List ℕ) where
    -- an entry among all is so many behind in those that are left
    abbrev pub IsLeft : (entry i left : ℕ) → Type 0
    IsLeft entry i left = (all rest : List Module) → numbered modules numbers all → numbered modules (drop i numbers) rest → owner_of all entry ≡ owner_of rest left

    -- with all modules left it is the entry itself
    pub IsLeft-first : (entry : ℕ) → IsLeft entry 0 entry
    IsLeft-first entry = λ all rest is left. ap (λ (l : List Module). owner_of l entry) (numbered-same modules numbers all rest is left)

    module _ (entry i left n : ℕ) (is : IsLeft entry i left) (low : i < length numbers) (at : n ≡ get_or numbers i n) (count : ℕ) (counts : (m : Module) → slice_get modules n ≡ Some m → length (models_of m.document) ≡ count) where
      -- past a module it is so many less
      pub IsLeft-next : count ≤ left → IsLeft entry (i + 1) (left - count)
      IsLeft-next high = λ all more own behind.
          let step = numbered-next numbers i n (drop i all) low at (numbered-rest numbers all i own) in
          let same = numbered-same modules (drop (i + 1) numbers) step.1 more step.4 behind in
          let size = counts step.0 step.3 in
          is all (drop i all) own (numbered-rest numbers all i own) ∙ ap (λ (l : List Module). owner_of l left) step.2
          ∙ owner-behind step.0 step.1 left (omega (arith, size, high)) ∙ ap (λ (k : ℕ). owner_of step.1 (left - k)) size ∙ ap (λ (l : List Module). owner_of l (left - count)) same

      -- where a module has more it is one of that
      pub IsLeft-found : left < count → (all : List Module) → numbered modules numbers all → (m : Module) × (slice_get modules n ≡ Some m) × (owner_of all entry ≡ Some (m, left))
      IsLeft-found here all own =
          let step = numbered-next numbers i n (drop i all) low at (numbered-rest numbers all i own) in
          let size = counts step.0 step.3 in
          (step.0, step.3, is all (drop i all) own (numbered-rest numbers all i own) ∙ ap (λ (l : List Module). owner_of l left) step.2 ∙ owner-here step.0 step.1 left (omega (arith, size, here)))

    -- with no module left there is no such entry
    pub IsLeft-end : (entry i left : ℕ) → IsLeft entry i left → length numbers ≤ i → (all : List Module) → numbered modules numbers all → owner_of all entry ≡ None
    IsLeft-end entry i left is high all own =
        let rest = numbered-rest numbers all i own in
        is all (drop i all) own rest ∙ ap (λ (l : List Module). owner_of l left) (numbered-end numbers i (drop i all) high rest)

    -- the models so far and those of the modules that are left are all
    abbrev pub AreSoFar : (i : ℕ) (models : List ModelDef) → Type 0
    AreSoFar i models = (all rest : List Module) → numbered modules numbers all → numbered modules (drop i numbers) rest → models ++ all_models rest ≡ all_models all

    -- with all modules left there are none so far
    pub AreSoFar-first : AreSoFar 0 []
    AreSoFar-first = λ all rest is left. ap all_models (numbered-same modules numbers rest all left is)

    -- past a module there are its own too
    pub AreSoFar-next : (i n : ℕ) (models added : List ModelDef) → AreSoFar i models → i < length numbers → n ≡ get_or numbers i n → ((m : Module) → slice_get modules n ≡ Some m → models_of m.document ≡ added)
        → AreSoFar (i + 1) (models ++ added)
    AreSoFar-next i n models added are low at adds = λ all more own behind.
        let step = numbered-next numbers i n (drop i all) low at (numbered-rest numbers all i own) in
        let same = numbered-same modules (drop (i + 1) numbers) more step.1 behind step.4 in
        append_assoc models added (all_models more) ∙ ap (λ (l : List Module). models ++ (added ++ all_models l)) same ∙ ap (λ (l : List ModelDef). models ++ (l ++ all_models step.1)) (sym (adds step.0 step.3))
        ∙ ap (λ (l : List Module). models ++ all_models l) (sym step.2) ∙ are all (drop i all) own (numbered-rest numbers all i own)

    -- with no module left they are all
    pub AreSoFar-end : (i : ℕ) (models : List ModelDef) → AreSoFar i models → length numbers ≤ i → (all : List Module) → numbered modules numbers all → models ≡ all_models all
    AreSoFar-end i models are high all own =
        let rest = numbered-rest numbers all i own in
        sym (append-nil models) ∙ ap (λ (l : List Module). models ++ all_models l) (sym (numbered-end numbers i (drop i all) high rest)) ∙ are all (drop i all) own rest
