-- The fields of all models as steps: a field stands among them, and each has a number of its model.
use Rattle.std.proofs.Common.{◌≡◌, ◌⊎◌, inl, inr, ℕ, zero, suc, ◌+◌, ◌-◌, ◌<◌, ◌≤◌, Bool, true, false, cond, List}
use Rattle.std.proofs.Common.{[], ◌∷◌, length, Option, Some, None, is_some, refl, sym, ap, subst, ◌∙◌, arith}
use Rattle.std.specs.Prelude.{Contains, slice_get}
use Rattle.std.specs.Cmp.Lexicographic.{slice_cmp}
use Rattle.std.specs.Ordering.{is_lt, nat_cmp}
use Rattle.std.proofs.lemmas.Bool.{cases_lt}
use Rattle.std.proofs.lemmas.Cmp.{nat_list_cmp_total, tied_itself}
use Rattle.std.proofs.lemmas.List.{length-append, length-map}
use Rattle.std.proofs.lemmas.List.Elements.{Contains-append_cases, Contains-append_left, Contains-append_right, Contains-push, Contains-push_cases}
use Rattle.std.proofs.lemmas.Option.{get_or_from_slice_get, none-some, same_Some, slice_get-get_or, slice_get_within}
use Rattle.ob_definition.specs.Gathered.{Gathered}
use Rattle.ob_definition.specs.Members.{Member, check_member, check_members, count_below, hidden_members, hidden_number, locked_members, members_of, model_at, named, names_of, number_of}
use Rattle.ob_schema.specs.declared.info.Step.{Step}
use Rattle.ob_registry.specs.Graphs.{all_steps, steps_from, steps_upto}
use Rattle.ob_schema.specs.Paths.{step_at}
use Rattle.ob_schema.specs.Strata.{IsMember}
use Rattle.ob_registry.proofs.NameOrder.{named_absent}
use Rattle.ob_registry.proofs.NamedFields.{member_parts}
use Rattle.ob_registry.proofs.Counting.{count-fewer, count-most}
use Rattle.ob_schema.proofs.CallerLemmas.{contains-mapped}

-- what stands at a place, and the place of what is there
pub element_at : {X : Type 0} (xs : List X) (k : ℕ) → k < length xs → (x : X) × (slice_get xs k ≡ Some x)
element_at [] k lt = absurd (omega arith)
element_at (x ∷ xs) zero lt = (x, refl)
element_at (x ∷ xs) (suc k) lt = element_at xs k (omega arith)

-- the place of what is there
pub place_of : {X : Type 0} (xs : List X) (x : X) → Contains xs x → (k : ℕ) × (slice_get xs k ≡ Some x)
place_of xs x (k, lt, is) = (k, slice_get-get_or xs k x lt ∙ ap (λ y. Some y) is)

-- what stands at a place is there
pub contains_at : {X : Type 0} (xs : List X) (k : ℕ) (x : X) → slice_get xs k ≡ Some x → Contains xs x
contains_at xs k x is = (k, slice_get_within xs k x is, get_or_from_slice_get xs k x x is)

-- ---- the steps of models

-- the step through the field of a number, in the model of a number
abbrev at : ℕ → ℕ → Step
at number field = step_at (record { 0 = number }) (record { 0 = field })

-- a step up to a number is through one of those fields
upto-is : (number k : ℕ) (step : Step) → Contains (steps_upto number k) step → (step.model.0 ≡ number) × (0 < step.field.0) × (step.field.0 ≤ k)
upto-is number zero step (j, lt, is) = absurd (omega (arith, lt))
upto-is number (suc k) step among = elim (Contains-push_cases (steps_upto number k) (at number (suc k)) step among) [
  | inl before ↦ (let w = upto-is number k step before in (w.0, w.1, omega (arith, w.2)))
  | inr is ↦ subst (λ (s : Step). (s.model.0 ≡ number) × (0 < s.field.0) × (s.field.0 ≤ suc k)) is (refl, omega arith, omega arith)
]

-- and each of them is there
upto-has : (number k field : ℕ) → 0 < field → field ≤ k → Contains (steps_upto number k) (at number field)
upto-has number zero field low high = absurd (omega arith)
upto-has number (suc k) field low high = elim (cases_lt field (suc k)) [
  | inl before ↦ Contains-append_left (steps_upto number k) (at number (suc k) ∷ []) (at number field) (upto-has number k field low (omega arith))
  | inr here ↦ subst (λ (n : ℕ). Contains (steps_upto number (suc k)) (at number n)) (let same : suc k ≡ field = omega arith in same) (Contains-push (steps_upto number k) (at number (suc k)))
]

module _ (models : List Gathered) where
  -- how many fields a model has
  abbrev pub field_count : Gathered → ℕ
  field_count g = length (members_of models g) + length (hidden_members g)

  -- a step of models is of one of them
  from-is : (number : ℕ) (list : List Gathered) (step : Step) → Contains (steps_from models number list) step
      → (g : Gathered) × (number ≤ step.model.0) × (slice_get list (step.model.0 - number) ≡ Some g) × (0 < step.field.0) × (step.field.0 ≤ field_count g)
  from-is number [] step (j, lt, is) = absurd (omega (arith, lt))
  from-is number (g ∷ more) step among = elim (Contains-append_cases (steps_upto number (field_count g)) (steps_from models (suc number) more) step among) [
    | inl own ↦ (
        let w = upto-is number (field_count g) step own in
        let none : 0 ≡ step.model.0 - number = omega (arith, w.0) in
        (g, omega (arith, w.0), subst (λ (n : ℕ). slice_get (g ∷ more) n ≡ Some g) none refl, w.1, w.2))
    | inr later ↦ (
        let w = from-is (suc number) more step later in
        let less : suc (step.model.0 - suc number) ≡ step.model.0 - number = omega (arith, w.1) in
        (w.0, omega (arith, w.1), subst (λ (n : ℕ). slice_get (g ∷ more) n ≡ Some w.0) less w.2, w.3, w.4))
  ]

  -- and each of their fields is there
  from-has : (number : ℕ) (list : List Gathered) (i : ℕ) (g : Gathered) → slice_get list i ≡ Some g → (field : ℕ) → 0 < field → field ≤ field_count g
      → Contains (steps_from models number list) (at (number + i) field)
  from-has number [] i g is field low high = absurd (none-some g is)
  from-has number (h ∷ more) zero g is field low high =
      let within : field ≤ field_count h = subst (λ (x : Gathered). field ≤ field_count x) (sym (same_Some h g is)) high in
      subst (λ (n : ℕ). Contains (steps_from models number (h ∷ more)) (at n field)) (let same : number ≡ number + 0 = omega arith in same)
      (Contains-append_left (steps_upto number (field_count h)) (steps_from models (suc number) more) (at number field) (upto-has number (field_count h) field low within))
  from-has number (h ∷ more) (suc i) g is field low high =
      subst (λ (n : ℕ). Contains (steps_from models number (h ∷ more)) (at n field)) (let same : suc number + i ≡ number + suc i = omega arith in same)
      (Contains-append_right (steps_upto number (field_count h)) (steps_from models (suc number) more) (at (suc number + i) field) (from-has (suc number) more i g is field low high))

  -- a model by its place is the one of that number
  model-less : (number : ℕ) (g : Gathered) → 1 ≤ number → slice_get models (number - 1) ≡ Some g → model_at models number ≡ Some g
  model-less zero g low is = absurd (omega arith)
  model-less (suc i) g low is = subst (λ (n : ℕ). slice_get models n ≡ Some g) (let less : suc i - 1 ≡ i = omega arith in less) is

  -- a step is through a number of a model's fields
  pub step-there : (step : Step) → Contains (all_steps models) step → (g : Gathered) × (model_at models step.model.0 ≡ Some g) × (0 < step.field.0) × (step.field.0 ≤ field_count g)
  step-there step among = let w = from-is 1 models step among in (w.0, model-less step.model.0 w.0 w.1 w.2, w.3, w.4)

  -- and each number of a model is a step
  step-has : (number field : ℕ) (g : Gathered) → model_at models number ≡ Some g → 0 < field → field ≤ field_count g → Contains (all_steps models) (at number field)
  step-has zero field g is low high = absurd (none-some g is)
  step-has (suc i) field g is low high =
      subst (λ (n : ℕ). Contains (all_steps models) (at n field)) (let same : 1 + i ≡ suc i = omega arith in same) (from-has 1 models i g is field low high)

-- ---- the numbers of fields

-- fewer names are below that of one of the fields than there are
below-fewer : (members : List Member) (m : Member) → Contains members m → count_below (names_of members) m.def.name < length members
below-fewer members m among =
    let fewer = count-fewer (λ other. is_lt (slice_cmp nat_cmp other m.def.name)) (names_of members) m.def.name (contains-mapped (λ (x : Member). x.def.name) members m among)
    (ap is_lt (tied_itself nat_list_cmp_total m.def.name)) in
    omega (arith, length-map members (λ (x : Member). x.def.name))

-- names below another are as many at most
below-most : (members : List Member) (name : List ℕ) → count_below (names_of members) name ≤ length members
below-most members name = let most = count-most (λ other. is_lt (slice_cmp nat_cmp other name)) (names_of members) in omega (arith, length-map members (λ (x : Member). x.def.name))

module _ (models : List Gathered) (g : Gathered) (m : Member) where
  -- the number of a named field is one of its model
  named-low : Contains (members_of models g) m → (0 < (number_of models g m.def.name).0) × ((number_of models g m.def.name).0 ≤ field_count models g)
  unfolding number_of
  named-low among = let fewer = below-fewer (members_of models g) m among in (omega arith, omega arith)

  -- and so is that of a hidden field
  hidden-low : Contains (hidden_members g) m → (0 < (hidden_number models g m.def.name).0) × ((hidden_number models g m.def.name).0 ≤ field_count models g)
  unfolding hidden_number
  hidden-low among = by (is_some (named (check_members g) m.def.name)) refl (Contains-append_cases (check_members g) (locked_members g g.locked) m among)
    where
      all : length (hidden_members g) ≡ length (check_members g) + length (locked_members g g.locked)
      all = length-append (check_members g) (locked_members g g.locked)

      free : (o : Option Member) → named (check_members g) m.def.name ≡ o → is_some o ≡ false → o ≡ None
      free None e f = refl
      free (Some x) e f = absurd (let e : ◌≡◌ {A = Bool} true false = f in cc)

      by : (b : Bool) → is_some (named (check_members g) m.def.name) ≡ b → Contains (check_members g) m ⊎ Contains (locked_members g g.locked) m
          → (0 < suc (length (members_of models g) + cond b (count_below (names_of (check_members g)) m.def.name) (length g.checks)))
          × (suc (length (members_of models g) + cond b (count_below (names_of (check_members g)) m.def.name) (length g.checks)) ≤ field_count models g)
      by true e (inl check) = let fewer = below-fewer (check_members g) m check in let sum = all in (omega arith, omega arith)
      by true e (inr locked) = let most = below-most (check_members g) m.def.name in let sum = all in (omega arith, omega (arith, locked.1))
      by false e (inl check) = absurd (named_absent (check_members g) m.def.name m (free (named (check_members g) m.def.name) refl e) check refl)
      by false e (inr locked) = let sum = all in let same = length-map g.checks check_member in (omega arith, omega (arith, locked.1))

-- a field's step is one of them
pub member-step : (models : List Gathered) (step : Step) (g : Gathered) (m : Member) → IsMember models step g m → Contains (all_steps models) step
member-step models step g m is = of (member_parts models step g m is).0 (member_parts models step g m is).1
  where
    of : model_at models step.model.0 ≡ Some g → (Contains (members_of models g) m × (number_of models g m.def.name ≡ step.field)) ⊎ (Contains (hidden_members g) m × (hidden_number models g m.def.name ≡ step.field))
        → Contains (all_steps models) step
    of known (inl (among, number)) = let low = named-low models g m among in
        step-has models step.model.0 step.field.0 g known (subst (λ f. 0 < f.0) number low.0) (subst (λ f. f.0 ≤ field_count models g) number low.1)
    of known (inr (among, number)) = let low = hidden-low models g m among in
        step-has models step.model.0 step.field.0 g known (subst (λ f. 0 < f.0) number low.0) (subst (λ f. f.0 ≤ field_count models g) number low.1)
