-- The fields of models as steps: each stands once among them, behind those of the models before its own.
use Rattle.std.proofs.Common.{◌≡◌, ◌⊎◌, ℕ, zero, suc, ◌+◌, ◌-◌, ◌<◌, ◌≤◌, List, [], ◌∷◌, ◌++◌, length, length-append, append_assoc, append-nil, get_or, Some}
use Rattle.std.proofs.Common.{inl, inr, refl, sym, ap, subst, ◌∙◌, arith}
use Rattle.std.proofs.lemmas.List.Elements.{Contains-append_cases}
use Rattle.std.proofs.lemmas.Option.{get_or_from_slice_get, same_Some, slice_get-get_or}
use Rattle.std.specs.Prelude.{Contains, IsSome, slice_get}
use Rattle.ob_base.specs.declared.id.FieldNo.{FieldNo}
use Rattle.ob_base.specs.declared.id.ModelNo.{ModelNo}
use Rattle.ob_definition.specs.Gathered.{Gathered}
use Rattle.ob_definition.specs.Members.{hidden_members, members_of, model_at}
use Rattle.ob_schema.specs.declared.info.Step.{Step}
use Rattle.ob_registry.specs.Graphs.{AreStarts, all_steps, node_by, steps_from, steps_upto}
use Rattle.ob_schema.specs.Paths.{step_at}

-- an element of joined lists
pub slice_get-left : {X : Type 0} (xs ys : List X) (i : ℕ) (x : X) → slice_get xs i ≡ Some x → slice_get (xs ++ ys) i ≡ Some x
slice_get-left [] ys i x at = absurd (cc)
slice_get-left (y ∷ xs) ys zero x at = at
slice_get-left (y ∷ xs) ys (suc i) x at = slice_get-left xs ys i x at

-- and behind the first list
pub slice_get-right : {X : Type 0} (xs ys : List X) (j i : ℕ) → i ≡ length xs + j → slice_get (xs ++ ys) i ≡ slice_get ys j
slice_get-right [] ys j i is = let same : i ≡ j = omega arith in ap (slice_get ys) same
slice_get-right (x ∷ xs) ys j zero is = absurd (omega arith)
slice_get-right (x ∷ xs) ys j (suc i) is = slice_get-right xs ys j i (omega arith)

-- it is of one of the lists
pub slice_get-joined : {X : Type 0} (xs ys : List X) (i : ℕ) (x : X) → slice_get (xs ++ ys) i ≡ Some x → ((i < length xs) × (slice_get xs i ≡ Some x)) ⊎ ((j : ℕ) × (i ≡ length xs + j) × (slice_get ys j ≡ Some x))
slice_get-joined [] ys i x at = inr (i, omega arith, at)
slice_get-joined (y ∷ xs) ys zero x at = inl (omega arith, at)
slice_get-joined {X} (y ∷ xs) ys (suc i) x at =
    elim (slice_get-joined xs ys i x at) as (λ _. ((suc i < length (y ∷ xs)) × (slice_get xs i ≡ Some x)) ⊎ ((j : ℕ) × (suc i ≡ length (y ∷ xs) + j) × (slice_get ys j ≡ Some x))) [
      | inl left ↦ (let inside = left.0 in inl (omega arith, left.1))
      | inr right ↦ (let is = right.1 in inr (right.0, omega arith, right.2))
    ]

-- a list of one
pub slice_get-single : {X : Type 0} (y : X) (j : ℕ) (x : X) → slice_get (y ∷ []) j ≡ Some x → (j ≡ 0) × (y ≡ x)
slice_get-single y zero x at = (refl, same_Some y x at)
slice_get-single y (suc j) x at = absurd (cc)

-- the place of what is there
pub place_among : {X : Type 0} (xs : List X) (x : X) → Contains xs x → (i : ℕ) × (slice_get xs i ≡ Some x)
place_among xs x among = (among.0, slice_get-get_or xs among.0 x among.1 ∙ ap Some among.2)

-- how many fields a model has
abbrev pub size_of : List Gathered → Gathered → ℕ
size_of models g = length (members_of models g) + length (hidden_members g)

-- the step at a place of a model
abbrev pub step_of : ℕ → ℕ → Step
step_of number k = let model : ModelNo = record { 0 = number } in let field : FieldNo = record { 0 = suc k } in step_at model field

-- as many steps as fields
length-steps_upto : (number k : ℕ) → length (steps_upto number k) ≡ k
length-steps_upto number zero = refl
length-steps_upto number (suc k) = let rest = length-steps_upto number k in let one = length-append (steps_upto number k) (step_of number k ∷ []) in omega arith

-- what stands at a place is the step of that place
steps_upto-only : (number k i : ℕ) (step : Step) → slice_get (steps_upto number k) i ≡ Some step → (i < k) × (step ≡ step_of number i)
steps_upto-only number zero i step at = absurd (cc)
steps_upto-only number (suc k) i step at = elim (slice_get-joined (steps_upto number k) (step_of number k ∷ []) i step at) as (λ _. (i < suc k) × (step ≡ step_of number i)) [
  | inl left ↦ (let rest = steps_upto-only number k i step left.1 in let inside = rest.0 in (omega arith, rest.1))
  | inr right ↦ (
      let single = slice_get-single (step_of number k) right.0 step right.2 in
      let place : i ≡ k = omega (arith, right.1, single.0, length-steps_upto number k) in
      (omega arith, sym single.1 ∙ ap (step_of number) (sym place)))
]

module _ (models : List Gathered) where
  -- a step among those of models is of one of these
  steps_from-only : (n : ℕ) (gs : List Gathered) (i : ℕ) (step : Step) → slice_get (steps_from models n gs) i ≡ Some step → (j : ℕ) × (step.model.0 ≡ n + j) × IsSome (slice_get gs j)
  steps_from-only n [] i step at = absurd (cc)
  steps_from-only n (g ∷ more) i step at =
      elim (slice_get-joined (steps_upto n (size_of models g)) (steps_from models (suc n) more) i step at) as (λ _. (j : ℕ) × (step.model.0 ≡ n + j) × IsSome (slice_get (g ∷ more) j)) [
        | inl left ↦ (let same = ap (λ (s : Step). s.model.0) (steps_upto-only n (size_of models g) i step left.1).1 in (0, omega arith, refl))
        | inr right ↦ (let rest = steps_from-only (suc n) more right.0 step right.2 in let same = rest.1 in (suc rest.0, omega arith, rest.2))
      ]

  -- and stands at one place
  steps_from-once : (n : ℕ) (gs : List Gathered) (i k : ℕ) (step : Step) → slice_get (steps_from models n gs) i ≡ Some step → slice_get (steps_from models n gs) k ≡ Some step → i ≡ k
  steps_from-once n [] i k step at other = absurd (cc)
  steps_from-once n (g ∷ more) i k step at other =
      by (λ a b first second. steps_from-once (suc n) more a b step first second)
      (slice_get-joined (steps_upto n (size_of models g)) (steps_from models (suc n) more) i step at) (slice_get-joined (steps_upto n (size_of models g)) (steps_from models (suc n) more) k step other)
    where
      own : List Step
      own = steps_upto n (size_of models g)

      later : List Step
      later = steps_from models (suc n) more

      At : ℕ → Type 0
      At p = ((p < length own) × (slice_get own p ≡ Some step)) ⊎ ((j : ℕ) × (p ≡ length own + j) × (slice_get later j ≡ Some step))

      field_at : (p : ℕ) → slice_get own p ≡ Some step → step.field.0 ≡ suc p
      field_at p is = ap (λ (s : Step). s.field.0) (steps_upto-only n (size_of models g) p step is).1

      apart : (p q : ℕ) → slice_get own p ≡ Some step → slice_get later q ≡ Some step → ⊥
      apart p q first second =
          let mine = ap (λ (s : Step). s.model.0) (steps_upto-only n (size_of models g) p step first).1 in
          let theirs = (steps_from-only (suc n) more q step second).1 in
          omega arith

      by : ((a b : ℕ) → slice_get later a ≡ Some step → slice_get later b ≡ Some step → a ≡ b) → At i → At k → i ≡ k
      by once (inl a) (inl b) = let first = field_at i a.1 in let second = field_at k b.1 in omega arith
      by once (inl a) (inr b) = absurd (apart i b.0 a.1 b.2)
      by once (inr a) (inl b) = absurd (apart k a.0 b.1 a.2)
      by once (inr a) (inr b) = let same = once a.0 b.0 a.2 b.2 in let first = a.1 in let second = b.1 in omega arith

  -- its model is there
  pub model_at-step : (i : ℕ) (step : Step) → slice_get (all_steps models) i ≡ Some step → IsSome (model_at models step.model.0)
  model_at-step i step at =
      let found = steps_from-only 1 models i step at in
      let number : suc found.0 ≡ step.model.0 = (let is = found.1 in omega arith) in
      subst (λ (n : ℕ). IsSome (model_at models n)) number found.2

  -- a step stands at one place
  pub step_once : (i k : ℕ) (step : Step) → slice_get (all_steps models) i ≡ Some step → slice_get (all_steps models) k ≡ Some step → i ≡ k
  step_once i k step at other = steps_from-once 1 models i k step at other

  -- the steps of one model more
  steps_from-push : (n : ℕ) (gs : List Gathered) (g : Gathered) (number : ℕ) → number ≡ n + length gs → steps_from models n (gs ++ g ∷ []) ≡ steps_from models n gs ++ steps_upto number (size_of models g)
  steps_from-push n [] g number is =
      let same : n ≡ number = omega arith in
      append-nil (steps_upto n (size_of models g)) ∙ ap (λ (m : ℕ). steps_upto m (size_of models g)) same
  steps_from-push n (h ∷ gs) g number is =
      ap (λ (l : List Step). steps_upto n (size_of models h) ++ l) (steps_from-push (suc n) gs g number (omega arith))
      ∙ sym (append_assoc (steps_upto n (size_of models h)) (steps_from models (suc n) gs) (steps_upto number (size_of models g)))

  -- the steps of models with one more
  pub steps-push : (gs : List Gathered) (g : Gathered) → steps_from models 1 (gs ++ g ∷ []) ≡ steps_from models 1 gs ++ steps_upto (length gs + 1) (size_of models g)
  steps-push gs g = steps_from-push 1 gs g (length gs + 1) (omega arith)

-- where the fields of one model more stand
pub AreStarts-more : (steps : List Step) (starts : List ℕ) (number size : ℕ) → AreStarts steps starts → number ≡ suc (length starts) → AreStarts (steps ++ steps_upto number size) (starts ++ length steps ∷ [])
AreStarts-more steps starts number size are is step among = elim (Contains-append_cases steps (steps_upto number size) step among) as (λ _. At step) [
  | inl old ↦ (
      let at = are step old in
      let here : get_or (starts ++ length steps ∷ []) (step.model.0 - 1) 0 ≡ get_or starts (step.model.0 - 1) 0 = get_or-before starts (length steps) (step.model.0 - 1) (omega (arith, at.0, at.2)) in (
        at.0,
        at.1,
        omega (arith, at.2, longer),
        subst (λ (n : ℕ). slice_get (steps ++ steps_upto number size) (n + step.field.0 - 1) ≡ Some step) (sym here)
            (slice_get-left steps (steps_upto number size) (node_by starts step) step at.3),
      ))
  | inr new ↦ (
      let place = place_among (steps_upto number size) step new in
      let only = steps_upto-only number size place.0 step place.1 in
      let model : step.model.0 ≡ number = ap (λ (s : Step). s.model.0) only.1 in
      let field : step.field.0 ≡ suc place.0 = ap (λ (s : Step). s.field.0) only.1 in
      let start : get_or (starts ++ length steps ∷ []) (step.model.0 - 1) 0 ≡ length steps = get_or-behind starts (length steps) (step.model.0 - 1) (omega arith) in
      (omega arith, omega arith, omega (arith, longer), slice_get-right steps (steps_upto number size) place.0 (node_by (starts ++ length steps ∷ []) step) (omega arith) ∙ place.1))
]
  where
    At : Step → Type 0
    At s = (0 < s.model.0) × (0 < s.field.0) × (s.model.0 ≤ length (starts ++ length steps ∷ [])) × (slice_get (steps ++ steps_upto number size) (node_by (starts ++ length steps ∷ []) s) ≡ Some s)

    longer : length (starts ++ length steps ∷ []) ≡ length starts + 1
    longer = length-append starts (length steps ∷ [])

    get_or-before : (xs : List ℕ) (x k : ℕ) → k < length xs → get_or (xs ++ x ∷ []) k 0 ≡ get_or xs k 0
    get_or-before xs x k inside = get_or_from_slice_get (xs ++ x ∷ []) k (get_or xs k 0) 0 (slice_get-left xs (x ∷ []) k (get_or xs k 0) (slice_get-get_or xs k 0 inside))

    get_or-behind : (xs : List ℕ) (x k : ℕ) → k ≡ length xs → get_or (xs ++ x ∷ []) k 0 ≡ x
    get_or-behind xs x k is = get_or_from_slice_get (xs ++ x ∷ []) k x 0 (slice_get-right xs (x ∷ []) 0 k (omega arith))
