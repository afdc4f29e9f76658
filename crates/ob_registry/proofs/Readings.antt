-- What a field reads: by the paths of its formula, and by the steps at their ends.
use Rattle.std.proofs.Common.{◌≡◌, ℕ, zero, suc, ◌+◌, ◌-◌, ◌<◌, ◌≤◌, List, [], ◌∷◌, length, length-append, get_or, Option, Some, None, refl, sym, ap, subst, ◌∙◌, arith}
use Rattle.std.proofs.lemmas.Bool.{false≢true}
use Rattle.std.proofs.lemmas.Option.{get_or_from_slice_get, same_Some, slice_get_within}
use Rattle.std.specs.Borrow.{Bor}
use Rattle.std.specs.Option.{option_copied}
use Rattle.std.specs.Prelude.{◌↔◌, IsSome, IsSomeAnd, option_and_then, option_map, slice_get}
use Rattle.ob_definition.specs.Gathered.{Gathered}
use Rattle.ob_schema.specs.declared.info.Step.{Step}
use Rattle.ob_schema.specs.Built.{numbered}
use Rattle.ob_registry.specs.Graphs.{IsReadOn, all_steps}
use Rattle.ob_schema.specs.Paths.{EndsIn}
use Rattle.ob_schema.specs.Strata.{IsComputedAt}
use Rattle.ob_registry.proofs.Steps.{slice_get-right, step_once}

-- options that are some
pub some_of : {X : Type 0} (o : Option X) → IsSome o → (x : X) × (o ≡ Some x)
some_of None is = absurd (false≢true is)
some_of (Some x) is = (x, refl)

-- an option that is something such, and what is such in it
pub some_and : {X : Type 0} (o : Option X) (P : X → Type 0) → IsSomeAnd o P → (x : X) × (o ≡ Some x) × P x
some_and None P is = absurd is
some_and (Some x) P is = (x, refl, is)

-- what is known of an option, by what it is
pub at_some : {X : Type 0} (o : Option X) (P : X → Type 0) (x : X) → o ≡ Some x → IsSomeAnd o P → P x
at_some {X} o P x is held = subst (λ (p : Option X). IsSomeAnd p P) is held

pub from_some : {X : Type 0} (o : Option X) (P : X → Type 0) (x : X) → o ≡ Some x → P x → IsSomeAnd o P
from_some {X} o P x is held = subst (λ (p : Option X). IsSomeAnd p P) (sym is) held

-- what a step on from an option leads to
pub and_then_there : {A B : Type 0} (f : A → Option B) (o : Option A) (P : B → Type 0) → IsSomeAnd (option_and_then f o) P → (x : A) × (y : B) × (o ≡ Some x) × (f x ≡ Some y) × P y
and_then_there f None P is = absurd is
and_then_there f (Some x) P is = let found = some_and (f x) P is in (x, found.0, refl, found.1, found.2)

-- the same of what is borrowed, copied or read
pub copied_to : {X : Type 0} (o : Option (Bor X)) (P : X → Type 0) → IsSomeAnd (option_copied o) P → IsSomeAnd o (λ x. P x.now)
copied_to None P is = is
copied_to (Some x) P is = is

pub copied_from : {X : Type 0} (o : Option (Bor X)) (P : X → Type 0) → IsSomeAnd o (λ x. P x.now) → IsSomeAnd (option_copied o) P
copied_from None P is = is
copied_from (Some x) P is = is

pub mapped_to : {X : Type 0} (o : Option (Bor X)) (P : X → Type 0) → IsSomeAnd (option_map (λ x. x.now) o) P → IsSomeAnd o (λ x. P x.now)
mapped_to None P is = is
mapped_to (Some x) P is = is

pub mapped_from : {X : Type 0} (o : Option (Bor X)) (P : X → Type 0) → IsSomeAnd o (λ x. P x.now) → IsSomeAnd (option_map (λ x. x.now) o) P
mapped_from None P is = is
mapped_from (Some x) P is = is

-- what has a number stands there
pub numbered_within : {X : Type 0} (xs : List X) (n : ℕ) (x : X) → numbered xs n ≡ Some x → (1 ≤ n) × (n - 1 < length xs)
numbered_within xs zero x is = absurd (cc)
numbered_within xs (suc i) x is = let inside = slice_get_within xs i x is in (omega arith, omega arith)

-- and what is read at its place is it
pub numbered_same : {X : Type 0} (xs : List X) (n : ℕ) (x y : X) → numbered xs n ≡ Some x → y ≡ get_or xs (n - 1) y → y ≡ x
numbered_same xs zero x y is read = absurd (cc)
numbered_same xs (suc i) x y is read = let place : suc i - 1 ≡ i = omega arith in read ∙ ap (λ (k : ℕ). get_or xs k y) place ∙ get_or_from_slice_get xs i x y is

-- the last step of a path
ends_at : (path : List Step) (last : Step) (i : ℕ) → suc i ≡ length path → slice_get path i ≡ Some last → EndsIn path last
ends_at [] last i is at = absurd (omega arith)
ends_at (x ∷ []) last zero is at = ([], ap (λ (y : Step). y ∷ []) (same_Some x last at))
ends_at (x ∷ y ∷ path) last zero is at = absurd (omega arith)
ends_at (x ∷ path) last (suc i) is at = let rest = ends_at path last i (omega arith) at in (x ∷ rest.0, ap (λ (l : List Step). x ∷ l) rest.1)

-- a path ends in its last step, and in no other
pub EndsIn-last : (path : List Step) (last : Step) → slice_get path (length path - 1) ≡ Some last → EndsIn path last
EndsIn-last path last at = ends_at path last (length path - 1) (let inside = slice_get_within path (length path - 1) last at in omega arith) at

last_of : (path : List Step) (last : Step) → EndsIn path last → slice_get path (length path - 1) ≡ Some last
last_of path last ends =
    let longer : length path ≡ length ends.0 + 1 = ap length ends.1 ∙ length-append ends.0 (last ∷ []) in
    ap (λ (l : List Step). slice_get l (length path - 1)) ends.1 ∙ slice_get-right ends.0 (last ∷ []) 0 (length path - 1) (omega arith)

pub EndsIn-same : (path : List Step) (a b : Step) → EndsIn path a → EndsIn path b → a ≡ b
EndsIn-same path a b first second = same_Some a b (sym (last_of path a first) ∙ last_of path b second)

module _ (models : List Gathered) (steps : List Step) (are : steps ≡ all_steps models) where
  -- a step stands at one node
  pub node_once : (a b : ℕ) (step : Step) → slice_get steps a ≡ Some step → slice_get steps b ≡ Some step → a ≡ b
  node_once a b step first second =
      step_once models a b step (sym (ap (λ (l : List Step). slice_get l a) are) ∙ first) (sym (ap (λ (l : List Step). slice_get l b) are) ∙ second)

  module _ (path : List Step) (last : Step) (node : ℕ) (at : slice_get steps node ≡ Some last) (ends : EndsIn path last) where
    -- a node that is read through a path is that of its last step
    read_from : (b : ℕ) → IsReadOn models steps path b → (node ≡ b) × IsComputedAt models last
    read_from b read =
        let found = some_and (slice_get steps b) (λ (s : Step). IsComputedAt models s × EndsIn path s) read in
        let same = EndsIn-same path found.0 last found.2.1 ends in
        (node_once node b last at (found.1 ∙ ap Some same), subst (IsComputedAt models) same found.2.0)

    -- the node that is read through a path is that of its last step, where that is computed
    pub IsReadOn-last : IsComputedAt models last → (b : ℕ) → ◌≡◌ {A = Option ℕ} (Some node) (Some b) ↔ IsReadOn models steps path b
    IsReadOn-last computed b = (
      λ is. subst (λ (n : ℕ). IsReadOn models steps path n) (same_Some node b is) (from_some (slice_get steps node) (λ (s : Step). IsComputedAt models s × EndsIn path s) last at (computed, ends)),
      λ read. ap Some (read_from b read).0,
    )

    -- none is read where that is not computed
    pub IsReadOn-none : (IsComputedAt models last → ⊥) → (b : ℕ) → IsReadOn models steps path b → ⊥
    IsReadOn-none not_computed b read = not_computed (read_from b read).1
