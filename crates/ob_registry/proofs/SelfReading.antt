-- How a field reads itself, by the paths of its formula, and what is told of it.
use Rattle.std.proofs.Common.{◌≡◌, ◌≢◌, ◌⊎◌, inl, inr, ℕ, zero, suc, ◌-◌, ◌<◌, Bool, true, false, List, [], ◌∷◌, ◌++◌, length, take, map, Some, None, refl, sym, ap, subst, ◌∙◌, arith}
use Rattle.std.specs.Bool.{MatchBool}
use Rattle.std.specs.List.{AllWithin, HoldsAt}
use Rattle.std.specs.Prelude.{◌&&◌, ◌↔◌, ◌==◌, All, Any, Contains, IsTrue, not}
use Rattle.std.proofs.lemmas.Bool.{false≢true}
use Rattle.std.proofs.lemmas.List.{take_at, length_push}
use Rattle.std.proofs.lemmas.List.Elements.{All-map, All-contains, All-contains_itself, All-weaker}
use Rattle.std.proofs.lemmas.Option.{none-some, same_Some}
use Rattle.ob_definition.specs.declared.wrong.Wrong.{Wrong}
use Rattle.ob_definition.specs.declared.wrong.Wrong.TheVariants as wrong
use Rattle.ob_definition.specs.Definitions.{is_computed, is_set}
use Rattle.ob_definition.specs.Findings.{Tells}
use Rattle.ob_definition.specs.Gathered.{Gathered}
use Rattle.ob_definition.specs.Members.{Member, is_delegated}
use Rattle.ob_schema.specs.declared.info.Path.{Path}
use Rattle.ob_schema.specs.declared.info.Step.{Step}
use Rattle.ob_registry.specs.Graphs.{GoesBy, IsSelfWrong, LeadsToItselfBy}
use Rattle.ob_schema.specs.Paths.{EndsIn}
use Rattle.ob_schema.specs.Strata.{IsPathOf, IsRecursion, IsToChildren, IsToParent, Reads, ReadsItselfBy}
use Rattle.ob_registry.specs.Telling.{steps_in}
use Rattle.ob_registry.proofs.PathTests.{All-unmap, all-is, goes-by, goes-by-front}

-- nothing is told, or one thing
pub told-none : (IsWrong : Wrong → Type 0) → ((w : Wrong) → IsWrong w → ⊥) → Tells IsWrong None
told-none IsWrong none w = (λ e. absurd (none-some w e), λ is. absurd (none w is))

pub told-one : (IsWrong : Wrong → Type 0) (x : Wrong) → IsWrong x → ((w : Wrong) → IsWrong w → w ≡ x) → Tells IsWrong (Some x)
told-one IsWrong x is only w = (λ e. subst IsWrong (same_Some x w e) is, λ other. ap (λ (v : Wrong). Some v) (sym (only w other)))

-- what comes before the last element
front-same : {X : Type 0} (front other : List X) (x y : X) → front ++ x ∷ [] ≡ other ++ y ∷ [] → front ≡ other
front-same front other x y e =
    let count : length other ≡ length front = omega (arith, ap length e, length_push front x, length_push other y) in
    sym (take_at front (x ∷ []) (length front) refl) ∙ ap (take (length front)) e ∙ take_at other (y ∷ []) (length front) count

-- both are true, so the right one is
and-right : (a b : Bool) → (a && b) ≡ true → b ≡ true
and-right true b e = e
and-right false b e = absurd (false≢true e)

-- one of the values, by one of what they are of
Any-mapped : {X Y : Type 0} (P : Y → Type 0) (f : X → Y) (xs : List X) → Any (λ x. P (f x)) xs → (y : Y) × Contains (map f xs) y × P y
Any-mapped P f [] (k, x, lt, is, p) = absurd (omega (arith, lt))
Any-mapped P f (z ∷ xs) (zero, x, lt, is, p) = (f x, (zero, omega arith, ap f is), p)
Any-mapped P f (z ∷ xs) (suc k, x, lt, is, p) = let w = Any-mapped P f xs (k, x, omega (arith, lt), is, p) in (w.0, (suc w.1.0, omega (arith, w.1.1), w.1.2), w.2)

-- and the other way round
Any-unmapped : {X Y : Type 0} (P : Y → Type 0) (f : X → Y) (xs : List X) (y : Y) → Contains (map f xs) y → P y → Any (λ x. P (f x)) xs
Any-unmapped P f [] y (k, lt, is) p = absurd (omega (arith, lt))
Any-unmapped P f (z ∷ xs) y (zero, lt, is) p = (zero, z, omega arith, refl, subst P (sym is) p)
Any-unmapped P f (z ∷ xs) y (suc k, lt, is) p = let w = Any-unmapped P f xs y (k, omega (arith, lt), is) p in (suc w.0, w.1, omega (arith, w.2), w.3, w.4)

-- what a path is of is computed
pub path-computed : (models : List Gathered) (own : Step) (path : List Step) (is : IsPathOf models own path) → is_computed is.member.def ≡ true
path-computed models own path is = and-right (not (is_delegated is.member.role)) (is_computed is.member.def) is.depends.0

-- a path leads through such steps, if it ends here
abbrev pub LeadsHere : (Step → Type 0) → Step → Path → Type 0
LeadsHere Through own path = EndsIn path.steps own → GoesBy Through path.steps

-- what tests of paths and of steps answer, by the steps through which paths are to lead
module _ (Through : Step → Type 0) where
  -- the paths that end here lead through such steps
  pub leads-all : (own : Step) (paths : List Path) (r : Bool)
      → MatchBool r (AllWithin (LeadsHere Through own) paths 0 (length paths)) ((k : ℕ) × (k < length paths) × HoldsAt (λ path. LeadsHere Through own path → ⊥) paths k)
      → IsTrue r ↔ LeadsToItselfBy Through own (steps_in paths)
  leads-all own paths r m =
      let is = all-is (LeadsHere Through own) paths r m in (
        λ e. All-map (λ steps. EndsIn steps own → GoesBy Through steps) (λ (path : Path). path.steps) paths (is.0 e),
        λ all. is.1 (All-unmap (λ steps. EndsIn steps own → GoesBy Through steps) (λ (path : Path). path.steps) paths all),
      )

  -- a path does, where there are some
  pub goes-all : (steps : List Step) (r : Bool) → 0 < length steps → (length (take (length steps - 1) steps) == 0) ≡ false
      → MatchBool r (AllWithin Through (take (length steps - 1) steps) 0 (length (take (length steps - 1) steps)))
      ((k : ℕ) × (k < length (take (length steps - 1) steps)) × HoldsAt (λ s. Through s → ⊥) (take (length steps - 1) steps) k) → IsTrue r ↔ GoesBy Through steps
  goes-all steps r low some m =
      let is = all-is Through (take (length steps - 1) steps) r m in
      (λ e. goes-by Through steps low some (is.0 e), λ goes. is.1 (goes-by-front Through steps goes))

module _ (models : List Gathered) (own : Step) (kept : List Path) (are : (path : List Step) → IsPathOf models own path ↔ Contains (steps_in kept) path) where
  -- a path ends here
  abbrev Ends : Path → Type 0
  Ends path = EndsIn path.steps own

  -- through such steps alone, as paths and as steps
  pub reads-by : (Through : Step → Type 0) → LeadsToItselfBy Through own (steps_in kept) → ReadsItselfBy models Through own
  reads-by Through leads front is =
      let goes = All-contains (λ steps. EndsIn steps own → GoesBy Through steps) (steps_in kept) (front ++ own ∷ []) leads ((are (front ++ own ∷ [])).0 is) (front, refl) in
      subst (λ (l : List Step). (l ≢ []) × All Through l) (sym (front-same front goes.0 own goes.1 goes.2)) (goes.3, goes.4)

  pub leads-by : (Through : Step → Type 0) → ReadsItselfBy models Through own → LeadsToItselfBy Through own (steps_in kept)
  leads-by Through reads = All-weaker (Contains (steps_in kept)) (λ steps. EndsIn steps own → GoesBy Through steps) of (steps_in kept) (All-contains_itself (steps_in kept))
    where
      of : (steps : List Step) → Contains (steps_in kept) steps → EndsIn steps own → GoesBy Through steps
      of steps among (front, e) = let by = reads front (subst (IsPathOf models own) e ((are steps).1 among)) in (front, own, e, by.0, by.1)

  -- up a tree or down it, by the paths that are kept
  pub recursion-is : LeadsToItselfBy (IsToParent models own.model) own (steps_in kept) ⊎ LeadsToItselfBy (IsToChildren models own.model) own (steps_in kept) → IsRecursion models own
  recursion-is (inl up) = inl (reads-by (IsToParent models own.model) up)
  recursion-is (inr down) = inr (reads-by (IsToChildren models own.model) down)

  pub recursion-by : IsRecursion models own → LeadsToItselfBy (IsToParent models own.model) own (steps_in kept) ⊎ LeadsToItselfBy (IsToChildren models own.model) own (steps_in kept)
  recursion-by (inl up) = inl (leads-by (IsToParent models own.model) up)
  recursion-by (inr down) = inr (leads-by (IsToChildren models own.model) down)

  -- the field reads itself
  pub reads-itself : Any Ends kept → Reads models own own
  reads-itself ends =
      let path = Any-mapped (λ (steps : List Step). EndsIn steps own) (λ (path : Path). path.steps) kept ends in
      let is = (are path.0).1 path.1 in
      ((is.model, is.member, is.is_member, path-computed models own path.0 is), (path.2.0, subst (IsPathOf models own) path.2.1 is))

  -- and one that does has a path that ends here
  pub ends-there : Reads models own own → Any Ends kept
  ends-there (computed, (front, is)) = Any-unmapped (λ (steps : List Step). EndsIn steps own) (λ (path : Path). path.steps) kept (front ++ own ∷ []) ((are (front ++ own ∷ [])).0 is) (front, refl)

module _ (models : List Gathered) (own : Step) (m : Member) where
  -- nothing is wrong with a field that doesn't read itself
  pub self-none : (Reads models own own → ⊥) → (w : Wrong) → IsSelfWrong models own m w → ⊥
  self-none never wrong.Cycle is = never is.0
  self-none never wrong.Recursion is = never is.0
  self-none never _ is = is

  -- nor with one that does so along its tree and says so
  pub self-fine : IsRecursion models own → is_set m.def.recursive ≡ true → (w : Wrong) → IsSelfWrong models own m w → ⊥
  self-fine along says wrong.Cycle is = is.1 along
  self-fine along says wrong.Recursion is = false≢true (sym is.2 ∙ says)
  self-fine along says _ is = is

  -- in another way than along its tree: a circle
  pub self-circle : (IsRecursion models own → ⊥) → (w : Wrong) → IsSelfWrong models own m w → w ≡ wrong.Cycle
  self-circle never wrong.Cycle is = refl
  self-circle never wrong.Recursion is = absurd (never is.1)
  self-circle never _ is = absurd is

  -- along its tree: a recursion
  pub self-along : IsRecursion models own → (w : Wrong) → IsSelfWrong models own m w → w ≡ wrong.Recursion
  self-along along wrong.Cycle is = absurd (is.1 along)
  self-along along wrong.Recursion is = refl
  self-along along _ is = absurd is
