-- What is found of one field after another, as the faults of all fields.
use Rattle.std.proofs.Common.{◌≡◌, ℕ, ◌+◌, ◌≤◌, List, [], ◌∷◌, ◌++◌, length, take, Option, Some, sym, ap, subst, ◌∙◌, arith}
use Rattle.std.specs.Prelude.{◌↔◌, Any, slice_get}
use Rattle.std.proofs.lemmas.List.{take_all, take_more}
use Rattle.std.proofs.lemmas.Option.{get_or_from_slice_get, same_Some, slice_get_within}
use Rattle.ob_definition.specs.declared.fault.SchemaFault.{SchemaFault}
use Rattle.ob_definition.specs.declared.wrong.Wrong.{Wrong}
use Rattle.ob_definition.specs.Findings.{Adds, IsAt, IsFaultAt, Tells, fault_at}
use Rattle.ob_definition.specs.Gathered.{Gathered}
use Rattle.ob_definition.specs.Members.{Member}
use Rattle.ob_registry.specs.declared.graph.Graph.{Graph}
use Rattle.ob_schema.specs.declared.info.Step.{Step}
use Rattle.ob_registry.specs.Graphs.{IsGraph, IsStepFault, all_steps}
use Rattle.ob_schema.specs.Strata.{IsMember}
use Rattle.ob_registry.specs.Telling.{spot_of}
use Rattle.ob_definition.proofs.CallerLemmas.{Adds-more, Adds-none, Adds-same}
use Rattle.ob_registry.proofs.AllSteps.{member-step}
use Rattle.ob_registry.proofs.Readings.{from_some, some_and}

module _ {X : Type 0} (xs : List X) (n : ℕ) (x : X) (here : slice_get xs n ≡ Some x) where
  -- one element more
  pub taken-more : take (n + 1) xs ≡ take n xs ++ x ∷ []
  taken-more = take_more xs n x (slice_get_within xs n x here) ∙ ap (λ y. take n xs ++ y ∷ []) (get_or_from_slice_get xs n x x here)

-- none of none, and one of all
pub any-none : {X : Type 0} (P : X → Type 0) (xs : List X) → Any P (take 0 xs) → ⊥
any-none P xs (k, x, lt, is, p) = omega (arith, lt)

pub any-all : {X : Type 0} (P : X → Type 0) (xs : List X) (n : ℕ) → length xs ≤ n → Any P (take n xs) ↔ Any P xs
any-all P xs n past = subst (λ l. Any P l ↔ Any P xs) (sym (take_all n xs past)) (λ any. any, λ any. any)

-- what is told of the field of a node
abbrev pub IsToldAt : List Gathered → List Step → ℕ → Option Wrong → SchemaFault → Type 0
IsToldAt models steps n told = IsStepFault models (λ at m w. (slice_get steps n ≡ Some at) × (told ≡ Some w))

module _ (models : List Gathered) (IsWrong : Step → Member → Wrong → Type 0) where
  -- the faults of the field of a step
  abbrev pub IsNodeFault : Step → SchemaFault → Type 0
  IsNodeFault step why = (g : Gathered) × (m : Member) × IsMember models step g m × IsFaultAt (spot_of m) (IsWrong step m) why

  -- those of the first so many
  abbrev pub AreNodeFaults : ℕ → SchemaFault → Type 0
  AreNodeFaults n why = Any (λ step. IsNodeFault step why) (take n (all_steps models))

  -- none before the first
  pub faults-none : (a : Option SchemaFault) → Adds (AreNodeFaults 0) a a
  faults-none a = Adds-none (AreNodeFaults 0) a (λ why any. any-none (λ step. IsNodeFault step why) (all_steps models) any)

  -- one field more
  pub faults-more : (n : ℕ) (step : Step) (a b c : Option SchemaFault) → slice_get (all_steps models) n ≡ Some step → Adds (AreNodeFaults n) a b → Adds (IsNodeFault step) b c → Adds (AreNodeFaults (n + 1)) a c
  faults-more n step a b c here before own =
      subst (λ (l : List Step). Adds (λ why. Any (λ s. IsNodeFault s why) l) a c) (sym (taken-more (all_steps models) n step here))
      (Adds-more IsNodeFault (take n (all_steps models)) step a b c before own)

  -- and those of all fields
  pub faults-all : (n : ℕ) (a b : Option SchemaFault) → length (all_steps models) ≤ n → Adds (AreNodeFaults n) a b → Adds (IsStepFault models IsWrong) a b
  faults-all n a b past adds = Adds-same (AreNodeFaults n) (IsStepFault models IsWrong) a b to from adds
    where
      to : (why : SchemaFault) → AreNodeFaults n why → IsStepFault models IsWrong why
      to why any = let w = (any-all (λ step. IsNodeFault step why) (all_steps models) n past).0 any in (w.1, w.4.0, w.4.1, w.4.2, w.4.3)

      from : (why : SchemaFault) → IsStepFault models IsWrong why → AreNodeFaults n why
      from why (step, g, m, is, fault) = let among = member-step models step g m is in
          (any-all (λ s. IsNodeFault s why) (all_steps models) n past).1 (among.0, step, among.1, among.2, (g, m, is, fault))

  -- what is told of a node is what is wrong with its field
  pub node-told : (steps : List Step) (n : ℕ) (step : Step) (told : Option Wrong) (a b : Option SchemaFault) → slice_get steps n ≡ Some step
      → ((g : Gathered) (m : Member) → IsMember models step g m → Tells (IsWrong step m) told) → Adds (IsToldAt models steps n told) a b → Adds (IsNodeFault step) a b
  node-told steps n step told a b here tells = Adds-same (IsToldAt models steps n told) (IsNodeFault step) a b to from
    where
      to : (why : SchemaFault) → IsToldAt models steps n told why → IsNodeFault step why
      to why (at, g, m, is, (w, (there, is-told), e)) =
          let same : at ≡ step = same_Some at step (sym there ∙ here) in
          let own : IsMember models step g m = subst (λ (s : Step). IsMember models s g m) same is in
          (g, m, own, (w, (tells g m own w).0 is-told, e))

      from : (why : SchemaFault) → IsNodeFault step why → IsToldAt models steps n told why
      from why (g, m, is, (w, wrong, e)) = (step, g, m, is, (w, (here, (tells g m is w).1 wrong), e))

  -- the same, where all fields up to the node were looked at
  pub faults-told : (graph : Graph) → IsGraph models graph → (n : ℕ) (step : Step) (told : Option Wrong) (a b c : Option SchemaFault) → slice_get (all_steps models) n ≡ Some step
      → ((g : Gathered) (m : Member) → IsMember models step g m → Tells (IsWrong step m) told) → Adds (AreNodeFaults n) a b → Adds (IsToldAt models graph.steps.items n told) b c
      → Adds (AreNodeFaults (n + 1)) a c
  faults-told graph is n step told a b c here tells before now =
      faults-more n step a b c here before (node-told graph.steps.items n step told b c (subst (λ (l : List Step). slice_get l n ≡ Some step) (sym is.steps) here) tells now)

-- what is told at the spot of a node's one member is told of the node
pub told-at : (models : List Gathered) (steps : List Step) (n : ℕ) (step : Step) (own : Member) (told : Option Wrong) (a b : Option SchemaFault) → slice_get steps n ≡ Some step
    → (g : Gathered) × IsMember models step g own → ((g : Gathered) (m : Member) → IsMember models step g m → m ≡ own) → Adds (IsAt told (spot_of own)) a b → Adds (IsToldAt models steps n told) a b
told-at models steps n step own told a b here there single = Adds-same (IsAt told (spot_of own)) (IsToldAt models steps n told) a b to from
  where
    to : (why : SchemaFault) → IsAt told (spot_of own) why → IsToldAt models steps n told why
    to why at = let w = some_and told (λ (x : Wrong). why ≡ fault_at x (spot_of own)) at in (step, there.0, own, there.1, (w.0, (here, w.1), w.2))

    from : (why : SchemaFault) → IsToldAt models steps n told why → IsAt told (spot_of own) why
    from why (at, g, m, is, (w, (stands, is-told), e)) =
        let same : at ≡ step = same_Some at step (sym stands ∙ here) in
        let one : m ≡ own = single g m (subst (λ (s : Step). IsMember models s g m) same is) in
        from_some told (λ (x : Wrong). why ≡ fault_at x (spot_of own)) w is-told (e ∙ ap (λ (x : Member). fault_at w (spot_of x)) one)
