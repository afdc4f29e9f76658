-- The faults of an entry, by the arm that takes it; and those of the entries before it.
use Rattle.std.proofs.Common.{◌≡◌, ◌⊎◌, inl, inr, ℕ, zero, suc, ◌<◌, ◌≤◌, ◌+◌, Bool, true, false, cond, List, [], ◌∷◌, ◌++◌, length, take, Option, Some, None, is_some, is_none, refl, sym, ap, subst, ◌∙◌, arith}
use Rattle.std.specs.Prelude.{IsSomeAnd, option_and_then, slice_get}
use Rattle.std.specs.Str.{bytes_eq}
use Rattle.std.proofs.lemmas.List.{take-append-le, take_all}
use Rattle.std.proofs.lemmas.Slice.Eq.{bytes_eq-Decides}
use Rattle.ob_base.specs.Limits.{max_checks, max_models}
use Rattle.ob_definition.specs.declared.definition.ModelDef.{ModelDef}
use Rattle.ob_definition.specs.declared.fault.SchemaFault.{SchemaFault}
use Rattle.ob_definition.specs.declared.fault.SchemaFault.TheVariants as fault
use Rattle.ob_definition.specs.declared.fault.Spot.{Spot}
use Rattle.ob_definition.specs.EntryFaults.{IsCheckTwice, IsEntryFault, IsFieldTwice, IsGatheringFault, IsNamedBefore, IsWhole, NamesNoModel, is_wrong_entry}
use Rattle.ob_definition.specs.Gathered.{Gathered, added, begun, begun_new, copied, gathered, gathered_from, model_of, opened, opened_by, with_entry}
use Rattle.ob_definition.specs.Members.{check_name}
use Rattle.ob_definition.specs.Rooms.{IsAdditionFault, IsBeginningFault, IsExtensionFault, spot_at}
use Rattle.ob_definition.proofs.Rooms.{IsTold}

no_some : {X : Type 0} (x : X) → ◌≡◌ {A = Option X} None (Some x) → ⊥
no_some x e = cc

pub opened-is : (models : List Gathered) (n : ℕ) (def : ModelDef) (name inherit : Option (List ℕ)) → def.name ≡ name → def.inherit ≡ inherit → opened models n def ≡ opened_by models n def name inherit
opened-is models n def name inherit e h = ap (λ (a : Option (List ℕ)). opened_by models n def a def.inherit) e ∙ ap (opened_by models n def name) h

-- the spot of an entry as a whole
spot-whole : (n : ℕ) (spot : Spot) → IsWhole n spot → spot ≡ spot_at n []
spot-whole n spot is = ap (λ (k : ℕ). let s : Spot = record { entry = k; field = spot.field } in s) is.0 ∙ ap (λ (field : List ℕ). spot_at n field) is.1

-- a model that is there has a name that is known
known : (models : List Gathered) (base : List ℕ) (m : Gathered) → model_of models base ≡ Some m → is_none (model_of models m.name) ≡ false
known [] base m e = absurd (no_some m e)
known (k ∷ ks) base m e = by (bytes_eq k.name base) (bytes_eq k.name m.name) refl refl e (λ same. known ks base m same)
  where
    by : (b t : Bool) → bytes_eq k.name base ≡ b → bytes_eq k.name m.name ≡ t → cond b (Some k) (model_of ks base) ≡ Some m → (model_of ks base ≡ Some m → is_none (model_of ks m.name) ≡ false)
        → is_none (cond t (Some k) (model_of ks m.name)) ≡ false
    by b true x y same rest = refl
    by false false x y same rest = rest same
    by true false x y same rest =
        let own : k ≡ m = let s : ◌≡◌ {A = Option Gathered} (Some k) (Some m) = same in cc in
        let yes : bytes_eq k.name m.name ≡ true = (bytes_eq-Decides k.name m.name).1 (ap (λ (g : Gathered). g.name) own) in
        absurd (let s : ◌≡◌ {A = Bool} true false = sym yes ∙ y in cc)

module _ (models : List Gathered) (n : ℕ) (def : ModelDef) where
  -- what is added to the opened model is taken, or too much
  abbrev pub AddedTwice : Option Gathered → List ℕ → Type 0
  AddedTwice o spot = IsSomeAnd o (λ model. IsFieldTwice n model.fields def.fields spot ⊎ ((name : List ℕ) × IsCheckTwice n model.checks def.checks name × (check_name name ≡ spot)))

  abbrev pub PastLimit : Option Gathered → Type 0
  PastLimit o = IsSomeAnd o (λ model. ((is_none (model_of models model.name) ≡ true) × (max_models ≤ length models)) ⊎ (max_checks < length (added n def model).checks))

  -- a model past the greatest number, and what is told of the model that is opened
  abbrev pub IsOpenFault : Gathered → SchemaFault → Type 0
  IsOpenFault m why = ((is_none (model_of models m.name) ≡ true) × (max_models ≤ length models) × (why ≡ fault.Limit (spot_at n []))) ⊎ IsAdditionFault n def m why

  -- the faults of an entry, each by what tells it
  abbrev pub EntryParts : Option Gathered → SchemaFault → Type 0
  EntryParts o why =
      IsTold (is_wrong_entry def) (fault.Kind (spot_at n [])) why
      ⊎ ((NamesNoModel models def × (why ≡ fault.Model (spot_at n []))) ⊎ ((IsNamedBefore models def × (why ≡ fault.Twice (spot_at n []))) ⊎ IsSomeAnd o (λ m. IsOpenFault m why)))

  twice_spot : (spot : Spot) (field : List ℕ) → spot.entry ≡ n → field ≡ spot.field → fault.Twice spot ≡ fault.Twice (spot_at n field)
  twice_spot spot field same is = ap (λ (k : ℕ). fault.Twice (record { entry = k; field = spot.field })) same ∙ ap (λ (f : List ℕ). fault.Twice (spot_at n f)) (sym is)

  twice_in : (o : Option Gathered) (spot : Spot) → spot.entry ≡ n → AddedTwice o spot.field → IsSomeAnd o (λ m. IsOpenFault m (fault.Twice spot))
  twice_in None spot same twice = twice
  twice_in (Some m) spot same (inl t) = inr (inl (spot.field, t, twice_spot spot spot.field same refl))
  twice_in (Some m) spot same (inr t) = inr (inr (inl (t.0, t.1, twice_spot spot (check_name t.0) same t.2)))

  past_in : (o : Option Gathered) (spot : Spot) → IsWhole n spot → PastLimit o → IsSomeAnd o (λ m. IsOpenFault m (fault.Limit spot))
  past_in None spot w past = past
  past_in (Some m) spot w (inl t) = inl (t.0, t.1, ap fault.Limit (spot-whole n spot w))
  past_in (Some m) spot w (inr t) = inr (inr (inr (t, ap fault.Limit (spot-whole n spot w))))

  parts_of : (why : SchemaFault) → IsEntryFault models n def why → EntryParts (opened models n def) why
  parts_of (fault.Model spot) w = inr (inl (w.1, ap fault.Model (spot-whole n spot w.0)))
  parts_of (fault.Kind spot) w = inl (w.1, ap fault.Kind (spot-whole n spot w.0))
  parts_of (fault.Twice spot) (inl w) = inr (inr (inl (w.1, ap fault.Twice (spot-whole n spot w.0))))
  parts_of (fault.Twice spot) (inr w) = inr (inr (inr (twice_in (opened models n def) spot w.0 w.1)))
  parts_of (fault.Limit spot) w = inr (inr (inr (past_in (opened models n def) spot w.0 w.1)))
  parts_of _ w = absurd w

  in_open : (o : Option Gathered) (why : SchemaFault) → opened models n def ≡ o → IsSomeAnd o (λ m. IsOpenFault m why) → IsEntryFault models n def why
  in_open None why is opens = absurd opens
  in_open (Some m) why is (inl t) = subst (IsEntryFault models n def) (sym t.2) ((refl, refl), subst PastLimit (sym is) (inl (t.0, t.1)))
  in_open (Some m) why is (inr (inl t)) = subst (IsEntryFault models n def) (sym t.2) (inr (refl, subst (λ (o : Option Gathered). AddedTwice o t.0) (sym is) (inl t.1)))
  in_open (Some m) why is (inr (inr (inl t))) = subst (IsEntryFault models n def) (sym t.2) (inr (refl, subst (λ (o : Option Gathered). AddedTwice o (check_name t.0)) (sym is) (inr (t.0, t.1, refl))))
  in_open (Some m) why is (inr (inr (inr t))) = subst (IsEntryFault models n def) (sym t.1) ((refl, refl), subst PastLimit (sym is) (inr t.0))

  in_parts : (o : Option Gathered) (why : SchemaFault) → opened models n def ≡ o → EntryParts o why → IsEntryFault models n def why
  in_parts o why is (inl t) = subst (IsEntryFault models n def) (sym t.1) ((refl, refl), t.0)
  in_parts o why is (inr (inl t)) = subst (IsEntryFault models n def) (sym t.1) ((refl, refl), t.0)
  in_parts o why is (inr (inr (inl t))) = subst (IsEntryFault models n def) (sym t.1) (inl ((refl, refl), t.0))
  in_parts o why is (inr (inr (inr t))) = in_open o why is t

  -- an entry without names
  pub nameless : (why : SchemaFault) → def.name ≡ None → def.inherit ≡ None → IsEntryFault models n def why → IsTold (is_wrong_entry def) (fault.Kind (spot_at n [])) why ⊎ (why ≡ fault.Model (spot_at n []))
  nameless why e h f = by (subst (λ (o : Option Gathered). EntryParts o why) (opened-is models n def None None e h) (parts_of why f))
    where
      by : EntryParts None why → IsTold (is_wrong_entry def) (fault.Kind (spot_at n [])) why ⊎ (why ≡ fault.Model (spot_at n []))
      by (inl t) = inl t
      by (inr (inl t)) = inr t.1
      by (inr (inr (inl t))) = absurd (subst (λ (o : Option (List ℕ)). IsSomeAnd o (λ name. is_some (model_of models name) ≡ true)) e t.0.0)
      by (inr (inr (inr t))) = absurd t

  -- an entry that extends a model
  pub extended : (base : List ℕ) (why : SchemaFault) → def.name ≡ None → def.inherit ≡ Some base → IsEntryFault models n def why
      → IsTold (is_wrong_entry def) (fault.Kind (spot_at n [])) why ⊎ IsExtensionFault models n def base why
  extended base why e h f = by (model_of models base) refl (subst (λ (o : Option Gathered). EntryParts o why) (opened-is models n def None (Some base) e h) (parts_of why f))
    where
      named : NamesNoModel models def → model_of models base ≡ None
      named (inl t) = absurd (no_some base (sym t.1 ∙ h))
      named (inr t) = subst (λ (o : Option (List ℕ)). IsSomeAnd o (λ b. model_of models b ≡ None)) h t

      by : (o : Option Gathered) → model_of models base ≡ o → EntryParts o why
          → IsTold (is_wrong_entry def) (fault.Kind (spot_at n [])) why ⊎ (((model_of models base ≡ None) × (why ≡ fault.Model (spot_at n []))) ⊎ IsSomeAnd o (λ model. IsAdditionFault n def model why))
      by o is (inl t) = inl t
      by o is (inr (inl t)) = inr (inl (named t.0, t.1))
      by o is (inr (inr (inl t))) = absurd (subst (λ (o : Option (List ℕ)). IsSomeAnd o (λ name. is_some (model_of models name) ≡ true)) e t.0.0)
      by None is (inr (inr (inr t))) = absurd t
      by (Some m) is (inr (inr (inr (inl t)))) = absurd (let s : ◌≡◌ {A = Bool} true false = sym t.0 ∙ known models base m is in cc)
      by (Some m) is (inr (inr (inr (inr t)))) = inr (inr t)

  pub extending : (base : List ℕ) (why : SchemaFault) → def.name ≡ None → def.inherit ≡ Some base
      → IsTold (is_wrong_entry def) (fault.Kind (spot_at n [])) why ⊎ IsExtensionFault models n def base why → IsEntryFault models n def why
  extending base why e h parts = in_parts (model_of models base) why (opened-is models n def None (Some base) e h) (by (model_of models base) parts)
    where
      by : (o : Option Gathered) → IsTold (is_wrong_entry def) (fault.Kind (spot_at n [])) why ⊎ (((model_of models base ≡ None) × (why ≡ fault.Model (spot_at n []))) ⊎ IsSomeAnd o (λ model. IsAdditionFault n def model why))
          → EntryParts o why
      by o (inl t) = inl t
      by o (inr (inl t)) = inr (inl (inr (subst (λ (o : Option (List ℕ)). IsSomeAnd o (λ b. model_of models b ≡ None)) (sym h) t.0), t.1))
      by None (inr (inr t)) = absurd t
      by (Some m) (inr (inr t)) = inr (inr (inr (inr t)))

  -- an entry without names, the other way
  pub naming_none : (why : SchemaFault) → def.name ≡ None → def.inherit ≡ None → IsTold (is_wrong_entry def) (fault.Kind (spot_at n [])) why ⊎ (why ≡ fault.Model (spot_at n [])) → IsEntryFault models n def why
  naming_none why e h (inl t) = in_parts (opened models n def) why refl (inl t)
  naming_none why e h (inr t) = in_parts (opened models n def) why refl (inr (inl (inl (e, h), t)))

  -- a copy of a model that isn't there
  pub copied_none : (name base : List ℕ) (why : SchemaFault) → def.name ≡ Some name → def.inherit ≡ Some base → model_of models base ≡ None → IsEntryFault models n def why
      → IsTold (is_wrong_entry def) (fault.Kind (spot_at n [])) why ⊎ (why ≡ fault.Model (spot_at n []))
  copied_none name base why e h none f =
      by (subst (λ (o : Option Gathered). EntryParts o why) (opened-is models n def (Some name) (Some base) e h ∙ ap (option_and_then (λ m. begun_new models def (copied n name m))) none) (parts_of why f))
    where
      by : EntryParts None why → IsTold (is_wrong_entry def) (fault.Kind (spot_at n [])) why ⊎ (why ≡ fault.Model (spot_at n []))
      by (inl t) = inl t
      by (inr (inl t)) = inr t.1
      by (inr (inr (inl t))) = absurd (t.0.1 (inr (subst (λ (o : Option (List ℕ)). IsSomeAnd o (λ b. model_of models b ≡ None)) (sym h) none)))
      by (inr (inr (inr t))) = absurd t

  pub copying_none : (base : List ℕ) (why : SchemaFault) → def.inherit ≡ Some base → model_of models base ≡ None
      → IsTold (is_wrong_entry def) (fault.Kind (spot_at n [])) why ⊎ (why ≡ fault.Model (spot_at n [])) → IsEntryFault models n def why
  copying_none base why h none (inl t) = in_parts (opened models n def) why refl (inl t)
  copying_none base why h none (inr t) = in_parts (opened models n def) why refl (inr (inl (inr (subst (λ (o : Option (List ℕ)). IsSomeAnd o (λ b. model_of models b ≡ None)) (sym h) none), t)))

-- what a test of an option says of it
pub none_some : {X : Type 0} (o : Option X) → is_some o ≡ false → is_none o ≡ true
none_some None e = refl
none_some (Some x) e = absurd (let s : ◌≡◌ {A = Bool} true false = e in cc)

some_none : {X : Type 0} (o : Option X) → is_none o ≡ true → is_some o ≡ false
some_none None e = refl
some_none (Some x) e = absurd (let s : ◌≡◌ {A = Bool} false true = e in cc)

-- an entry that begins a new model
module _ (models : List Gathered) (def : ModelDef) (model : Gathered) (e : def.name ≡ Some model.name) (named : NamesNoModel models def → ⊥) (is : opened models model.entry def ≡ begun_new models def model) where
  abbrev Told : SchemaFault → Type 0
  Told why = IsTold (is_wrong_entry def) (fault.Kind (spot_at model.entry [])) why

  pub beginning : (why : SchemaFault) → IsEntryFault models model.entry def why → Told why ⊎ IsBeginningFault models def model why
  beginning why f = by (is_some (model_of models model.name)) refl (subst (λ (o : Option Gathered). EntryParts models model.entry def o why) is (parts_of models model.entry def why f))
    where
      by : (b : Bool) → is_some (model_of models model.name) ≡ b → EntryParts models model.entry def (cond b None (Some (begun def model))) why → Told why ⊎ IsBeginningFault models def model why
      by b t (inl w) = inl w
      by b t (inr (inl w)) = absurd (named w.0)
      by b t (inr (inr (inl w))) = inr (inl (subst (λ (o : Option (List ℕ)). IsSomeAnd o (λ name. is_some (model_of models name) ≡ true)) e w.0.0, w.1))
      by true t (inr (inr (inr w))) = absurd w
      by false t (inr (inr (inr (inl w)))) = inr (inr (w.0, inl (w.1, w.2)))
      by false t (inr (inr (inr (inr w)))) = inr (inr (none_some (model_of models model.name) t, inr w))

  pub begins : (why : SchemaFault) → Told why ⊎ IsBeginningFault models def model why → IsEntryFault models model.entry def why
  begins why parts = by (is_some (model_of models model.name)) refl is parts
    where
      by : (b : Bool) → is_some (model_of models model.name) ≡ b → opened models model.entry def ≡ cond b None (Some (begun def model)) → Told why ⊎ IsBeginningFault models def model why → IsEntryFault models model.entry def why
      by b t opens (inl w) = in_parts models model.entry def (cond b None (Some (begun def model))) why opens (inl w)
      by b t opens (inr (inl w)) =
          in_parts models model.entry def (cond b None (Some (begun def model))) why opens
          (inr (inr (inl ((subst (λ (o : Option (List ℕ)). IsSomeAnd o (λ name. is_some (model_of models name) ≡ true)) (sym e) w.0, named), w.1))))
      by true t opens (inr (inr w)) = absurd (let s : ◌≡◌ {A = Bool} false true = sym (some_none (model_of models model.name) w.0) ∙ t in cc)
      by false t opens (inr (inr (free, inl w))) = in_parts models model.entry def (Some (begun def model)) why opens (inr (inr (inr (inl (free, w.0, w.1)))))
      by false t opens (inr (inr (free, inr w))) = in_parts models model.entry def (Some (begun def model)) why opens (inr (inr (inr (inr w))))

-- ---- entries in their turn

slice_get-push : {X : Type 0} (xs : List X) (y x : X) (n : ℕ) → slice_get (xs ++ y ∷ []) n ≡ Some x → ((n < length xs) × (slice_get xs n ≡ Some x)) ⊎ ((n ≡ length xs) × (x ≡ y))
slice_get-push [] y x zero at = inr (refl, let s : ◌≡◌ {A = Option _} (Some y) (Some x) = at in cc)
slice_get-push [] y x (suc n) at = absurd (no_some x at)
slice_get-push (z ∷ xs) y x zero at = inl (omega arith, at)
slice_get-push (z ∷ xs) y x (suc n) at = elim (slice_get-push xs y x n at) as (λ _. ((suc n < length (z ∷ xs)) × (slice_get xs n ≡ Some x)) ⊎ ((suc n ≡ length (z ∷ xs)) × (x ≡ y))) [
  | inl t ↦ inl (omega arith, t.1)
  | inr t ↦ inr (omega arith, t.1)
]

slice_get-before : {X : Type 0} (xs : List X) (y x : X) (n : ℕ) → slice_get xs n ≡ Some x → (n < length xs) × (slice_get (xs ++ y ∷ []) n ≡ Some x)
slice_get-before [] y x n at = absurd (no_some x at)
slice_get-before (z ∷ xs) y x zero at = (omega arith, at)
slice_get-before (z ∷ xs) y x (suc n) at = let t = slice_get-before xs y x n at in (omega arith, t.1)

slice_get-last : {X : Type 0} (xs : List X) (y : X) → slice_get (xs ++ y ∷ []) (length xs) ≡ Some y
slice_get-last [] y = refl
slice_get-last (z ∷ xs) y = slice_get-last xs y

gathered_from-push : (n : ℕ) (models : List Gathered) (defs : List ModelDef) (def : ModelDef) → gathered_from n models (defs ++ def ∷ []) ≡ with_entry (n + length defs) (gathered_from n models defs) def
gathered_from-push n models [] def = ap (λ (k : ℕ). with_entry k models def) (omega arith)
gathered_from-push n models (d ∷ defs) def =
    gathered_from-push (suc n) (with_entry n models d) defs def ∙ ap (λ (k : ℕ). with_entry k (gathered_from (suc n) (with_entry n models d) defs) def) (omega arith)

pub gathered-push : (defs : List ModelDef) (def : ModelDef) → gathered (defs ++ def ∷ []) ≡ with_entry (length defs) (gathered defs) def
gathered-push defs def = gathered_from-push 0 [] defs def ∙ ap (λ (k : ℕ). with_entry k (gathered defs) def) (omega arith)

pub IsGatheringFault-push : (defs : List ModelDef) (def : ModelDef) (why : SchemaFault) → IsGatheringFault (defs ++ def ∷ []) why → IsGatheringFault defs why ⊎ IsEntryFault (gathered defs) (length defs) def why
IsGatheringFault-push defs def why (n, d, at, f) = elim (slice_get-push defs def d n at) as (λ _. IsGatheringFault defs why ⊎ IsEntryFault (gathered defs) (length defs) def why) [
  | inl t ↦
      (let front : n ≤ length defs = omega arith in
      let same : take n (defs ++ def ∷ []) ≡ take n defs = take-append-le n defs (def ∷ []) front in
      inl (n, d, t.1, subst (λ (ds : List ModelDef). IsEntryFault (gathered ds) n d why) same f))
  | inr t ↦
      (let all : take n (defs ++ def ∷ []) ≡ defs = ap (λ (k : ℕ). take k (defs ++ def ∷ [])) t.0 ∙ take-append-le (length defs) defs (def ∷ []) (omega arith) ∙ take_all (length defs) defs (omega arith) in
      let named : IsEntryFault (gathered defs) n d why = subst (λ (ds : List ModelDef). IsEntryFault (gathered ds) n d why) all f in
      let placed : IsEntryFault (gathered defs) (length defs) d why = subst (λ (k : ℕ). IsEntryFault (gathered defs) k d why) t.0 named in
      inr (subst (λ (m : ModelDef). IsEntryFault (gathered defs) (length defs) m why) t.1 placed))
]

pub IsGatheringFault-before : (defs : List ModelDef) (def : ModelDef) (why : SchemaFault) → IsGatheringFault defs why ⊎ IsEntryFault (gathered defs) (length defs) def why → IsGatheringFault (defs ++ def ∷ []) why
IsGatheringFault-before defs def why (inl (n, d, at, f)) =
    let t = slice_get-before defs def d n at in
    let front : n ≤ length defs = omega (arith, t.0) in
    let same : take n (defs ++ def ∷ []) ≡ take n defs = take-append-le n defs (def ∷ []) front in
    (n, d, t.1, subst (λ (ds : List ModelDef). IsEntryFault (gathered ds) n d why) (sym same) f)
IsGatheringFault-before defs def why (inr f) =
    let all : take (length defs) (defs ++ def ∷ []) ≡ defs = take-append-le (length defs) defs (def ∷ []) (omega arith) ∙ take_all (length defs) defs (omega arith) in
    (length defs, def, slice_get-last defs def, subst (λ (ds : List ModelDef). IsEntryFault (gathered ds) (length defs) def why) (sym all) f)
