-- What an entry adds and what is found of it, by the arm that takes it.
use Rattle.std.proofs.Common.{◌≡◌, ◌⊎◌, inl, inr, ℕ, Bool, true, false, cond, List, [], ◌∷◌, ◌++◌, length, nat_le, nat_lt, Option, Some, None, is_none, is_some, option_and_then, arith, refl, sym, ap, subst, ◌∙◌}
use Rattle.std.proofs.lemmas.Bool.Decides.{nat_tests}
use Rattle.std.specs.Bool.{then_some}
use Rattle.std.specs.Prelude.{IsSomeAnd}
use Rattle.ob_base.specs.Limits.{max_checks, max_models}
use Rattle.ob_definition.specs.declared.definition.Check.{Check}
use Rattle.ob_definition.specs.declared.definition.FieldDef.{FieldDef}
use Rattle.ob_definition.specs.declared.definition.ModelDef.{ModelDef}
use Rattle.ob_definition.specs.declared.fault.SchemaFault.{SchemaFault}
use Rattle.ob_definition.specs.declared.fault.SchemaFault.TheVariants as fault
use Rattle.ob_definition.specs.declared.wrong.Wrong.TheVariants as wrong
use Rattle.ob_definition.specs.ByName.{place_of}
use Rattle.ob_definition.specs.EntryFaults.{IsEntryFault, NamesNoModel, is_wrong_entry}
use Rattle.ob_definition.specs.Findings.{Adds, IsAt}
use Rattle.ob_definition.specs.Gathered.{Declared, DeclaredCheck, Gathered, added, begun, begun_new, blank, copied, model_of, opened, with_checks, with_opened}
use Rattle.ob_definition.specs.Rooms.{IsAdditionFault, IsBeginningFault, IsCheckTwiceFault, IsExtensionFault, IsFieldTwiceFault, spot_at}
use Rattle.ob_definition.proofs.Adding.{Adds-both, Adds-same}
use Rattle.ob_definition.proofs.EntryFaults.{beginning, begins, copied_none, copying_none, extended, extending, naming_none, nameless, opened-is}
use Rattle.ob_definition.proofs.Places.{is_some-place, put-new}
use Rattle.ob_definition.proofs.Rooms.{Adds-when, IsTold}

none_some : {X : Type 0} (x : X) → ◌≡◌ {A = Option X} None (Some x) → ⊥
none_some x e = cc

some_is_no_none : {X : Type 0} (o : Option X) → is_some o ≡ true → is_none o ≡ true → ⊥
some_is_no_none None e f = absurd (let s : ◌≡◌ {A = Bool} false true = e in cc)
some_is_no_none (Some x) e f = absurd (let s : ◌≡◌ {A = Bool} false true = f in cc)

module _ (models : List Gathered) (n : ℕ) (def : ModelDef) where
  pub opens-blank : (name : List ℕ) → def.name ≡ Some name → def.inherit ≡ None → opened models n def ≡ begun_new models def (blank n name)
  opens-blank name e h = opened-is models n def (Some name) None e h

  pub opens-copy : (name base : List ℕ) (m : Gathered) → def.name ≡ Some name → def.inherit ≡ Some base → model_of models base ≡ Some m → opened models n def ≡ begun_new models def (copied n name m)
  opens-copy name base m e h there = opened-is models n def (Some name) (Some base) e h ∙ ap (option_and_then (λ k. begun_new models def (copied n name k))) there

module _ (models : List Gathered) (n : ℕ) (def : ModelDef) (a b c : Option SchemaFault) (kind : Adds (IsAt (then_some (is_wrong_entry def) wrong.Kind) (spot_at n [])) a b) where
  abbrev Kinded : SchemaFault → Type 0
  Kinded why = IsTold (is_wrong_entry def) (fault.Kind (spot_at n [])) why

  told : Adds Kinded a b
  told = Adds-when (is_wrong_entry def) wrong.Kind (spot_at n []) a b kind

  pub found-nameless : def.name ≡ None → def.inherit ≡ None → Adds (IsAt (Some wrong.Model) (spot_at n [])) b c → Adds (IsEntryFault models n def) a c
  found-nameless e h rest =
      Adds-same (λ why. Kinded why ⊎ (why ≡ fault.Model (spot_at n []))) (IsEntryFault models n def) a c (λ why w. naming_none models n def why e h w) (λ why f. nameless models n def why e h f)
      (Adds-both Kinded (λ why. why ≡ fault.Model (spot_at n [])) a b c told rest)

  pub found-extending : (base : List ℕ) → def.name ≡ None → def.inherit ≡ Some base → Adds (IsExtensionFault models n def base) b c → Adds (IsEntryFault models n def) a c
  found-extending base e h rest =
      Adds-same (λ why. Kinded why ⊎ IsExtensionFault models n def base why) (IsEntryFault models n def) a c (λ why w. extending models n def base why e h w) (λ why f. extended models n def base why e h f)
      (Adds-both Kinded (IsExtensionFault models n def base) a b c told rest)

  pub found-no_base : (name base : List ℕ) → def.name ≡ Some name → def.inherit ≡ Some base → model_of models base ≡ None → Adds (IsAt (Some wrong.Model) (spot_at n [])) b c → Adds (IsEntryFault models n def) a c
  found-no_base name base e h none rest =
      Adds-same (λ why. Kinded why ⊎ (why ≡ fault.Model (spot_at n []))) (IsEntryFault models n def) a c (λ why w. copying_none models n def base why h none w) (λ why f. copied_none models n def name base why e h none f)
      (Adds-both Kinded (λ why. why ≡ fault.Model (spot_at n [])) a b c told rest)

  -- a new model, blank or a copy
  found-new : (model : Gathered) → model.entry ≡ n → def.name ≡ Some model.name → (NamesNoModel models def → ⊥) → opened models n def ≡ begun_new models def model → Adds (IsBeginningFault models def model) b c
      → Adds (IsEntryFault models n def) a c
  found-new model same e named is rest =
      Adds-same (λ why. Kinded why ⊎ IsBeginningFault models def model why) (IsEntryFault models n def) a c to from (Adds-both Kinded (IsBeginningFault models def model) a b c told rest)
    where
      opens : opened models model.entry def ≡ begun_new models def model
      opens = ap (λ (k : ℕ). opened models k def) same ∙ is

      to : (why : SchemaFault) → Kinded why ⊎ IsBeginningFault models def model why → IsEntryFault models n def why
      to why w =
          subst (λ (k : ℕ). IsEntryFault models k def why) same
          (begins models def model e named opens why (subst (λ (k : ℕ). IsTold (is_wrong_entry def) (fault.Kind (spot_at k [])) why ⊎ IsBeginningFault models def model why) (sym same) w))

      from : (why : SchemaFault) → IsEntryFault models n def why → Kinded why ⊎ IsBeginningFault models def model why
      from why f =
          subst (λ (k : ℕ). IsTold (is_wrong_entry def) (fault.Kind (spot_at k [])) why ⊎ IsBeginningFault models def model why) same
          (beginning models def model e named opens why (subst (λ (k : ℕ). IsEntryFault models k def why) (sym same) f))

  pub found-blank : (name : List ℕ) → def.name ≡ Some name → def.inherit ≡ None → Adds (IsBeginningFault models def (blank n name)) b c → Adds (IsEntryFault models n def) a c
  found-blank name e h rest = found-new (blank n name) refl e named (opens-blank models n def name e h) rest
    where
      named : NamesNoModel models def → ⊥
      named (inl t) = none_some name (sym t.0 ∙ e)
      named (inr t) = subst (λ (o : Option (List ℕ)). IsSomeAnd o (λ base. model_of models base ≡ None)) h t

  pub found-copy : (name base : List ℕ) (m : Gathered) → def.name ≡ Some name → def.inherit ≡ Some base → model_of models base ≡ Some m → Adds (IsBeginningFault models def (copied n name m)) b c
      → Adds (IsEntryFault models n def) a c
  found-copy name base m e h there rest = found-new (copied n name m) refl e named (opens-copy models n def name base m e h there) rest
    where
      named : NamesNoModel models def → ⊥
      named (inl t) = none_some name (sym t.0 ∙ e)
      named (inr t) = none_some m (sym (subst (λ (o : Option (List ℕ)). IsSomeAnd o (λ b. model_of models b ≡ None)) h t) ∙ there)

-- what is told of a new model, and of what an entry adds to one
pub found-taken : (models : List Gathered) (def : ModelDef) (model : Gathered) (a b : Option SchemaFault) → is_some (model_of models model.name) ≡ true
    → Adds (IsAt (Some wrong.Twice) (spot_at model.entry [])) a b → Adds (IsBeginningFault models def model) a b
found-taken models def model a b taken adds = Adds-same (λ why. why ≡ fault.Twice (spot_at model.entry [])) (IsBeginningFault models def model) a b (λ why e. inl (taken, e)) from adds
  where
    from : (why : SchemaFault) → IsBeginningFault models def model why → why ≡ fault.Twice (spot_at model.entry [])
    from why (inl w) = w.1
    from why (inr w) = absurd (some_is_no_none (model_of models model.name) taken w.0)

pub found-begun : (models : List Gathered) (def : ModelDef) (model : Gathered) (full : Bool) (a b c : Option SchemaFault) → is_none (model_of models model.name) ≡ true → full ≡ nat_le max_models (length models)
    → Adds (IsAt (then_some full wrong.Limit) (spot_at model.entry [])) a b → Adds (IsAdditionFault model.entry def (begun def model)) b c → Adds (IsBeginningFault models def model) a c
found-begun models def model full a b c free is limit rest =
    Adds-same (λ why. IsTold full (fault.Limit (spot_at model.entry [])) why ⊎ IsAdditionFault model.entry def (begun def model) why) (IsBeginningFault models def model) a c to from
    (Adds-both (IsTold full (fault.Limit (spot_at model.entry []))) (IsAdditionFault model.entry def (begun def model)) a b c (Adds-when full wrong.Limit (spot_at model.entry []) a b limit) rest)
  where
    to : (why : SchemaFault) → IsTold full (fault.Limit (spot_at model.entry [])) why ⊎ IsAdditionFault model.entry def (begun def model) why → IsBeginningFault models def model why
    to why (inl w) = inr (free, inl (grind (arith, nat_tests, w.0), w.1))
    to why (inr w) = inr (free, inr w)

    from : (why : SchemaFault) → IsBeginningFault models def model why → IsTold full (fault.Limit (spot_at model.entry [])) why ⊎ IsAdditionFault model.entry def (begun def model) why
    from why (inl w) = absurd (some_is_no_none (model_of models model.name) w.0 free)
    from why (inr (free, inl w)) = inl (grind (arith, nat_tests, w.0), w.1)
    from why (inr (free, inr w)) = inr w

pub found-added : (n : ℕ) (def : ModelDef) (model : Gathered) (many : Bool) (a b c d : Option SchemaFault) → many ≡ nat_lt max_checks (length (with_checks n model.checks def.checks))
    → Adds (IsFieldTwiceFault n model.fields def.fields) a b → Adds (IsCheckTwiceFault n model.checks def.checks) b c → Adds (IsAt (then_some many wrong.Limit) (spot_at n [])) c d → Adds (IsAdditionFault n def model) a d
found-added n def model many a b c d is fields checks limit =
    Adds-same (λ why. IsFieldTwiceFault n model.fields def.fields why ⊎ (IsCheckTwiceFault n model.checks def.checks why ⊎ IsTold many (fault.Limit (spot_at n [])) why)) (IsAdditionFault n def model) a d to from
    (Adds-both (IsFieldTwiceFault n model.fields def.fields) (λ why. IsCheckTwiceFault n model.checks def.checks why ⊎ IsTold many (fault.Limit (spot_at n [])) why) a b d fields
    (Adds-both (IsCheckTwiceFault n model.checks def.checks) (IsTold many (fault.Limit (spot_at n []))) b c d checks (Adds-when many wrong.Limit (spot_at n []) c d limit)))
  where
    to : (why : SchemaFault) → IsFieldTwiceFault n model.fields def.fields why ⊎ (IsCheckTwiceFault n model.checks def.checks why ⊎ IsTold many (fault.Limit (spot_at n [])) why) → IsAdditionFault n def model why
    to why (inl w) = inl w
    to why (inr (inl w)) = inr (inl w)
    to why (inr (inr w)) = inr (inr (grind (arith, nat_tests, w.0), w.1))

    from : (why : SchemaFault) → IsAdditionFault n def model why → IsFieldTwiceFault n model.fields def.fields why ⊎ (IsCheckTwiceFault n model.checks def.checks why ⊎ IsTold many (fault.Limit (spot_at n [])) why)
    from why (inl w) = inl w
    from why (inr (inl w)) = inr (inl w)
    from why (inr (inr w)) = inr (inr (grind (arith, nat_tests, w.0), w.1))

pub found-no_extension : (models : List Gathered) (n : ℕ) (def : ModelDef) (base : List ℕ) (a b : Option SchemaFault) → model_of models base ≡ None → Adds (IsAt (Some wrong.Model) (spot_at n [])) a b
    → Adds (IsExtensionFault models n def base) a b
found-no_extension models n def base a b none adds = Adds-same (λ why. why ≡ fault.Model (spot_at n [])) (IsExtensionFault models n def base) a b (λ why e. inl (none, e)) from adds
  where
    from : (why : SchemaFault) → IsExtensionFault models n def base why → why ≡ fault.Model (spot_at n [])
    from why (inl w) = w.1
    from why (inr w) = absurd (subst (λ (o : Option Gathered). IsSomeAnd o (λ model. IsAdditionFault n def model why)) none w)

pub found-extension : (models : List Gathered) (n : ℕ) (def : ModelDef) (base : List ℕ) (m : Gathered) (a b : Option SchemaFault) → model_of models base ≡ Some m → Adds (IsAdditionFault n def m) a b
    → Adds (IsExtensionFault models n def base) a b
found-extension models n def base m a b there adds = Adds-same (IsAdditionFault n def m) (IsExtensionFault models n def base) a b to from adds
  where
    to : (why : SchemaFault) → IsAdditionFault n def m why → IsExtensionFault models n def base why
    to why w = inr (subst (λ (o : Option Gathered). IsSomeAnd o (λ model. IsAdditionFault n def model why)) (sym there) w)

    from : (why : SchemaFault) → IsExtensionFault models n def base why → IsAdditionFault n def m why
    from why (inl w) = absurd (none_some m (sym w.0 ∙ there))
    from why (inr w) = subst (λ (o : Option Gathered). IsSomeAnd o (λ model. IsAdditionFault n def model why)) there w

-- the same by what the program passes
pub found-added-by : (n : ℕ) (def : ModelDef) (model : Gathered) (fields : List Declared) (checks : List DeclaredCheck) (defs : List FieldDef) (given : List Check) (size : ℕ) (a b c d : Option SchemaFault)
    → fields ≡ model.fields → checks ≡ model.checks → defs ≡ def.fields → given ≡ def.checks → size ≡ length (with_checks n checks given)
    → Adds (IsFieldTwiceFault n fields defs) a b → Adds (IsCheckTwiceFault n checks given) b c → Adds (IsAt (then_some (nat_lt max_checks size) wrong.Limit) (spot_at n [])) c d → Adds (IsAdditionFault n def model) a d
found-added-by n def model fields checks defs given size a b c d ef ec ed eg es f k l =
    let first : Adds (IsFieldTwiceFault n model.fields def.fields) a b =
    subst (λ (ds : List FieldDef). Adds (IsFieldTwiceFault n model.fields ds) a b) ed (subst (λ (fs : List Declared). Adds (IsFieldTwiceFault n fs defs) a b) ef f) in
    let second : Adds (IsCheckTwiceFault n model.checks def.checks) b c =
    subst (λ (gs : List Check). Adds (IsCheckTwiceFault n model.checks gs) b c) eg (subst (λ (cs : List DeclaredCheck). Adds (IsCheckTwiceFault n cs given) b c) ec k) in
    let sized : size ≡ length (with_checks n model.checks def.checks) = es ∙ ap (λ (cs : List DeclaredCheck). length (with_checks n cs given)) ec ∙ ap (λ (gs : List Check). length (with_checks n model.checks gs)) eg in
    found-added n def model (nat_lt max_checks size) a b c d (ap (nat_lt max_checks) sized) first second l

pub no_some : {X : Type 0} (o : Option X) → is_some o ≡ false → o ≡ None
no_some None e = refl
no_some (Some x) e = absurd (let s : ◌≡◌ {A = Bool} true false = e in cc)

-- the models with a new one, whose name is taken or free
pub opened-taken : (models : List Gathered) (def : ModelDef) (model : Gathered) (n : ℕ) → is_some (model_of models model.name) ≡ true → with_opened n def (begun_new models def model) models ≡ models
opened-taken models def model n taken = ap (λ (b : Bool). with_opened n def (cond b None (Some (begun def model))) models) taken

pub opened-free : (models : List Gathered) (def : ModelDef) (model : Gathered) (n : ℕ) → is_some (model_of models model.name) ≡ false
    → with_opened n def (begun_new models def model) models ≡ models ++ added n def (begun def model) ∷ []
opened-free models def model n free =
    ap (λ (b : Bool). with_opened n def (cond b None (Some (begun def model))) models) free ∙ put-new (added n def (begun def model)) models (no_some (model_of models model.name) free)

-- whether a name is taken, by what the program holds of it and finds
pub is_taken-by : (models : List Gathered) (name held : List ℕ) (place : Option ℕ) (test : Bool) → held ≡ name → place ≡ place_of models held → test ≡ is_some place → test ≡ is_some (model_of models name)
is_taken-by models name held place test own at tests = tests ∙ ap (λ (o : Option ℕ). is_some o) (at ∙ ap (place_of models) own) ∙ is_some-place models name
