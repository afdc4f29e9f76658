-- The formulas of all fields, and what is found of them, model by model and field by field.
use Rattle.std.proofs.Common.{◌≡◌, ◌⊎◌, inl, inr, ℕ, zero, suc, ◌+◌, ◌<◌, ◌≤◌, List, [], ◌∷◌, ◌++◌, length, length-append, get_or, take, Option, Some, None, option_map, refl, sym, ap, subst, ◌∙◌, arith}
use Rattle.std.specs.Prelude.{Any, Contains, IsPermutation, IsSome, IsSomeAnd, Vec, is_some, option_and_then, slice_get}
use Rattle.std.specs.List.{AllZip}
use Rattle.std.specs.declared.alloc.Global.{Global}
use Rattle.std.proofs.lemmas.Bool.{cases_lt}
use Rattle.std.proofs.lemmas.List.{map-append, take-append-drop}
use Rattle.std.proofs.lemmas.Option.{option_and_then_some, slice_get-map, slice_get_within}
use Rattle.ob_base.specs.declared.id.ModelNo.{ModelNo}
use Rattle.ob_definition.specs.declared.fault.SchemaFault.{SchemaFault}
use Rattle.ob_definition.specs.Findings.{Adds}
use Rattle.ob_definition.specs.Gathered.{Gathered}
use Rattle.ob_definition.specs.Members.{Member, hidden_members, members_of, model_at}
use Rattle.ob_definition.proofs.CallerLemmas.{Adds-both, Adds-none, Adds-same, next_front, zip_length}
use Rattle.ob_registry.specs.declared.formulas.DraftFormula.{DraftFormula}
use Rattle.ob_schema.specs.declared.info.Step.{Step}
use Rattle.ob_registry.specs.declared.model.Member.{Member as KeptMember}
use Rattle.ob_registry.specs.declared.model.Model.{Model}
use Rattle.ob_schema.specs.Built.{numbered}
use Rattle.ob_registry.specs.Graphs.{AreFormulas, all_steps, formula_in}
use Rattle.ob_registry.specs.ModelFields.{hidden_in, max_numbers, member_of, members_in, named_in}
use Rattle.ob_registry.specs.Modelling.{AreModelled, IsModelled}
use Rattle.ob_schema.specs.Strata.{IsMember}
use Rattle.ob_registry.specs.Telling.{AreFaultsOf, AreFormulaFaults, AreModelFormulas, IsFormulaFault, IsFormulaOf}
use Rattle.std.proofs.lemmas.List.Sorted.{Contains-permutation, IsPermutation-append, IsPermutation-sym}
use Rattle.ob_schema.proofs.CallerLemmas.{Any-is, known_by, value_of}
use Rattle.ob_registry.proofs.AllSteps.{element_at, member-step}
use Rattle.ob_registry.proofs.ModelPlaces.{zip_some}
use Rattle.ob_registry.proofs.NamedFields.{hidden_moved, is_member_at, member_of_step, member_parts}

-- one field more
pub members_more : (members : List KeptMember) (i : ℕ) (m : KeptMember) → i < length members → m ≡ get_or members i m → members_in (take (i + 1) members) ≡ members_in (take i members) ++ member_of m ∷ []
members_more members i m within is = ap members_in (sym (next_front members i m within is)) ∙ map-append member_of (take i members) (m ∷ [])

-- the model of a number, by its place
at_place : (models : List Gathered) (n : ℕ) (g : Gathered) → model_at models n ≡ Some g → (i : ℕ) × (n ≡ suc i) × (slice_get models i ≡ Some g) × (i < length models)
at_place models zero g e = absurd (let b : ◌≡◌ {A = Option Gathered} None (Some g) = e in cc)
at_place models (suc i) g e = (i, refl, e, slice_get_within models i g e)

pub place_there : (models : List Gathered) (place n : ℕ) → place < length models → n ≡ place + 1 → IsSome (model_at models n)
place_there models place n within is =
    let w = element_at models place within in
    let next : n ≡ suc place = omega arith in
    subst (λ (k : ℕ). IsSome (model_at models k)) (sym next) (ap is_some w.1)

-- a list with one more at its end, by places
pushed : {X : Type 0} (xs : List X) (y : X) (i : ℕ) (x : X) → slice_get (xs ++ y ∷ []) i ≡ Some x → (slice_get xs i ≡ Some x) ⊎ ((i ≡ length xs) × (y ≡ x))
pushed {X} [] y zero x e = inr (refl, (let same : ◌≡◌ {A = Option X} (Some y) (Some x) = e in let s : y ≡ x = cc in s))
pushed {X} [] y (suc i) x e = absurd (let b : ◌≡◌ {A = Option X} None (Some x) = e in cc)
pushed (z ∷ xs) y zero x e = inl e
pushed (z ∷ xs) y (suc i) x e = elim (pushed xs y i x e) [
  | inl before ↦ inl before
  | inr last ↦ inr ((let here : suc i ≡ length (z ∷ xs) = omega (arith, last.0) in here), last.1)
]

-- the formula of a field, by the field's place
formula_of_place : {A B : Type 0} (R : A → B → Type 0) (xs : List A) (ys : List B) → AllZip R xs ys → (i : ℕ) (x : A) → slice_get xs i ≡ Some x → (y : B) × (slice_get ys i ≡ Some y) × R x y
formula_of_place {A} R [] [] all i x e = absurd (let b : ◌≡◌ {A = Option A} None (Some x) = e in cc)
formula_of_place R [] (y ∷ ys) all i x e = absurd all
formula_of_place R (z ∷ xs) [] all i x e = absurd all
formula_of_place {A} R (z ∷ xs) (y ∷ ys) all zero x e = let same : ◌≡◌ {A = Option A} (Some z) (Some x) = e in let s : z ≡ x = cc in (y, refl, subst (λ (v : A). R v y) s all.0)
formula_of_place R (z ∷ xs) (y ∷ ys) all (suc i) x e = formula_of_place R xs ys all.1 i x e

kept_at : (members : List KeptMember) (n : ℕ) (m : Member) → numbered (members_in members) n ≡ Some m → (i : ℕ) × (n ≡ suc i) × (k : KeptMember) × (slice_get members i ≡ Some k) × (member_of k ≡ m)
kept_at members zero m e = absurd (let b : ◌≡◌ {A = Option Member} None (Some m) = e in cc)
kept_at members (suc i) m e = by (slice_get members i) refl (sym (slice_get-map member_of members i) ∙ e)
  where
    by : (o : Option KeptMember) → slice_get members i ≡ o → option_map member_of o ≡ Some m → (j : ℕ) × (suc i ≡ suc j) × (k : KeptMember) × (slice_get members j ≡ Some k) × (member_of k ≡ m)
    by None is f = absurd (let b : ◌≡◌ {A = Option Member} None (Some m) = f in cc)
    by (Some k) is f = let same : ◌≡◌ {A = Option Member} (Some (member_of k)) (Some m) = f in (i, refl, k, is, (let s : member_of k ≡ m = cc in s))

module _ (models : List Gathered) where
  formula_at : (number : ModelNo) (members : List KeptMember) (own : List (Option DraftFormula)) (n : ℕ) (m : Member)
      → AllZip (λ k formula. IsFormulaOf (record { models = models; number = number; member = member_of k }) formula) members own → numbered (members_in members) n ≡ Some m
      → (formula : Option DraftFormula) × (numbered own n ≡ Some formula) × IsFormulaOf (record { models = models; number = number; member = m }) formula
  formula_at number members own n m zip e =
      let k = kept_at members n m e in
      let f = formula_of_place (λ k formula. IsFormulaOf (record { models = models; number = number; member = member_of k }) formula) members own zip k.0 k.2 k.3 in
      (f.0, ap (numbered own) k.1 ∙ f.1, subst (λ (x : Member). IsFormulaOf (record { models = models; number = number; member = x }) f.0) k.4 f.2)

  -- a formula's place is a field's
  field_of : (g : Gathered) (model : Model) → IsModelled models g model → (step : Step) (own : List (Option DraftFormula)) (found : Option DraftFormula)
      → AllZip (λ k formula. IsFormulaOf (record { models = models; number = step.model; member = member_of k }) formula) model.members.items own → model_at models step.model.0 ≡ Some g → numbered own step.field.0 ≡ Some found
      → Contains (all_steps models) step
  field_of g model is step own found zip there e =
      let w = kept_of model.members.items own step.field.0 found zip e in
      member-step models step g w.0 (is_member_at models g model is step w.0 there w.1)
    where
      kept_of : (members : List KeptMember) (own : List (Option DraftFormula)) (n : ℕ) (found : Option DraftFormula)
          → AllZip (λ k formula. IsFormulaOf (record { models = models; number = step.model; member = member_of k }) formula) members own → numbered own n ≡ Some found → (m : Member) × (numbered (members_in members) n ≡ Some m)
      kept_of members own zero found zip e = absurd (let b : ◌≡◌ {A = Option (Option DraftFormula)} None (Some found) = e in cc)
      kept_of members own (suc i) found zip e =
          let k = value_of (slice_get members i) (λ k. IsFormulaOf (record { models = models; number = step.model; member = member_of k }) found)
          (zip_some (λ k formula. IsFormulaOf (record { models = models; number = step.model; member = member_of k }) formula) members own zip i found e) in
          (member_of k.0, slice_get-map member_of members i ∙ ap (option_map member_of) k.1)

  -- the faults of the first so many models
  abbrev pub AreBelow : ℕ → SchemaFault → Type 0
  AreBelow n why = (number : ModelNo) × (g : Gathered) × (number.0 ≤ n) × (model_at models number.0 ≡ Some g) × AreFaultsOf models number (members_of models g ++ hidden_members g) why

  pub faults_none : (a : Option SchemaFault) → Adds (AreBelow 0) a a
  faults_none a = Adds-none (AreBelow 0) a (λ why f. let w = at_place models f.0.0 f.1 f.3 in let low : f.0.0 ≤ 0 = f.2 in omega (arith, w.1))

  pub faults_more : (n k : ℕ) (a b c : Option SchemaFault) → k ≡ n + 1 → Adds (AreBelow n) a b
      → IsSomeAnd (model_at models k) (λ g. Adds (AreFaultsOf models (record { 0 = k }) (members_of models g ++ hidden_members g)) b c) → Adds (AreBelow (n + 1)) a c
  faults_more n k a b c is before now = Adds-same (λ why. AreBelow n why ⊎ Now why) (AreBelow (n + 1)) a c to from (Adds-both (AreBelow n) Now a b c before w.2)
    where
      w : (g : Gathered) × (model_at models k ≡ Some g) × Adds (AreFaultsOf models (record { 0 = k }) (members_of models g ++ hidden_members g)) b c
      w = value_of (model_at models k) (λ g. Adds (AreFaultsOf models (record { 0 = k }) (members_of models g ++ hidden_members g)) b c) now

      Now : SchemaFault → Type 0
      Now = AreFaultsOf models (record { 0 = k }) (members_of models w.0 ++ hidden_members w.0)

      to : (why : SchemaFault) → AreBelow n why ⊎ Now why → AreBelow (n + 1) why
      to why (inl (number, g, low, at, any)) = (number, g, omega arith, at, any)
      to why (inr any) = (record { 0 = k }, w.0, omega arith, w.1, any)

      from : (why : SchemaFault) → AreBelow (n + 1) why → AreBelow n why ⊎ Now why
      from why (number, g, low, at, any) = elim (cases_lt n number.0) [
        | inl above ↦
            (let this : number.0 ≡ k = omega arith in
            let e : ◌≡◌ {A = Option Gathered} (Some g) (Some w.0) = sym at ∙ ap (model_at models) this ∙ w.1 in
            let same : g ≡ w.0 = cc in
            inr (subst (λ (h : Gathered). AreFaultsOf models (record { 0 = k }) (members_of models h ++ hidden_members h) why) same
            (subst (λ (j : ℕ). AreFaultsOf models (record { 0 = j }) (members_of models g ++ hidden_members g) why) this any)))
        | inr below ↦ inl (number, g, below, at, any)
      ]

  pub faults_all : (n : ℕ) (a b : Option SchemaFault) → length models ≤ n → Adds (AreBelow n) a b → Adds (AreFormulaFaults models) a b
  faults_all n a b enough adds =
      Adds-same (AreBelow n) (AreFormulaFaults models) a b (λ why f. (f.0, f.1, f.3, f.4)) (λ why f. let w = at_place models f.0.0 f.1 f.2 in (f.0, f.1, omega (arith, w.1, w.3, enough), f.2, f.3)) adds

  -- the formulas of the first so many models
  abbrev pub AreUpto : ℕ → List (Vec (Option DraftFormula) Global) → Type 0
  AreUpto n formulas =
      (length formulas ≡ n) × ((i : ℕ) (own : Vec (Option DraftFormula) Global) → slice_get formulas i ≡ Some own → IsSomeAnd (slice_get models i) (λ g. AreModelFormulas models (record { 0 = suc i }) g own.items))

  pub formulas_none : AreUpto 0 []
  formulas_none = (refl, λ i own e. absurd (let b : ◌≡◌ {A = Option (Vec (Option DraftFormula) Global)} None (Some own) = e in cc))

  pub formulas_more : (n k : ℕ) (formulas : List (Vec (Option DraftFormula) Global)) (own : Vec (Option DraftFormula) Global) → k ≡ n + 1 → AreUpto n formulas
      → IsSomeAnd (model_at models k) (λ g. AreModelFormulas models (record { 0 = k }) g own.items) → AreUpto (n + 1) (formulas ++ own ∷ [])
  formulas_more n k formulas own is upto now = (omega (arith, upto.0, length-append formulas (own ∷ [])), each)
    where
      each : (i : ℕ) (o : Vec (Option DraftFormula) Global) → slice_get (formulas ++ own ∷ []) i ≡ Some o → IsSomeAnd (slice_get models i) (λ g. AreModelFormulas models (record { 0 = suc i }) g o.items)
      each i o e = elim (pushed formulas own i o e) [
        | inl before ↦ upto.1 i o before
        | inr last ↦
            (let this : k ≡ suc i = omega (arith, last.0, upto.0) in
            subst (λ (v : Vec (Option DraftFormula) Global). IsSomeAnd (slice_get models i) (λ g. AreModelFormulas models (record { 0 = suc i }) g v.items)) last.1
            (subst (λ (j : ℕ). IsSomeAnd (model_at models j) (λ g. AreModelFormulas models (record { 0 = j }) g own.items)) this now))
      ]

  module _ (formulas : List (Vec (Option DraftFormula) Global)) (upto : AreUpto (length models) formulas) where
    abbrev own_field : Step → Vec (Option DraftFormula) Global → Option (Option DraftFormula)
    own_field step own = numbered own.items step.field.0

    -- the field of a step has its formula there
    there : (step : Step) (g : Gathered) (m : Member) → IsMember models step g m → IsSomeAnd (formula_in formulas step) (IsFormulaOf (record { models = models; number = step.model; member = m }))
    there step g m is =
        let at = at_place models step.model.0 g (member_parts models step g m is).0 in
        let own = element_at formulas at.0 (omega (arith, upto.0, at.3)) in
        let w = value_of (slice_get models at.0) (λ h. AreModelFormulas models (record { 0 = suc at.0 }) h own.0.items) (upto.1 at.0 own.0 own.1) in
        let same : w.0 ≡ g = let e : ◌≡◌ {A = Option Gathered} (Some w.0) (Some g) = sym w.1 ∙ at.2 in cc in
        let made = subst (λ (h : Gathered). AreModelFormulas models (record { 0 = suc at.0 }) h own.0.items) same w.2 in
        let made_here = subst (λ (n : ℕ). AreModelFormulas models (record { 0 = n }) g own.0.items) (sym at.1) made in
        let field = formula_at step.model made_here.0.members.items own.0.items step.field.0 m made_here.2 (member_of_step models g made_here.0 made_here.1 step m is) in
        known_by (formula_in formulas step) (IsFormulaOf (record { models = models; number = step.model; member = m })) field.0
        (ap (λ (n : ℕ). option_and_then (own_field step) (numbered formulas n)) at.1 ∙ ap (option_and_then (own_field step)) own.1 ∙ field.1) field.2

    -- and nothing else is there
    formula_place : (n : ℕ) (own : Vec (Option DraftFormula) Global) → numbered formulas n ≡ Some own → (g : Gathered) × (model_at models n ≡ Some g) × AreModelFormulas models (record { 0 = n }) g own.items
    formula_place zero own e = absurd (let b : ◌≡◌ {A = Option (Vec (Option DraftFormula) Global)} None (Some own) = e in cc)
    formula_place (suc i) own e = value_of (slice_get models i) (λ g. AreModelFormulas models (record { 0 = suc i }) g own.items) (upto.1 i own e)

    only_there : (step : Step) (found : Option DraftFormula) → formula_in formulas step ≡ Some found → Contains (all_steps models) step
    only_there step found e =
        option_and_then_some (own_field step) (numbered formulas step.model.0) found e
        (λ own at field. let w = formula_place step.model.0 own at in field_of w.0 w.2.0 w.2.1 step own.items found w.2.2 w.1 field)

    pub formulas_all : AreFormulas models formulas
    formulas_all = record { count = upto.0; each = there; only = only_there }

-- as many models as were gathered
pub as_many : (models gathering : List Gathered) (list : List Model) → AreModelled gathering list → gathering ≡ models → length list ≡ length models
as_many models gathering list are is = zip_length (IsModelled gathering) gathering list are.each ∙ ap length is

pub as_few : (models gathering : List Gathered) (list : List Model) → AreModelled gathering list → gathering ≡ models → length models ≤ max_numbers
as_few models gathering list are is = subst (λ (l : List Gathered). length l ≤ max_numbers) is are.few

-- the same fields in another order
any_moved : {X : Type 0} (P : X → Type 0) (xs ys : List X) → IsPermutation xs ys → Any P xs → Any P ys
any_moved P xs ys moved (k, x, within, is, p) = Any-is P ys x (Contains-permutation xs ys x moved (k, within, is)) p

module _ (models : List Gathered) (number : ModelNo) (model : Model) (modelled : IsSomeAnd (model_at models number.0) (λ g. IsModelled models g model)) where
  known : (g : Gathered) × (model_at models number.0 ≡ Some g) × IsModelled models g model
  known = value_of (model_at models number.0) (λ g. IsModelled models g model) modelled

  -- the formulas of a model are those of its fields
  pub model_made : (own : List (Option DraftFormula)) → AllZip (λ m formula. IsFormulaOf (record { models = models; number = number; member = member_of m }) formula) model.members.items own
      → IsSomeAnd (model_at models number.0) (λ g. AreModelFormulas models number g own)
  model_made own zip = known_by (model_at models number.0) (λ g. AreModelFormulas models number g own) known.0 known.1 (model, known.2, zip)

  moved_all : IsPermutation (members_of models known.0 ++ hidden_members known.0) (members_in model.members.items)
  moved_all =
      subst (λ (l : List Member). IsPermutation (members_of models known.0 ++ hidden_members known.0) l) (take-append-drop model.named (members_in model.members.items))
      (IsPermutation-append (members_of models known.0) (named_in model.named model.members.items) (hidden_members known.0) (hidden_in model.named model.members.items) known.2.named (hidden_moved models known.0 model known.2))

  -- and so are the faults
  pub model_found : (a b : Option SchemaFault) → Adds (AreFaultsOf models number (members_in model.members.items)) a b
      → IsSomeAnd (model_at models number.0) (λ g. Adds (AreFaultsOf models number (members_of models g ++ hidden_members g)) a b)
  model_found a b adds =
      known_by (model_at models number.0) (λ g. Adds (AreFaultsOf models number (members_of models g ++ hidden_members g)) a b) known.0 known.1
      (Adds-same (AreFaultsOf models number (members_in model.members.items)) (AreFaultsOf models number (members_of models known.0 ++ hidden_members known.0)) a b
      (λ why any. any_moved (λ (m : Member). IsFormulaFault (record { models = models; number = number; member = m }) why) (members_in model.members.items) (members_of models known.0 ++ hidden_members known.0)
      (IsPermutation-sym (members_of models known.0 ++ hidden_members known.0) (members_in model.members.items) moved_all) any)
      (λ why any. any_moved (λ (m : Member). IsFormulaFault (record { models = models; number = number; member = m }) why) (members_of models known.0 ++ hidden_members known.0) (members_in model.members.items) moved_all any)
      adds)
