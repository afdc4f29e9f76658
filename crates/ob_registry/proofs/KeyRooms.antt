-- The faults of the keys of a model's fields that aren't delegated, and of all models.
use Rattle.std.proofs.Common.{◌≡◌, ◌⊎◌, inl, inr, ℕ, zero, suc, ◌+◌, ◌<◌, ◌≤◌, Bool, true, false, List, [], ◌∷◌, ◌++◌, length, map, take, get_or, filter, Option, Some, None, is_some, refl, sym, ap, subst, ◌∙◌, arith}
use Rattle.std.specs.Prelude.{slice_get, All, Any, Contains, IsSomeAnd, if◌then◌else◌, ◌&&◌, not, is_none}
use Rattle.std.specs.Option.{option_map_or}
use Rattle.std.proofs.lemmas.Bool.Decides.{nat_tests}
use Rattle.std.proofs.lemmas.List.{map-append, take-append-drop}
use Rattle.std.proofs.lemmas.List.Elements.{All-append, All-contains, All-filter, All-map, All-nil, Contains-append_cases, Contains-append_left, Contains-append_right}
use Rattle.std.proofs.lemmas.List.Sorted.{Contains-permutation, IsPermutation-sym}
use Rattle.std.proofs.lemmas.Option.{slice_get_within}
use Rattle.ob_base.specs.declared.id.ModelNo.{ModelNo}
use Rattle.ob_definition.specs.declared.definition.Inherits.{Inherits}
use Rattle.ob_definition.specs.declared.fault.SchemaFault.{SchemaFault}
use Rattle.ob_definition.specs.Definitions.{is_automatic}
use Rattle.ob_definition.specs.Findings.{Adds}
use Rattle.ob_definition.specs.Gathered.{Gathered, is_declared, model_of}
use Rattle.ob_definition.specs.Members.{Member, automatic_defs, check_member, check_members, delegated_by, delegated_member, delegated_through, given_members, hidden_members, is_delegated, link_def, links_of, locked_members}
use Rattle.ob_definition.specs.Members.{members_of, model_at, named, own_member, own_members, path_def, path_members, path_name}
use Rattle.ob_definition.proofs.CallerLemmas.{Adds-both, Adds-more, Adds-none, Adds-same, next_front}
use Rattle.ob_registry.specs.declared.model.Member.{Member as KeptMember}
use Rattle.ob_registry.specs.declared.model.Model.{Model as KeptModel}
use Rattle.ob_registry.specs.ModelFields.{hidden_in, member_of, members_in, named_in}
use Rattle.ob_registry.specs.Modelling.{IsModelled}
use Rattle.ob_registry.specs.Telling.{AreKeyFaults, AreMemberFaults, IsFieldKeyFault, IsKeyFault}
use Rattle.ob_registry.proofs.ModelRooms.{any_member, member_any}
use Rattle.ob_registry.proofs.NamedFields.{hidden_moved}
use Rattle.ob_registry.proofs.NameTests.{no_both}
use Rattle.ob_schema.proofs.CallerLemmas.{known_at, some_same, value_of}

-- which fields are delegated
path_kept : (g : Gathered) (parent : Option (List ℕ)) → All (λ m. is_delegated m.role ≡ false) (path_members g parent)
path_kept g None = All-nil (λ m. is_delegated m.role ≡ false)
path_kept g (Some parent) = by (is_declared g.fields path_name)
  where
    by : (b : Bool) → All (λ m. is_delegated m.role ≡ false) (if b then [] else own_member g.entry (path_def parent) ∷ [])
    by true = All-nil (λ m. is_delegated m.role ≡ false)
    by false = All-map (λ m. is_delegated m.role ≡ false) (λ p. own_member g.entry (path_def p)) (parent ∷ []) (λ k d within. refl)

pub own_kept : (models : List Gathered) (g : Gathered) → All (λ m. is_delegated m.role ≡ false) (own_members models g)
own_kept models g =
    let Kept : Member → Type 0 = λ m. is_delegated m.role ≡ false in
    All-append Kept (given_members g) (map (λ i. own_member g.entry (link_def i)) (links_of models g))
    (All-append Kept (map (own_member g.entry) automatic_defs ++ map (λ f. own_member f.entry f.def) g.fields) (path_members g g.parent)
    (All-append Kept (map (own_member g.entry) automatic_defs) (map (λ f. own_member f.entry f.def) g.fields)
    (All-map Kept (own_member g.entry) automatic_defs (λ k d within. refl)) (All-map Kept (λ f. own_member f.entry f.def) g.fields (λ k d within. refl))) (path_kept g g.parent))
    (All-map Kept (λ i. own_member g.entry (link_def i)) (links_of models g) (λ k d within. refl))

locked_kept : (g : Gathered) (text : Option (List ℕ)) → All (λ m. is_delegated m.role ≡ false) (locked_members g text)
locked_kept g None = All-nil (λ m. is_delegated m.role ≡ false)
locked_kept g (Some text) = λ k d within. one k d within
  where
    one : (k : ℕ) (d : Member) → k < 1 → is_delegated (get_or (locked_members g (Some text)) k d).role ≡ false
    one zero d within = refl
    one (suc k) d within = absurd (omega (arith, within))

pub hidden_kept : (g : Gathered) → All (λ m. is_delegated m.role ≡ false) (hidden_members g)
hidden_kept g =
    All-append (λ m. is_delegated m.role ≡ false) (check_members g) (locked_members g g.locked) (All-map (λ m. is_delegated m.role ≡ false) check_member g.checks (λ k d within. refl)) (locked_kept g g.locked)

through_delegated : (n : ℕ) (i : Inherits) (parent : Option Gathered) (fields : Gathered → List Member)
    → All (λ m. is_delegated m.role ≡ true) (option_map_or (λ p. map (delegated_member n i) (filter (λ m. not (is_automatic m.def.name)) (fields p))) parent [])
through_delegated n i None fields = All-nil (λ m. is_delegated m.role ≡ true)
through_delegated n i (Some p) fields = All-map (λ m. is_delegated m.role ≡ true) (delegated_member n i) (filter (λ m. not (is_automatic m.def.name)) (fields p)) (λ k d within. refl)

pub delegated_all : (models : List Gathered) (g : Gathered) (links : List Inherits) → All (λ m. is_delegated m.role ≡ true) (delegated_by models g links)
delegated_all models g [] = All-nil (λ m. is_delegated m.role ≡ true)
delegated_all models g (i ∷ later) =
    let Given : Member → Type 0 = λ m. is_delegated m.role ≡ true in
    let test : Member → Bool = λ m. is_none (named (own_members models g) m.def.name) && is_none (named (delegated_by models g later) m.def.name) in
    All-append Given (filter test (delegated_through models g.entry i)) (delegated_by models g later)
    (All-filter test Given (delegated_through models g.entry i) (through_delegated g.entry i (model_of models i.model) (own_members models))) (delegated_all models g later)

-- the faults of those of some fields that aren't delegated
abbrev pub IsKeptFault : List Gathered → ModelNo → Member → SchemaFault → Type 0
IsKeptFault models number m why = (is_delegated m.role ≡ false) × IsFieldKeyFault (record { models = models; number = number; member = m }) why

abbrev pub AreKeptFaults : List Gathered → ModelNo → List Member → SchemaFault → Type 0
AreKeptFaults models number members why = Any (λ m. IsKeptFault models number m why) members

pub none_kept : (models : List Gathered) (number : ModelNo) (a : Option SchemaFault) → Adds (AreKeptFaults models number []) a a
none_kept models number a = Adds-none (AreKeptFaults models number []) a (λ why is. absurd (omega (arith, is.2)))

-- one field more
one_more : (models : List Gathered) (number : ModelNo) (items : List KeptMember) (i : ℕ) (m : KeptMember) (a b c : Option SchemaFault) → i < length items → m ≡ get_or items i m
    → Adds (AreKeptFaults models number (members_in (take i items))) a b → Adds (IsKeptFault models number (member_of m)) b c → Adds (AreKeptFaults models number (members_in (take (i + 1) items))) a c
one_more models number items i m a b c within is before now =
    let grown : members_in (take i items) ++ member_of m ∷ [] ≡ members_in (take (i + 1) items) = sym (map-append member_of (take i items) (m ∷ [])) ∙ ap members_in (next_front items i m within is) in
    subst (λ (members : List Member). Adds (AreKeptFaults models number members) a c) grown (Adds-more (IsKeptFault models number) (members_in (take i items)) (member_of m) a b c before now)

pub kept_more : (models : List Gathered) (number : ModelNo) (items : List KeptMember) (i : ℕ) (m : KeptMember) (a b c : Option SchemaFault) → i < length items → m ≡ get_or items i m
    → Adds (AreKeptFaults models number (members_in (take i items))) a b → is_delegated (member_of m).role ≡ false → Adds (IsFieldKeyFault (record { models = models; number = number; member = member_of m })) b c
    → Adds (AreKeptFaults models number (members_in (take (i + 1) items))) a c
kept_more models number items i m a b c within is before kept now =
    one_more models number items i m a b c within is before
    (Adds-same (IsFieldKeyFault (record { models = models; number = number; member = member_of m })) (IsKeptFault models number (member_of m)) b c (λ why fault. (kept, fault)) (λ why fault. fault.1) now)

pub delegated_more : (models : List Gathered) (number : ModelNo) (items : List KeptMember) (i : ℕ) (m : KeptMember) (a b : Option SchemaFault) → i < length items → m ≡ get_or items i m
    → Adds (AreKeptFaults models number (members_in (take i items))) a b → is_delegated (member_of m).role ≡ true → Adds (AreKeptFaults models number (members_in (take (i + 1) items))) a b
delegated_more models number items i m a b within is before given =
    one_more models number items i m a b b within is before (Adds-none (IsKeptFault models number (member_of m)) b (λ why fault. no_both (is_delegated (member_of m).role) given fault.0))

-- all fields of a model
module _ (models : List Gathered) (number : ModelNo) (g : Gathered) (model : KeptModel) (is : IsModelled models g model) where
  abbrev pub all_fields : List Member
  all_fields = members_in model.members.items

  abbrev pub kept_fields : List Member
  kept_fields = own_members models g ++ hidden_members g

  of_named : (m : Member) → Contains (members_of models g) m → Contains all_fields m
  of_named m among =
      subst (λ (l : List Member). Contains l m) (take-append-drop model.named all_fields)
      (Contains-append_left (named_in model.named model.members.items) (hidden_in model.named model.members.items) m (Contains-permutation (members_of models g) (named_in model.named model.members.items) m is.named among))

  of_hidden : (m : Member) → Contains (hidden_members g) m → Contains all_fields m
  of_hidden m among =
      subst (λ (l : List Member). Contains l m) (take-append-drop model.named all_fields)
      (Contains-append_right (named_in model.named model.members.items) (hidden_in model.named model.members.items) m
      (Contains-permutation (hidden_members g) (hidden_in model.named model.members.items) m (hidden_moved models g model is) among))

  among_kept : (m : Member) → Contains kept_fields m → Contains all_fields m × (is_delegated m.role ≡ false)
  among_kept m among = elim (Contains-append_cases (own_members models g) (hidden_members g) m among) as (λ _. Contains all_fields m × (is_delegated m.role ≡ false)) [
    | inl own ↦ (of_named m (Contains-append_left (own_members models g) (delegated_by models g (links_of models g)) m own), All-contains (λ m. is_delegated m.role ≡ false) (own_members models g) m (own_kept models g) own)
    | inr hidden ↦ (of_hidden m hidden, All-contains (λ m. is_delegated m.role ≡ false) (hidden_members g) m (hidden_kept g) hidden)
  ]

  kept_of_named : (m : Member) → Contains (members_of models g) m → is_delegated m.role ≡ false → Contains kept_fields m
  kept_of_named m among kept = elim (Contains-append_cases (own_members models g) (delegated_by models g (links_of models g)) m among) as (λ _. Contains kept_fields m) [
    | inl own ↦ Contains-append_left (own_members models g) (hidden_members g) m own
    | inr given ↦ absurd (no_both (is_delegated m.role) (All-contains (λ m. is_delegated m.role ≡ true) (delegated_by models g (links_of models g)) m (delegated_all models g (links_of models g)) given) kept)
  ]

  kept_among : (m : Member) → Contains all_fields m → is_delegated m.role ≡ false → Contains kept_fields m
  kept_among m among kept =
      let parts : Contains (named_in model.named model.members.items ++ hidden_in model.named model.members.items) m = subst (λ (l : List Member). Contains l m) (sym (take-append-drop model.named all_fields)) among in
      elim (Contains-append_cases (named_in model.named model.members.items) (hidden_in model.named model.members.items) m parts) as (λ _. Contains kept_fields m) [
        | inl front ↦ kept_of_named m (Contains-permutation (named_in model.named model.members.items) (members_of models g) m (IsPermutation-sym (members_of models g) (named_in model.named model.members.items) is.named) front) kept
        | inr back ↦ Contains-append_right (own_members models g) (hidden_members g) m
            (Contains-permutation (hidden_in model.named model.members.items) (hidden_members g) m (IsPermutation-sym (hidden_members g) (hidden_in model.named model.members.items) (hidden_moved models g model is)) back)
      ]

  to_member : (why : SchemaFault) → AreKeptFaults models number all_fields why → AreMemberFaults models number g why
  to_member why faults =
      let m = any_member (λ m. IsKeptFault models number m why) all_fields faults in
      member_any (λ m. IsFieldKeyFault (record { models = models; number = number; member = m }) why) kept_fields m.0 (kept_among m.0 m.1 m.2.0) m.2.1

  from_member : (why : SchemaFault) → AreMemberFaults models number g why → AreKeptFaults models number all_fields why
  from_member why faults =
      let m = any_member (λ m. IsFieldKeyFault (record { models = models; number = number; member = m }) why) kept_fields faults in
      let there = among_kept m.0 m.1 in
      member_any (λ m. IsKeptFault models number m why) all_fields m.0 there.0 (there.1, m.2)

  pub members_told : (a b : Option SchemaFault) → Adds (AreKeptFaults models number all_fields) a b → Adds (AreMemberFaults models number g) a b
  members_told a b adds = Adds-same (AreKeptFaults models number all_fields) (AreMemberFaults models number g) a b to_member from_member adds

-- all models up to a number
abbrev pub IsFaultOf : List Gathered → ModelNo → Gathered → SchemaFault → Type 0
IsFaultOf models number g why = IsKeyFault models number g why ⊎ AreMemberFaults models number g why

abbrev pub AreFaultsBelow : List Gathered → ℕ → SchemaFault → Type 0
AreFaultsBelow models i why = (number : ModelNo) × (g : Gathered) × (number.0 ≤ i) × (model_at models number.0 ≡ Some g) × IsFaultOf models number g why

no_model : (models : List Gathered) (n : ℕ) (g : Gathered) → n ≤ 0 → model_at models n ≡ Some g → ⊥
no_model models zero g low at = let e : ◌≡◌ {A = Option Gathered} None (Some g) = at in cc
no_model models (suc n) g low at = absurd (omega (arith, low))

pub none_below : (models : List Gathered) (a : Option SchemaFault) → Adds (AreFaultsBelow models 0) a a
none_below models a = Adds-none (AreFaultsBelow models 0) a (λ why is. no_model models is.0.0 is.1 is.2 is.3)

up_to : (n i : ℕ) → n ≤ i + 1 → (n ≤ i) ⊎ (n ≡ i + 1)
up_to n i low = grind (arith, nat_tests, low)

-- the faults of the next model
next_of : (models : List Gathered) (n i : ℕ) (g own : Gathered) (why : SchemaFault) → n ≡ i + 1 → model_at models n ≡ Some own → model_at models (i + 1) ≡ Some g → IsFaultOf models (record { 0 = n }) own why
    → IsFaultOf models (record { 0 = i + 1 }) g why
next_of models n i g own why same at here is =
    let one : own ≡ g = some_same own g (sym at ∙ ap (model_at models) same ∙ here) in
    subst (λ (m : Gathered). IsFaultOf models (record { 0 = i + 1 }) m why) one (subst (λ (k : ℕ). IsFaultOf models (record { 0 = k }) own why) same is)

below_more : (models : List Gathered) (i : ℕ) (g : Gathered) → model_at models (i + 1) ≡ Some g → (a b d : Option SchemaFault) → Adds (AreFaultsBelow models i) a b → Adds (IsFaultOf models (record { 0 = i + 1 }) g) b d
    → Adds (AreFaultsBelow models (i + 1)) a d
below_more models i g here a b d before now =
    Adds-same (λ why. AreFaultsBelow models i why ⊎ IsFaultOf models next g why) (AreFaultsBelow models (i + 1)) a d to from
    (Adds-both (AreFaultsBelow models i) (IsFaultOf models next g) a b d before now)
  where
    next : ModelNo
    next = record { 0 = i + 1 }

    to : (why : SchemaFault) → AreFaultsBelow models i why ⊎ IsFaultOf models next g why → AreFaultsBelow models (i + 1) why
    to why (inl is) = (is.0, is.1, omega (arith, is.2), is.3, is.4)
    to why (inr is) = (next, g, omega arith, here, is)

    from : (why : SchemaFault) → AreFaultsBelow models (i + 1) why → AreFaultsBelow models i why ⊎ IsFaultOf models next g why
    from why is = elim (up_to is.0.0 i is.2) as (λ _. AreFaultsBelow models i why ⊎ IsFaultOf models next g why) [
      | inl low ↦ inl (is.0, is.1, low, is.3, is.4)
      | inr same ↦ inr (next_of models is.0.0 i g is.1 why same is.3 here is.4)
    ]

pub model_more : (models : List Gathered) (i : ℕ) (a b c d : Option SchemaFault) → Adds (AreFaultsBelow models i) a b → IsSomeAnd (model_at models (i + 1)) (λ g. Adds (IsKeyFault models (record { 0 = i + 1 }) g) b c)
    → IsSomeAnd (model_at models (i + 1)) (λ g. Adds (AreMemberFaults models (record { 0 = i + 1 }) g) c d) → Adds (AreFaultsBelow models (i + 1)) a d
model_more models i a b c d before keys members =
    let next : ModelNo = record { 0 = i + 1 } in
    let here = value_of (model_at models (i + 1)) (λ g. Adds (IsKeyFault models next g) b c) keys in
    below_more models i here.0 here.1 a b d before
    (Adds-both (IsKeyFault models next here.0) (AreMemberFaults models next here.0) b c d here.2 (known_at (model_at models (i + 1)) (λ g. Adds (AreMemberFaults models next g) c d) here.0 here.1 members))

-- all models
number_within : (models : List Gathered) (n : ℕ) (g : Gathered) → model_at models n ≡ Some g → n ≤ length models
number_within models zero g at = omega arith
number_within models (suc i) g at = let low = slice_get_within models i g at in omega arith

pub all_below : (models : List Gathered) (count : ℕ) (a b : Option SchemaFault) → length models ≤ count → Adds (AreFaultsBelow models count) a b → Adds (AreKeyFaults models) a b
all_below models count a b enough adds =
    Adds-same (AreFaultsBelow models count) (AreKeyFaults models) a b (λ why is. (is.0, is.1, is.3, is.4))
    (λ why is. (is.0, is.1, (let low = number_within models is.0.0 is.1 is.2 in omega (arith, low, enough)), is.2, is.3)) adds

some_there : {X : Type 0} (xs : List X) (k : ℕ) → k < length xs → is_some (slice_get xs k) ≡ true
some_there [] k within = absurd (omega (arith, within))
some_there (x ∷ xs) zero within = refl
some_there (x ∷ xs) (suc k) within = some_there xs k (omega (arith, within))

-- the model of a place
pub model_there : (models : List Gathered) (i n : ℕ) → i < length models → n ≡ i + 1 → is_some (model_at models n) ≡ true
model_there models i zero within is = absurd (omega (arith, is))
model_there models i (suc k) within is = some_there models k (omega (arith, within, is))
