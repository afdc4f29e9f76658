-- The faults of a model's keys, from what is told of each.
use Rattle.std.proofs.Common.{◌≡◌, ◌≢◌, ◌⊎◌, ℕ, ◌+◌, ◌<◌, ◌≤◌, List, [], ◌∷◌, ◌++◌, length, take, get_or, Option, Some, None, sym, ap, subst, ◌∙◌, arith}
use Rattle.std.specs.Bool.{then_some}
use Rattle.std.specs.Prelude.{All, Any, Contains, IsPermutation, IsSomeAnd}
use Rattle.ob_base.specs.Limits.{max_fields}
use Rattle.ob_base.specs.declared.id.ModelNo.{ModelNo}
use Rattle.ob_definition.specs.declared.fault.SchemaFault.{SchemaFault}
use Rattle.ob_definition.specs.declared.gathering.UniqueSet.{UniqueSet}
use Rattle.ob_definition.specs.declared.wrong.Wrong.{Wrong}
use Rattle.ob_definition.specs.declared.wrong.Wrong.TheVariants as wrong
use Rattle.ob_definition.specs.ByName.{sets_of}
use Rattle.ob_definition.specs.Findings.{Adds, IsAt, IsFaultAt, Tells}
use Rattle.ob_definition.specs.Gathered.{DeclaredOrder, DeclaredSet, Gathered, set_at}
use Rattle.ob_definition.specs.Members.{Member, members_of, named}
use Rattle.ob_definition.specs.Rooms.{spot_at}
use Rattle.ob_definition.proofs.CallerLemmas.{Adds-both, Adds-more, Adds-none, Adds-same, Adds-tells, Adds-when, IsTold, next_front}
use Rattle.std.proofs.Math.Dec.{ltb}
use Rattle.std.proofs.lemmas.Bool.{lt-ltb, ltb-true}
use Rattle.std.proofs.lemmas.List.{map-append}
use Rattle.std.proofs.lemmas.List.Elements.{All-contains}
use Rattle.std.proofs.lemmas.List.Sorted.{Contains-permutation, IsPermutation-sym, length_permutation}
use Rattle.ob_definition.specs.declared.fault.SchemaFault.TheVariants as fault
use Rattle.ob_registry.specs.declared.model.Model.{Model as KeptModel}
use Rattle.ob_registry.specs.ModelFields.{named_in}
use Rattle.ob_registry.specs.Modelling.{IsModelled}
use Rattle.ob_registry.proofs.NameTests.{order_wrong_on, set_wrong_on}
use Rattle.ob_registry.proofs.NamedFields.{named_count, named_modelled}
use Rattle.ob_registry.specs.Telling.{AreSetFaults, IsCountFault, IsKeyFault, IsOrderFault, IsOrderWrong, IsParentFault, IsParentWrong, IsSetWrong}
use Rattle.ob_schema.proofs.CallerLemmas.{known_at, known_by, known_on}

-- a parent field, or none
pub parent_told : (models : List Gathered) (number : ModelNo) (g : Gathered) (entry : ℕ) (name : List ℕ) (told : Option Wrong) (a b : Option SchemaFault) → g.parent ≡ Some name → entry ≡ g.entry
    → Tells (IsParentWrong models number (named (members_of models g) name)) told → Adds (IsAt told (spot_at entry [])) a b → Adds (IsParentFault models number g) a b
parent_told models number g entry name told a b given same tells adds =
    let IsOf : SchemaFault → List ℕ → Type 0 = λ why name. IsFaultAt (spot_at g.entry []) (IsParentWrong models number (named (members_of models g) name)) why in
    Adds-same (λ why. IsOf why name) (IsParentFault models number g) a b (λ why is. known_by g.parent (IsOf why) name given is) (λ why is. known_at g.parent (IsOf why) name given is)
    (Adds-tells (IsParentWrong models number (named (members_of models g) name)) told (spot_at g.entry []) a b tells (subst (λ (n : ℕ). Adds (IsAt told (spot_at n [])) a b) same adds))

pub no_parent_told : (models : List Gathered) (number : ModelNo) (g : Gathered) (a : Option SchemaFault) → g.parent ≡ None → Adds (IsParentFault models number g) a a
no_parent_told models number g a none =
    Adds-none (IsParentFault models number g) a
    (λ why is. subst (λ (o : Option (List ℕ)). IsSomeAnd o (λ name. IsFaultAt (spot_at g.entry []) (IsParentWrong models number (named (members_of models g) name)) why)) none is)

-- an order, or none
pub order_told : (members : List Member) (order : Option DeclaredOrder) (o : DeclaredOrder) (told : Option Wrong) (a b : Option SchemaFault) → order ≡ Some o → Tells (IsOrderWrong members o.text) told
    → Adds (IsAt told (spot_at o.entry [])) a b → Adds (IsOrderFault members order) a b
order_told members order o told a b given tells adds =
    let IsOf : SchemaFault → DeclaredOrder → Type 0 = λ why o. IsFaultAt (spot_at o.entry []) (IsOrderWrong members o.text) why in
    Adds-same (λ why. IsOf why o) (IsOrderFault members order) a b (λ why is. known_by order (IsOf why) o given is) (λ why is. known_at order (IsOf why) o given is)
    (Adds-tells (IsOrderWrong members o.text) told (spot_at o.entry []) a b tells adds)

pub no_order_told : (members : List Member) (order : Option DeclaredOrder) (a : Option SchemaFault) → order ≡ None → Adds (IsOrderFault members order) a a
no_order_told members order a none =
    Adds-none (IsOrderFault members order) a (λ why is. subst (λ (o : Option DeclaredOrder). IsSomeAnd o (λ o. IsFaultAt (spot_at o.entry []) (IsOrderWrong members o.text) why)) none is)

-- unique sets, one after another
pub no_sets_told : (members : List Member) (a : Option SchemaFault) → Adds (AreSetFaults members []) a a
no_sets_told members a = Adds-none (AreSetFaults members []) a (λ why is. absurd (omega (arith, is.2)))

pub set_told : (members : List Member) (items : List UniqueSet) (i : ℕ) (u : UniqueSet) (told : Option Wrong) (a b c : Option SchemaFault) → i < length items → u ≡ get_or items i u → Adds (AreSetFaults members (sets_of (take i items))) a b
    → Tells (IsSetWrong members u.names.now) told → Adds (IsAt told (spot_at u.entry [])) b c → Adds (AreSetFaults members (sets_of (take (i + 1) items))) a c
set_told members items i u told a b c within is before tells adds =
    let IsOf : DeclaredSet → SchemaFault → Type 0 = λ u why. IsFaultAt (spot_at u.entry []) (IsSetWrong members u.names) why in
    let set : DeclaredSet = set_at u.entry u.names.now in
    let front : sets_of (take i items) ++ set ∷ [] ≡ sets_of (take (i + 1) items) =
    sym (map-append (λ u. set_at u.entry u.names.now) (take i items) (u ∷ [])) ∙ ap sets_of (next_front items i u within is) in
    subst (λ (sets : List DeclaredSet). Adds (AreSetFaults members sets) a c) front
    (Adds-more IsOf (sets_of (take i items)) set a b c before (Adds-tells (IsSetWrong members u.names.now) told (spot_at u.entry []) b c tells adds))

-- one of a list
pub any_member : {X : Type 0} (P : X → Type 0) (xs : List X) → Any P xs → (x : X) × Contains xs x × P x
any_member P xs (k, x, within, is, p) = (x, (k, within, is), p)

pub member_any : {X : Type 0} (P : X → Type 0) (xs : List X) (x : X) → Contains xs x → P x → Any P xs
member_any P xs x (k, within, is) p = (k, x, within, is, p)

pub any_weaker : {X : Type 0} (P Q : X → Type 0) → ((x : X) → P x → Q x) → (xs : List X) → Any P xs → Any Q xs
any_weaker P Q on xs (k, x, within, is, p) = (k, x, within, is, on x p)

-- the last entry that gives fields, where their order is another
module _ (members sorted : List Member) (moved : IsPermutation members sorted) where
  back_moved : IsPermutation sorted members
  back_moved = IsPermutation-sym members sorted moved

  last_there : (n : ℕ) → Any (λ m. m.entry ≡ n) sorted → Any (λ m. m.entry ≡ n) members
  last_there n there = let m = any_member (λ m. m.entry ≡ n) sorted there in member_any (λ m. m.entry ≡ n) members m.0 (Contains-permutation sorted members m.0 back_moved m.1) m.2

  last_above : (n : ℕ) → All (λ m. m.entry ≤ n) sorted → (m : Member) → Contains members m → m.entry ≤ n
  last_above n above m among = All-contains (λ m. m.entry ≤ n) sorted m above (Contains-permutation members sorted m moved among)

  last_same : (n last : ℕ) → Any (λ m. m.entry ≡ n) members → ((m : Member) → Contains members m → m.entry ≤ n) → All (λ m. m.entry ≤ last) sorted → Any (λ m. m.entry ≡ last) sorted → n ≡ last
  last_same n last any above none_over there =
      let m = any_member (λ m. m.entry ≡ n) members any in
      let k = any_member (λ m. m.entry ≡ last) members (last_there last there) in
      let low : m.0.entry ≤ last = last_above last none_over m.0 m.1 in
      let high : k.0.entry ≤ n = above k.0 k.1 in
      omega (arith, m.2, k.2, low, high)

some_items : {X : Type 0} (xs : List X) → 0 < length xs → xs ≢ []
some_items [] some e = absurd (omega (arith, some))
some_items (x ∷ xs) some e = let same : ◌≡◌ {A = List _} (x ∷ xs) [] = e in absurd (cc)

-- the number of fields, by the program's test
module _ (models : List Gathered) (g : Gathered) (model : KeptModel) (is : IsModelled models g model) (last : ℕ) (above : All (λ m. m.entry ≤ last) (named_in model.named model.members.items))
    (there : named_in model.named model.members.items ≢ [] → Any (λ m. m.entry ≡ last) (named_in model.named model.members.items)) where
  there_where : max_fields < length (members_of models g) → Any (λ m. m.entry ≡ last) (named_in model.named model.members.items)
  there_where many = there (some_items (named_in model.named model.members.items) (omega (arith, length_permutation (members_of models g) (named_in model.named model.members.items) is.named, many)))

  count_to : (why : SchemaFault) → IsTold (ltb max_fields model.named) (fault.Limit (spot_at last [])) why → IsCountFault (members_of models g) why
  count_to why told =
      let many : max_fields < length (members_of models g) = omega (arith, ltb-true max_fields model.named told.0, named_count models g model is) in
      (last, (many, last_there (members_of models g) (named_in model.named model.members.items) is.named last (there_where many), last_above (members_of models g) (named_in model.named model.members.items) is.named last above), told.1)

  count_from : (why : SchemaFault) → IsCountFault (members_of models g) why → IsTold (ltb max_fields model.named) (fault.Limit (spot_at last [])) why
  count_from why (n, (many, any, over), e) =
      let same : n ≡ last = last_same (members_of models g) (named_in model.named model.members.items) is.named n last any over above (there_where many) in
      (lt-ltb max_fields model.named (omega (arith, many, named_count models g model is)), e ∙ ap (λ (k : ℕ). fault.Limit (spot_at k [])) same)

  pub count_told : (told : Option Wrong) (a b : Option SchemaFault) → told ≡ then_some (ltb max_fields model.named) wrong.Limit → Adds (IsAt told (spot_at last [])) a b → Adds (IsCountFault (members_of models g)) a b
  count_told told a b e adds =
      Adds-same (IsTold (ltb max_fields model.named) (fault.Limit (spot_at last []))) (IsCountFault (members_of models g)) a b count_to count_from
      (Adds-when (ltb max_fields model.named) wrong.Limit (spot_at last []) a b (subst (λ (o : Option Wrong). Adds (IsAt o (spot_at last [])) a b) e adds))

-- sets and an order of members among which the same names find the same
sets_on : (these those : List Member) → ((name : List ℕ) → named these name ≡ named those name) → (sets : List DeclaredSet) (why : SchemaFault) → AreSetFaults these sets why → AreSetFaults those sets why
sets_on these those same sets why is =
    any_weaker (λ u. IsFaultAt (spot_at u.entry []) (IsSetWrong these u.names) why) (λ u. IsFaultAt (spot_at u.entry []) (IsSetWrong those u.names) why)
    (λ u at. (at.0, set_wrong_on these those same u.names at.0 at.1, at.2)) sets is

order_on : (these those : List Member) → ((name : List ℕ) → named these name ≡ named those name) → (order : Option DeclaredOrder) (why : SchemaFault) → IsOrderFault these order why → IsOrderFault those order why
order_on these those same order why is =
    known_on order (λ o. IsFaultAt (spot_at o.entry []) (IsOrderWrong these o.text) why) (λ o. IsFaultAt (spot_at o.entry []) (IsOrderWrong those o.text) why)
    (λ o _ at. (at.0, order_wrong_on these those same o.text at.0 at.1, at.2)) is

-- all faults of a model's keys
module _ (models : List Gathered) (number : ModelNo) (g : Gathered) (model : KeptModel) (is : IsModelled models g model) where
  abbrev pub front : List Member
  front = named_in model.named model.members.items

  same : (name : List ℕ) → named front name ≡ named (members_of models g) name
  same name = named_modelled models g model is name

  sets_of_model : (c d : Option SchemaFault) → Adds (AreSetFaults front model.gathered.now.unique) c d → Adds (AreSetFaults (members_of models g) g.unique) c d
  sets_of_model c d adds =
      Adds-same (AreSetFaults front g.unique) (AreSetFaults (members_of models g) g.unique) c d (sets_on front (members_of models g) same g.unique)
      (sets_on (members_of models g) front (λ name. sym (same name)) g.unique) (subst (λ (m : Gathered). Adds (AreSetFaults front m.unique) c d) is.gathered adds)

  order_of_model : (d e : Option SchemaFault) → Adds (IsOrderFault front model.gathered.now.order) d e → Adds (IsOrderFault (members_of models g) g.order) d e
  order_of_model d e adds =
      Adds-same (IsOrderFault front g.order) (IsOrderFault (members_of models g) g.order) d e (order_on front (members_of models g) same g.order)
      (order_on (members_of models g) front (λ name. sym (same name)) g.order) (subst (λ (m : Gathered). Adds (IsOrderFault front m.order) d e) is.gathered adds)

  pub model_told : (a b c d e : Option SchemaFault) → Adds (IsCountFault (members_of models g)) a b → Adds (IsParentFault models number g) b c → Adds (AreSetFaults front model.gathered.now.unique) c d
      → Adds (IsOrderFault front model.gathered.now.order) d e → Adds (IsKeyFault models number g) a e
  model_told a b c d e count parent sets order =
      Adds-both (IsCountFault (members_of models g)) (λ why. IsParentFault models number g why ⊎ (AreSetFaults (members_of models g) g.unique why ⊎ IsOrderFault (members_of models g) g.order why)) a b e count
      (Adds-both (IsParentFault models number g) (λ why. AreSetFaults (members_of models g) g.unique why ⊎ IsOrderFault (members_of models g) g.order why) b c e parent
      (Adds-both (AreSetFaults (members_of models g) g.unique) (IsOrderFault (members_of models g) g.order) c d e (sets_of_model c d sets) (order_of_model d e order)))
