-- The faults that are told of models' keys are those of the definitions.
use Rattle.std.proofs.Common.{◌≡◌, ◌⊎◌, inl, inr, ℕ, List, [], true, is_none, Option, Some, None, refl, sym, ap, subst}
use Rattle.std.specs.Prelude.{Contains, IsSomeAnd}
use Rattle.ob_base.specs.declared.id.ModelNo.{ModelNo}
use Rattle.ob_definition.specs.declared.definition.ModelDef.{ModelDef}
use Rattle.ob_definition.specs.declared.fault.SchemaFault.{SchemaFault}
use Rattle.ob_definition.specs.declared.fault.SchemaFault.TheVariants as fault
use Rattle.ob_definition.specs.declared.fault.Spot.{Spot}
use Rattle.ob_definition.specs.declared.wrong.Wrong.{Wrong}
use Rattle.ob_definition.specs.declared.wrong.Wrong.TheVariants as wrong
use Rattle.ob_definition.specs.Findings.{IsFaultAt, fault_at}
use Rattle.ob_definition.specs.Gathered.{AreWellNamed, DeclaredOrder, DeclaredSet, Gathered, gathered}
use Rattle.ob_definition.specs.Members.{Member, members_of, model_at, model_number, named}
use Rattle.ob_definition.specs.Rooms.{spot_at}
use Rattle.ob_registry.specs.Faults.{AtModel, HasOrder, HasSet, HasTooManyFields, HasUnknown, HasUnknownParent, HasWrongParent, IsModelFault, IsParentField, IsUnknownOrder, IsWrongOrder, IsWrongSet}
use Rattle.ob_registry.specs.Telling.{AreKeyFaults, AreSetFaults, IsCountFault, IsKeyFault, IsOrderFault, IsOrderWrong, IsParentFault, IsParentWrong, IsSetWrong}
use Rattle.ob_registry.proofs.ModelRank.{model_among, number_of_name, number_there, spot_is}
use Rattle.ob_schema.proofs.CallerLemmas.{known_by, known_on, value_of}

module _ (defs : List ModelDef) where
  abbrev models : List Gathered
  models = gathered defs

  told : (what why : SchemaFault) → why ≡ what → IsModelFault defs what → IsModelFault defs why
  told what why is faulty = subst (λ (y : SchemaFault). IsModelFault defs y) (sym is) faulty

  -- ---- what is told is a fault

  module _ (named_well : AreWellNamed (gathered defs)) (number : ModelNo) (g : Gathered) (known : model_at (gathered defs) number.0 ≡ Some g) where
    abbrev members : List Member
    members = members_of (gathered defs) g

    there : Contains (gathered defs) g
    there = model_among (gathered defs) number.0 g known

    count_fault : (why : SchemaFault) → IsCountFault members why → IsModelFault defs why
    count_fault why (n, many, is) = told (fault.Limit (spot_at n [])) why is (g, there, refl, many)

    parent_wrong : (name : List ℕ) → g.parent ≡ Some name → (w : Wrong) → IsParentWrong models number (named members name) w → IsModelFault defs (fault_at w (spot_at g.entry []))
    parent_wrong name given wrong.Field is =
        let unknown : HasUnknownParent models g = known_by g.parent (λ name. is_none (named members name) ≡ true) name given (ap (λ (o : Option Member). is_none o) is) in
        (g, there, refl, inl (refl, unknown))
    parent_wrong name given wrong.Kind is =
        let number_is : Some number ≡ model_number models g.name = sym (number_of_name models named_well number g known) in
        let other : IsSomeAnd (named members name) (λ m. IsParentField models (model_number models g.name) m → ⊥) =
        subst (λ (o : Option ModelNo). IsSomeAnd (named members name) (λ m. IsParentField models o m → ⊥)) number_is is in
        let refused : HasWrongParent models g = known_by g.parent (λ name. IsSomeAnd (named members name) (λ m. IsParentField models (model_number models g.name) m → ⊥)) name given other in
        (g, there, refl, inl (refl, refused))
    parent_wrong name given _ is = absurd is

    parent_fault : (why : SchemaFault) → IsParentFault models number g why → IsModelFault defs why
    parent_fault why faults =
        let found = value_of g.parent (λ name. IsFaultAt (spot_at g.entry []) (IsParentWrong models number (named members name)) why) faults in
        told (fault_at found.2.0 (spot_at g.entry [])) why found.2.2 (parent_wrong found.0 found.1 found.2.0 found.2.1)

    set_wrong : (u : DeclaredSet) → Contains g.unique u → (w : Wrong) → IsSetWrong members u.names w → IsModelFault defs (fault_at w (spot_at u.entry []))
    set_wrong u (place, within, at) wrong.Field is = let has : HasSet g u.entry (HasUnknown members) = (place, u, within, at, (refl, is)) in (g, there, refl, inr (inl has))
    set_wrong u (place, within, at) wrong.Kind is = let has : HasSet g u.entry (IsWrongSet members) = (place, u, within, at, (refl, is)) in (g, there, refl, inr (inl has))
    set_wrong u place _ is = absurd is

    set_faults : (why : SchemaFault) → AreSetFaults members g.unique why → IsModelFault defs why
    set_faults why (k, u, within, at, (w, is, same)) = told (fault_at w (spot_at u.entry [])) why same (set_wrong u (k, within, at) w is)

    order_wrong : (o : DeclaredOrder) → g.order ≡ Some o → (w : Wrong) → IsOrderWrong members o.text w → IsModelFault defs (fault_at w (spot_at o.entry []))
    order_wrong o given wrong.Field is =
        let has : HasOrder g o.entry (IsUnknownOrder members) = known_by g.order (λ p. (p.entry ≡ o.entry) × IsUnknownOrder members p.text) o given (refl, is) in (g, there, refl, inr (inr has))
    order_wrong o given wrong.Kind is =
        let has : HasOrder g o.entry (IsWrongOrder members) = known_by g.order (λ p. (p.entry ≡ o.entry) × IsWrongOrder members p.text) o given (refl, is) in (g, there, refl, inr (inr has))
    order_wrong o given _ is = absurd is

    order_fault : (why : SchemaFault) → IsOrderFault members g.order why → IsModelFault defs why
    order_fault why faults =
        let found = value_of g.order (λ o. IsFaultAt (spot_at o.entry []) (IsOrderWrong members o.text) why) faults in
        told (fault_at found.2.0 (spot_at found.0.entry [])) why found.2.2 (order_wrong found.0 found.1 found.2.0 found.2.1)

    pub key_faulty : (why : SchemaFault) → IsKeyFault models number g why → IsModelFault defs why
    key_faulty why (inl count) = count_fault why count
    key_faulty why (inr (inl parent)) = parent_fault why parent
    key_faulty why (inr (inr (inl sets))) = set_faults why sets
    key_faulty why (inr (inr (inr order))) = order_fault why order

  -- ---- a fault is told

  key_told : (g : Gathered) → Contains models g → (why : SchemaFault) → ((number : ModelNo) → model_at models number.0 ≡ Some g → IsKeyFault models number g why) → AreKeyFaults models why
  key_told g there why is = let found = number_there models g there in (found.0, g, found.1, inl (is found.0 found.1))

  whole : (g : Gathered) (spot : Spot) → g.entry ≡ spot.entry → spot.field ≡ [] → spot ≡ spot_at g.entry []
  whole g spot entry name = sym (spot_is spot g.entry [] entry (sym name))

  pub count_told : (spot : Spot) → AtModel defs spot (λ g. HasTooManyFields (members_of models g) spot.entry) → AreKeyFaults models (fault.Limit spot)
  count_told spot (g, there, name, many) = key_told g there (fault.Limit spot) (λ number known. inl (spot.entry, many, ap fault.Limit (sym (spot_is spot spot.entry [] refl (sym name)))))

  pub unknown_parent_told : (spot : Spot) → AtModel defs spot (λ g. (g.entry ≡ spot.entry) × HasUnknownParent models g) → AreKeyFaults models (fault.Field spot)
  unknown_parent_told spot (g, there, name, at) = key_told g there (fault.Field spot) (λ number known. inr (inl (
      known_on g.parent (λ n. is_none (named (members_of models g) n) ≡ true) (λ n. IsFaultAt (spot_at g.entry []) (IsParentWrong models number (named (members_of models g) n)) (fault.Field spot))
      (λ n given unknown. (wrong.Field, none_is (named (members_of models g) n) unknown, ap fault.Field (whole g spot at.0 name))) at.1)))
    where
      none_is : (o : Option Member) → is_none o ≡ true → o ≡ None
      none_is None e = refl
      none_is (Some m) e = absurd (cc)

  pub wrong_parent_told : AreWellNamed models → (spot : Spot) → AtModel defs spot (λ g. (g.entry ≡ spot.entry) × HasWrongParent models g) → AreKeyFaults models (fault.Kind spot)
  wrong_parent_told well spot (g, there, name, at) = key_told g there (fault.Kind spot) (λ number known. inr (inl (
      known_on g.parent (λ n. IsSomeAnd (named (members_of models g) n) (λ m. IsParentField models (model_number models g.name) m → ⊥))
      (λ n. IsFaultAt (spot_at g.entry []) (IsParentWrong models number (named (members_of models g) n)) (fault.Kind spot))
      (λ n given refused. (
        wrong.Kind,
        subst (λ (o : Option ModelNo). IsSomeAnd (named (members_of models g) n) (λ m. IsParentField models o m → ⊥)) (number_of_name models well number g known) refused,
        ap fault.Kind (whole g spot at.0 name),
      )) at.1)))

  sets_told : (g : Gathered) (spot : Spot) (w : Wrong) (P : List (List ℕ) → Type 0) → ((names : List (List ℕ)) → P names → IsSetWrong (members_of models g) names w) → Contains models g → spot.field ≡ []
      → HasSet g spot.entry P → AreKeyFaults models (fault_at w spot)
  sets_told g spot w P on there name (k, u, within, at, (entry, is)) = key_told g there (fault_at w spot) (λ number known. inr (inr (inl
      (k, u, within, at, (w, on u.names is, ap (λ (s : Spot). fault_at w s) (sym (spot_is spot u.entry [] entry (sym name))))))))

  order_told : (g : Gathered) (spot : Spot) (w : Wrong) (P : List ℕ → Type 0) → ((text : List ℕ) → P text → IsOrderWrong (members_of models g) text w) → Contains models g → spot.field ≡ []
      → HasOrder g spot.entry P → AreKeyFaults models (fault_at w spot)
  order_told g spot w P on there name has = key_told g there (fault_at w spot) (λ number known. inr (inr (inr (
      known_on g.order (λ o. (o.entry ≡ spot.entry) × P o.text) (λ o. IsFaultAt (spot_at o.entry []) (IsOrderWrong (members_of models g) o.text) (fault_at w spot))
      (λ o given is. (w, on o.text is.1, ap (λ (s : Spot). fault_at w s) (sym (spot_is spot o.entry [] is.0 (sym name))))) has))))

  pub field_told : (spot : Spot) → (g : Gathered) → Contains models g → spot.field ≡ []
      → ((g.entry ≡ spot.entry) × HasUnknownParent models g) ⊎ HasSet g spot.entry (HasUnknown (members_of models g)) ⊎ HasOrder g spot.entry (IsUnknownOrder (members_of models g)) → AreKeyFaults models (fault.Field spot)
  field_told spot g there name (inl parent) = unknown_parent_told spot (g, there, name, parent)
  field_told spot g there name (inr (inl set)) = sets_told g spot wrong.Field (HasUnknown (members_of models g)) (λ names is. is) there name set
  field_told spot g there name (inr (inr order)) = order_told g spot wrong.Field (IsUnknownOrder (members_of models g)) (λ text is. is) there name order

  pub kind_told : AreWellNamed models → (spot : Spot) → (g : Gathered) → Contains models g → spot.field ≡ []
      → ((g.entry ≡ spot.entry) × HasWrongParent models g) ⊎ HasSet g spot.entry (IsWrongSet (members_of models g)) ⊎ HasOrder g spot.entry (IsWrongOrder (members_of models g)) → AreKeyFaults models (fault.Kind spot)
  kind_told well spot g there name (inl parent) = wrong_parent_told well spot (g, there, name, parent)
  kind_told well spot g there name (inr (inl set)) = sets_told g spot wrong.Kind (IsWrongSet (members_of models g)) (λ names is. is) there name set
  kind_told well spot g there name (inr (inr order)) = order_told g spot wrong.Kind (IsWrongOrder (members_of models g)) (λ text is. is) there name order
