-- Every fault that stands against definitions is at one of their entries.
use Rattle.std.proofs.Common.{◌≡◌, inl, inr, ℕ, zero, suc, ◌+◌, ◌<◌, ◌≤◌, ◌&&◌, Bool, true, false, cond, not, is_none, is_some, List, [], ◌∷◌, ◌++◌, length, get_or, map, Option, Some, None, option_map, refl, sym, subst, arith}
use Rattle.std.specs.Prelude.{All, Any, Contains, IfSome, IsSomeAnd, filter, find, option_and_then}
use Rattle.std.specs.Option.{option_map_or}
use Rattle.std.specs.Str.{bytes_eq}
use Rattle.std.proofs.lemmas.List.Elements.{All-append, All-cons, All-contains, All-filter, All-head, All-map, All-nil, All-push, All-tail}
use Rattle.std.proofs.lemmas.Option.{none-some, same_Some, slice_get_within}
use Rattle.ob_definition.specs.declared.definition.Check.{Check}
use Rattle.ob_definition.specs.declared.definition.FieldDef.{FieldDef}
use Rattle.ob_definition.specs.declared.definition.Inherits.{Inherits}
use Rattle.ob_definition.specs.declared.definition.ModelDef.{ModelDef}
use Rattle.ob_definition.specs.declared.fault.SchemaFault.{SchemaFault}
use Rattle.ob_definition.specs.declared.fault.SchemaFault.TheVariants as fault
use Rattle.ob_definition.specs.declared.fault.Spot.{Spot}
use Rattle.ob_definition.specs.Definitions.{first_of, is_automatic}
use Rattle.ob_definition.specs.EntryFaults.{IsEntryFault, IsGatheringFault}
use Rattle.ob_definition.specs.Gathered.{Declared, DeclaredCheck, DeclaredOrder, DeclaredSet, Gathered, added, before, begun, begun_new, blank, check_at, copied, field_at, gathered, gathered_from, is_check, is_declared, is_taken}
use Rattle.ob_definition.specs.Gathered.{model_of, opened, opened_by, order_at, put, set_at, with_check, with_checks, with_entry, with_field, with_fields, with_opened}
use Rattle.ob_definition.specs.Members.{Member, automatic_defs, check_member, check_members, delegated_by, delegated_member, delegated_through, given_members, hidden_members, link_def, links_of, locked_members, members_of}
use Rattle.ob_definition.specs.Members.{named, own_member, own_members, path_def, path_members, path_name}
use Rattle.ob_definition.specs.Ranking.{rank}
use Rattle.ob_registry.specs.Faults.{AtField, HasOrder, HasSet, IsFaulty, IsFieldFault, IsModelFault}
use Rattle.ob_schema.specs.Formulas.{Place}
use Rattle.ob_registry.proofs.ModelRank.{model_among}

-- each part of a model is of an entry below a number
pub record IsBelow (limit : ℕ) (g : Gathered) : Type 0 where
  pub entry : g.entry < limit
  pub order : IfSome g.order (λ o. o.entry < limit)
  pub unique : All (λ u. u.entry < limit) g.unique
  pub checks : All (λ c. c.entry < limit) g.checks
  pub fields : All (λ f. f.entry < limit) g.fields

-- ---- as models are gathered

-- what holds of all holds of one that is found
found-below : {X : Type 0} (P : X → Type 0) (p : X → Bool) (xs : List X) → All P xs → (x : X) → find p xs ≡ Some x → P x
found-below P p [] all x e = absurd (none-some x e)
found-below {X} P p (y ∷ ys) all x e = by (p y) e (λ f. found-below P p ys (All-tail P y ys all) x f)
  where
    by : (b : Bool) → cond b (Some y) (find p ys) ≡ Some x → (find p ys ≡ Some x → P x) → P x
    by true f rest = subst P (same_Some y x f) (All-head P y ys all)
    by false f rest = rest f

-- what holds of all and of one more holds where that one is put
put-below : (P : Gathered → Type 0) (model : Gathered) (models : List Gathered) → P model → All P models → All P (put model models)
put-below P model [] own all = All-cons P model [] own (All-nil P)
put-below P model (m ∷ models) own all = by (bytes_eq m.name model.name) (put-below P model models own (All-tail P m models all))
  where
    by : (b : Bool) → All P (put model models) → All P (cond b (model ∷ models) (m ∷ put model models))
    by true rest = All-cons P model models own (All-tail P m models all)
    by false rest = All-cons P m (put model models) (All-head P m models all) rest

module _ (limit n : ℕ) (low : n < limit) where
  abbrev AreFieldsBelow : List Declared → Type 0
  AreFieldsBelow fields = All (λ f. f.entry < limit) fields

  abbrev AreChecksBelow : List DeclaredCheck → Type 0
  AreChecksBelow checks = All (λ c. c.entry < limit) checks

  -- fields and checks that an entry adds are of the entry
  with_fields-below : (fields : List Declared) (fs : List FieldDef) → AreFieldsBelow fields → AreFieldsBelow (with_fields n fields fs)
  with_fields-below fields [] below = below
  with_fields-below fields (f ∷ fs) below = with_fields-below (with_field n fields f) fs (by (is_taken fields f.name))
    where
      by : (b : Bool) → AreFieldsBelow (cond b fields (fields ++ field_at n f ∷ []))
      by true = below
      by false = All-push (λ (g : Declared). g.entry < limit) fields (field_at n f) below low

  with_checks-below : (checks : List DeclaredCheck) (cs : List Check) → AreChecksBelow checks → AreChecksBelow (with_checks n checks cs)
  with_checks-below checks [] below = below
  with_checks-below checks (c ∷ cs) below = with_checks-below (with_check n checks c) cs (by (is_check checks c.name))
    where
      by : (b : Bool) → AreChecksBelow (cond b checks (checks ++ check_at n c ∷ []))
      by true = below
      by false = All-push (λ (g : DeclaredCheck). g.entry < limit) checks (check_at n c) below low

  -- the order that stands is that of the entry or the one before
  order-below : (text : Option (List ℕ)) (order : Option DeclaredOrder) → IfSome order (λ o. o.entry < limit) → IfSome (first_of (option_map (order_at n) text) order) (λ o. o.entry < limit)
  order-below None order below = below
  order-below (Some text) order below = low

  added-below : (def : ModelDef) (g : Gathered) → IsBelow limit g → IsBelow limit (added n def g)
  added-below def g below = record {
    entry = below.entry;
    order = order-below def.order g.order below.order;
    unique = All-append (λ (u : DeclaredSet). u.entry < limit) g.unique (map (set_at n) def.unique) below.unique
        (All-map (λ (u : DeclaredSet). u.entry < limit) (set_at n) def.unique (λ k d within. low));
    checks = with_checks-below g.checks def.checks below.checks;
    fields = with_fields-below g.fields def.fields below.fields;
  }

  begun-below : (def : ModelDef) (g : Gathered) → IsBelow limit g → IsBelow limit (begun def g)
  begun-below def g below = record { entry = below.entry; order = below.order; unique = below.unique; checks = below.checks; fields = below.fields }

  -- a new model is of its entry
  blank-below : (name : List ℕ) → IsBelow limit (blank n name)
  blank-below name = record {
    entry = low;
    order = tt;
    unique = All-nil (λ (u : DeclaredSet). u.entry < limit);
    checks = All-nil (λ (c : DeclaredCheck). c.entry < limit);
    fields = All-nil (λ (f : Declared). f.entry < limit);
  }

  copied_order : (order : Option DeclaredOrder) → IfSome (option_map (λ o. order_at n o.text) order) (λ o. o.entry < limit)
  copied_order None = tt
  copied_order (Some o) = low

  copied-below : (name : List ℕ) (g : Gathered) → IsBelow limit (copied n name g)
  copied-below name g = record {
    entry = low;
    order = copied_order g.order;
    unique = All-map (λ (u : DeclaredSet). u.entry < limit) (λ (u : DeclaredSet). set_at n u.names) g.unique (λ k d within. low);
    checks = All-map (λ (c : DeclaredCheck). c.entry < limit) (λ (c : DeclaredCheck). check_at n c.check) g.checks (λ k d within. low);
    fields = All-map (λ (f : Declared). f.entry < limit) (λ (f : Declared). field_at n f.def) g.fields (λ k d within. low);
  }

  -- so is the model that an entry opens
  abbrev IsOpenBelow : Option Gathered → Type 0
  IsOpenBelow o = (g : Gathered) → o ≡ Some g → IsBelow limit g

  none-below : IsOpenBelow None
  none-below g e = absurd (none-some g e)

  begun_new-below : (models : List Gathered) (def : ModelDef) (g : Gathered) → IsBelow limit g → IsOpenBelow (begun_new models def g)
  begun_new-below models def g own = by (is_some (model_of models g.name))
    where
      by : (b : Bool) → IsOpenBelow (cond b None (Some (begun def g)))
      by true = none-below
      by false = λ m e. subst (IsBelow limit) (same_Some (begun def g) m e) (begun-below def g own)

  opened-below : (models : List Gathered) (def : ModelDef) (name inherit : Option (List ℕ)) → All (IsBelow limit) models → IsOpenBelow (opened_by models n def name inherit)
  opened-below models def None None below = none-below
  opened-below models def None (Some base) below = found-below (IsBelow limit) (λ m. bytes_eq m.name base) models below
  opened-below models def (Some name) None below = begun_new-below models def (blank n name) (blank-below name)
  opened-below models def (Some name) (Some base) below = by (model_of models base)
    where
      by : (o : Option Gathered) → IsOpenBelow (option_and_then (λ m. begun_new models def (copied n name m)) o)
      by None = none-below
      by (Some m) = begun_new-below models def (copied n name m) (copied-below name m)

  with_opened-below : (def : ModelDef) (o : Option Gathered) (models : List Gathered) → IsOpenBelow o → All (IsBelow limit) models → All (IsBelow limit) (with_opened n def o models)
  with_opened-below def None models own below = below
  with_opened-below def (Some m) models own below = put-below (IsBelow limit) (added n def m) models (added-below def m (own m refl)) below

gathered_from-below : (limit n : ℕ) (models : List Gathered) (defs : List ModelDef) → n + length defs ≤ limit → All (IsBelow limit) models → All (IsBelow limit) (gathered_from n models defs)
gathered_from-below limit n models [] within below = below
gathered_from-below limit n models (def ∷ defs) within below =
    let low : n < limit = omega (arith, within) in
    gathered_from-below limit (suc n) (with_entry n models def) defs (omega (arith, within))
    (with_opened-below limit n low def (opened models n def) models (opened-below limit n low models def def.name def.inherit below) below)

-- the models of definitions are of their entries
pub gathered-below : (defs : List ModelDef) → All (IsBelow (length defs)) (gathered defs)
gathered-below defs = gathered_from-below (length defs) 0 [] defs (omega arith) (All-nil (IsBelow (length defs)))

-- ---- the fields of models

module _ (models : List Gathered) (limit : ℕ) (g : Gathered) (below : IsBelow limit g) where
  abbrev IsLow : Member → Type 0
  IsLow m = m.entry < limit

  path-below : (parent : Option (List ℕ)) → All IsLow (path_members g parent)
  path-below None = All-nil IsLow
  path-below (Some parent) = by (is_declared g.fields path_name)
    where
      by : (b : Bool) → All IsLow (cond b [] (own_member g.entry (path_def parent) ∷ []))
      by true = All-nil IsLow
      by false = All-cons IsLow (own_member g.entry (path_def parent)) [] below.entry (All-nil IsLow)

  given-below : All IsLow (given_members g)
  given-below =
      let declared : List Member = map (λ (f : Declared). own_member f.entry f.def) g.fields in
      All-append IsLow (map (own_member g.entry) automatic_defs) (declared ++ path_members g g.parent)
      (All-map IsLow (own_member g.entry) automatic_defs (λ k d within. below.entry))
      (All-append IsLow declared (path_members g g.parent) (All-map IsLow (λ (f : Declared). own_member f.entry f.def) g.fields below.fields) (path-below g.parent))

  own-below : All IsLow (own_members models g)
  own-below =
      All-append IsLow (given_members g) (map (λ (i : Inherits). own_member g.entry (link_def i)) (links_of models g)) given-below
      (All-map IsLow (λ (i : Inherits). own_member g.entry (link_def i)) (links_of models g) (λ k d within. below.entry))

  through-below : (i : Inherits) (parent : Option Gathered)
      → All IsLow (option_map_or (λ p. map (delegated_member g.entry i) (filter (λ m. not (is_automatic m.def.name)) (own_members models p))) parent [])
  through-below i None = All-nil IsLow
  through-below i (Some p) = All-map IsLow (delegated_member g.entry i) (filter (λ m. not (is_automatic m.def.name)) (own_members models p)) (λ k d within. below.entry)

  delegated-below : (links : List Inherits) → All IsLow (delegated_by models g links)
  delegated-below [] = All-nil IsLow
  delegated-below (i ∷ later) =
      let test : Member → Bool = λ m. is_none (named (own_members models g) m.def.name) && is_none (named (delegated_by models g later) m.def.name) in
      All-append IsLow (filter test (delegated_through models g.entry i)) (delegated_by models g later)
      (All-filter test IsLow (delegated_through models g.entry i) (through-below i (model_of models i.model))) (delegated-below later)

  members-below : All IsLow (members_of models g)
  members-below = All-append IsLow (own_members models g) (delegated_by models g (links_of models g)) own-below (delegated-below (links_of models g))

  locked-below : (locked : Option (List ℕ)) → All IsLow (locked_members g locked)
  locked-below None = All-nil IsLow
  locked-below (Some text) = λ k d within. by k d within
    where
      by : (k : ℕ) (d : Member) → k < 1 → IsLow (get_or (locked_members g (Some text)) k d)
      by zero d within = below.entry
      by (suc k) d within = absurd (omega (arith, within))

  hidden-below : All IsLow (hidden_members g)
  hidden-below = All-append IsLow (check_members g) (locked_members g g.locked) (All-map IsLow check_member g.checks below.checks) (locked-below g.locked)

-- ---- faults

-- a part of a list of an entry
of_entry : {X : Type 0} (e : X → ℕ) (Q : X → Type 0) (xs : List X) (limit n : ℕ) → All (λ x. e x < limit) xs → Any (λ x. (e x ≡ n) × Q x) xs → n < limit
of_entry e Q xs limit n low (k, x, within, is, (same, q)) = subst (λ (m : ℕ). m < limit) same (All-contains (λ y. e y < limit) xs x low (k, within, is))

-- an option's value of an entry
order_entry : (order : Option DeclaredOrder) (Q : List ℕ → Type 0) (limit n : ℕ) → IfSome order (λ o. o.entry < limit) → IsSomeAnd order (λ o. (o.entry ≡ n) × Q o.text) → n < limit
order_entry None Q limit n low none = absurd none
order_entry (Some o) Q limit n low (same, q) = subst (λ (m : ℕ). m < limit) same low

-- a fault of an entry in its turn
entry_within : (defs : List ModelDef) (why : SchemaFault) → IsGatheringFault defs why → (rank why).entry < length defs
entry_within defs why (n, def, there, is) = subst (λ (m : ℕ). m < length defs) (sym (at why is)) (slice_get_within defs n def there)
  where
    at : (why : SchemaFault) → IsEntryFault (before defs n) n def why → (rank why).entry ≡ n
    at (fault.Model spot) is = is.0.0
    at (fault.Kind spot) is = is.0.0
    at (fault.Twice spot) (inl whole) = whole.0.0
    at (fault.Twice spot) (inr field) = field.0
    at (fault.Limit spot) is = is.0.0
    at _ is = absurd is

module _ (defs : List ModelDef) where
  abbrev IsEntry : ℕ → Type 0
  IsEntry n = n < length defs

  below_of : (g : Gathered) → Contains (gathered defs) g → IsBelow (length defs) g
  below_of g among = All-contains (IsBelow (length defs)) (gathered defs) g (gathered-below defs) among

  -- the entry that makes a model
  maker : (g : Gathered) (n : ℕ) → Contains (gathered defs) g → g.entry ≡ n → IsEntry n
  maker g n among same = subst IsEntry same (below_of g among).entry

  set_within : (g : Gathered) (n : ℕ) (P : List (List ℕ) → Type 0) → Contains (gathered defs) g → HasSet g n P → IsEntry n
  set_within g n P among has = of_entry (λ (u : DeclaredSet). u.entry) (λ (u : DeclaredSet). P u.names) g.unique (length defs) n (below_of g among).unique has

  order_within : (g : Gathered) (n : ℕ) (P : List ℕ → Type 0) → Contains (gathered defs) g → HasOrder g n P → IsEntry n
  order_within g n P among has = order_entry g.order P (length defs) n (below_of g among).order has

  -- a fault of a model as a whole
  model_within : (why : SchemaFault) → IsModelFault defs why → (rank why).entry < length defs
  model_within (fault.Model spot) (g, among, whole, is) = maker g spot.entry among is.0
  model_within (fault.Field spot) (g, among, whole, inl parent) = maker g spot.entry among parent.0
  model_within (fault.Field spot) (g, among, whole, inr (inl set)) = set_within g spot.entry _ among set
  model_within (fault.Field spot) (g, among, whole, inr (inr order)) = order_within g spot.entry _ among order
  model_within (fault.Kind spot) (g, among, whole, inl parent) = maker g spot.entry among parent.0
  model_within (fault.Kind spot) (g, among, whole, inr (inl set)) = set_within g spot.entry _ among set
  model_within (fault.Kind spot) (g, among, whole, inr (inr order)) = order_within g spot.entry _ among order
  model_within (fault.Twice spot) (inl (g, among, whole, is)) = maker g spot.entry among is.0
  model_within (fault.Twice spot) (inr (g, among, name, tree, (k, f, within, at, both))) =
      subst IsEntry both.1 (All-contains (λ (f : Declared). f.entry < length defs) g.fields f (below_of g among).fields (k, within, at))
  model_within (fault.Inherits spot) (g, among, whole, is) = maker g spot.entry among is.0
  model_within (fault.Limit spot) (g, among, whole, (many, (k, m, within, at, same), most)) =
      subst IsEntry same (All-contains (IsLow (gathered defs) (length defs) g (below_of g among)) (members_of (gathered defs) g) m (members-below (gathered defs) (length defs) g (below_of g among)) (k, within, at))
  model_within _ is = absurd is

  -- a field stands at an entry
  field_at_entry : (spot : Spot) (P : Place → Gathered → Type 0) → AtField defs spot P → spot.entry < length defs
  field_at_entry spot P at =
      let below = below_of at.model (model_among (gathered defs) at.number.0 at.model at.there) in
      let Low : Member → Type 0 = λ m. m.entry < length defs in
      subst IsEntry at.entry (elim at.among [
        | inl own ↦ All-contains Low (own_members (gathered defs) at.model) at.member (own-below (gathered defs) (length defs) at.model below) own
        | inr hidden ↦ All-contains Low (hidden_members at.model) at.member (hidden-below (gathered defs) (length defs) at.model below) hidden
      ])

  -- a fault of a field
  field_within : (why : SchemaFault) → IsFieldFault defs why → (rank why).entry < length defs
  field_within (fault.Model spot) is = field_at_entry spot _ is
  field_within (fault.Field spot) is = field_at_entry spot _ is
  field_within (fault.Kind spot) is = field_at_entry spot _ is
  field_within (fault.Cycle spot) is = field_at_entry spot _ is
  field_within (fault.Recursion spot) is = field_at_entry spot _ is
  field_within (fault.Path spot) is = field_at_entry spot _ is
  field_within (fault.Inverse spot) is = field_at_entry spot _ is
  field_within (fault.Limit spot) is = field_at_entry spot _ is
  field_within (fault.Text spot why) is = field_at_entry spot _ is
  field_within _ is = absurd is

  -- every fault is at one of the entries
  pub fault_within : (why : SchemaFault) → IsFaulty defs why → (rank why).entry < length defs
  fault_within why (inl entry) = entry_within defs why entry
  fault_within why (inr (inl model)) = model_within why model
  fault_within why (inr (inr field)) = field_within why field
