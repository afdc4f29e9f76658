-- Each field of the registry is right: what it leads to is there, what mirrors leads back, and its value comes from where it may.
use Rattle.std.proofs.Common.{◌≡◌, ◌⊎◌, ◌&&◌, ◌||◌, ℕ, Bool, true, false, cond, not, is_none, is_some, Option, Some, None, option_map, List, [], ◌∷◌, get_or, map, inl, inr, refl, sym, ap, subst, ◌∙◌, arith}
use Rattle.std.specs.Prelude.{All, Any, Contains, IfSome, IsSome, IsSomeAnd, codes, option_and_then, slice_get, unwrap_or}
use Rattle.std.specs.List.{AllZip, position_or_len}
use Rattle.std.specs.Str.{bytes_eq}
use Rattle.std.proofs.lemmas.Bool.{and_parts, false≢true}
use Rattle.std.proofs.lemmas.List.Elements.{All-append, All-cons, All-contains, All-map, All-nil}
use Rattle.std.proofs.lemmas.List.Folds.{find_at}
use Rattle.std.proofs.lemmas.Option.{get_or_from_slice_get, none-some, same_Some, slice_get-get_or, slice_get_within}
use Rattle.std.proofs.lemmas.Slice.Eq.{bytes_eq-Decides}
use Rattle.ob_base.specs.declared.id.FieldNo.{FieldNo}
use Rattle.ob_base.specs.declared.id.ModelNo.{ModelNo}
use Rattle.ob_base.specs.declared.value.Value.{Value}
use Rattle.ob_definition.specs.declared.definition.FieldDef.{FieldDef}
use Rattle.ob_definition.specs.declared.definition.Inherits.{Inherits}
use Rattle.ob_definition.specs.declared.field_type.Choice.{Choice}
use Rattle.ob_definition.specs.declared.field_type.FieldType.{FieldType}
use Rattle.ob_definition.specs.declared.field_type.FieldType.TheVariants as type
use Rattle.ob_definition.specs.declared.field_type.OnDelete.TheVariants as ondelete
use Rattle.ob_definition.specs.declared.wrong.Wrong.TheVariants as wrong
use Rattle.ob_definition.specs.Definitions.{is_automatic, is_computed, is_set, plain_field}
use Rattle.ob_definition.specs.Gathered.{Gathered, model_of}
use Rattle.ob_definition.specs.Keys.{is_many2many, is_many2one}
use Rattle.ob_definition.specs.Members.{Member, Role, delegated, hidden, automatic_defs, check_member, check_members, check_name, condition_def, hidden_member, hidden_members, is_delegated, is_own, is_own_computed}
use Rattle.ob_definition.specs.Members.{links_of, locked_members, members_of, model_at, model_number, moment_def, named, number_of, own_members, user_def, users_name}
use Rattle.ob_definition.specs.Types.{is_one2many, is_relation}
use Rattle.ob_definition.specs.Values.{IsNative, IsValueOf}
use Rattle.ob_schema.specs.declared.info.Delegation.{Delegation}
use Rattle.ob_schema.specs.declared.info.FieldInfo.{FieldInfo}
use Rattle.ob_schema.specs.declared.info.Formula.{Formula}
use Rattle.ob_schema.specs.declared.info.ModelInfo.{ModelInfo}
use Rattle.ob_schema.specs.declared.info.Origin.{Origin}
use Rattle.ob_schema.specs.declared.info.Origin.TheVariants as origin
use Rattle.ob_schema.specs.declared.info.ParentInfo.{ParentInfo}
use Rattle.ob_schema.specs.Built.{IsDelegation, IsFieldOf, IsModelOf, IsOrigin, back_number}
use Rattle.ob_registry.specs.Faults.{HasUnknownBack, HasWrongBack, LeadsBack as LeadsBackTo, is_plain}
use Rattle.ob_schema.specs.Fields.{Holds, has_value_of, is_own as stands_own, is_plain_from}
use Rattle.ob_schema.specs.Finds.{relation_of}
use Rattle.ob_schema.specs.Formulas.{Place}
use Rattle.ob_schema.specs.Models.{FieldHas, HasKeysOf, HasModel, IsField, IsFormulaIn, IsOriginIn, IsPlainTo, IsUserField, LeadsBack, field_at, is_computed_from, is_given_from, is_id_from, is_moment, is_user, model_at as info_at, model_named}
use Rattle.ob_schema.specs.Paths.{has_value, step_at}
use Rattle.ob_registry.specs.RegistryOf.{HasFieldInfo, IsFieldFrom, IsRegistryOf}
use Rattle.ob_schema.specs.Strata.IsMember.{by_name}
use Rattle.ob_registry.proofs.Defaults.{default_fits-from_fits, default_held}
use Rattle.ob_registry.proofs.Delegated.{IsFromParent, delegated_from, hidden_computed, member_cases, not_true, own_among, own_role}
use Rattle.ob_schema.proofs.CallerLemmas.{IfSome-found, known_by}
use Rattle.ob_registry.proofs.NamedFields.{member_parts}
use Rattle.ob_registry.proofs.NameOrder.{named_found}
use Rattle.ob_registry.proofs.Origins.{position-found}
use Rattle.ob_registry.proofs.OwnInfos.{automatic_def}
use Rattle.ob_registry.proofs.RegistryPlaces.{model_no, value_there, zip_there}
use Rattle.ob_registry.proofs.Resolved.{right_field}
use Rattle.ob_registry.proofs.Sourced.{FitsRelation, IsSourced, fits_relation, sourced, sourced_fits, sourced_relation}
use Rattle.ob_registry.proofs.Stable.{stable_model, stable_none, stable_true}
use Rattle.ob_registry.proofs.TargetModels.{relation-there}
use Rattle.ob_registry.proofs.UnkeptFields.{IsUnkept, hidden_unkept}

-- ---- plain fields

pub plain_parts : (m : Member) → is_plain m ≡ true → (is_own m.role ≡ true) × (not (is_computed m.def) ≡ true) × (not (bytes_eq m.def.name (codes "id")) ≡ true)
plain_parts m plain =
    let last = and_parts (is_own m.role && not (is_computed m.def)) (not (bytes_eq m.def.name (codes "id"))) plain in
    let first = and_parts (is_own m.role) (not (is_computed m.def)) last.0 in
    (first.0, first.1, last.1)

true_not : (b : Bool) → b ≡ true → not b ≡ true → ⊥
true_not true e f = false≢true f
true_not false e f = false≢true e

pub plain_info : (p : Place) (g : Gathered) (n : FieldNo) (o : Origin) → is_plain p.member ≡ true → IsOrigin p g n o → is_plain_from o ≡ true
plain_info p g n origin.Id plain of = absurd (true_not (bytes_eq p.member.def.name (codes "id")) ((bytes_eq-Decides p.member.def.name (codes "id")).1 of) (plain_parts p.member plain).2)
plain_info p g n origin.Plain plain of = refl
plain_info p g n (origin.Delegated at) plain of = absurd (false≢true (sym (ap is_own of.role) ∙ (plain_parts p.member plain).0))
plain_info p g n (origin.Computed formula) plain of =
    absurd (true_not (is_computed p.member.def) (and_parts (not (is_delegated p.member.role)) (is_computed p.member.def) of.has.computed).1 (plain_parts p.member plain).1)

plain_member : (p : Place) (g : Gathered) (n : FieldNo) (o : Origin) → is_plain_from o ≡ true → IsOrigin p g n o → is_plain p.member ≡ true
plain_member p g n origin.Id plain of = absurd (false≢true plain)
plain_member p g n origin.Plain plain of = of
plain_member p g n (origin.Delegated at) plain of = absurd (false≢true plain)
plain_member p g n (origin.Computed formula) plain of = absurd (false≢true plain)

plain_among : (models : List Gathered) (g : Gathered) (m : Member) → Contains (members_of models g) m ⊎ Contains (hidden_members g) m → is_plain m ≡ true → Contains (own_members models g) m
plain_among models g m (inr condition) plain = absurd (false≢true (sym (ap is_own (hidden_computed g m condition).0) ∙ (plain_parts m plain).0))
plain_among models g m (inl here) plain = elim (member_cases models g m here) [
  | inl mine ↦ mine
  | inr through ↦ absurd (false≢true (sym (ap is_own through.2) ∙ (plain_parts m plain).0))
]

-- ---- where values come from

-- an expression gives the value of a computed field
pub computed_info : (p : Place) (g : Gathered) (n : FieldNo) (o : Origin) → is_own_computed p.member ≡ true → bytes_eq p.member.def.name (codes "id") ≡ false → IsOrigin p g n o → is_computed_from o ≡ true
computed_info p g n origin.Id computed other of = absurd (false≢true (sym other ∙ (bytes_eq-Decides p.member.def.name (codes "id")).1 of))
computed_info p g n origin.Plain computed other of =
    absurd (true_not (is_computed p.member.def) (and_parts (not (is_delegated p.member.role)) (is_computed p.member.def) computed).1 (plain_parts p.member of).1)
computed_info p g n (origin.Delegated at) computed other of = absurd (false≢true (sym (ap (λ (r : Role). not (is_delegated r) && is_computed p.member.def) of.role) ∙ computed))
computed_info p g n (origin.Computed formula) computed other of = refl

-- the value of a field that is neither computed nor delegated is given
given_info : (p : Place) (g : Gathered) (n : FieldNo) (o : Origin) → is_computed p.member.def ≡ false → is_delegated p.member.role ≡ false → IsOrigin p g n o → is_given_from o ≡ true
given_info p g n origin.Id own role of = refl
given_info p g n origin.Plain own role of = refl
given_info p g n (origin.Delegated at) own role of = absurd (false≢true (sym role ∙ ap is_delegated of.role))
given_info p g n (origin.Computed formula) own role of = absurd (false≢true (sym own ∙ (and_parts (not (is_delegated p.member.role)) (is_computed p.member.def) of.has.computed).1))

-- the field `id` alone is the row's id
pub is_id_info : (p : Place) (g : Gathered) (n : FieldNo) (o : Origin) → (bytes_eq p.member.def.name (codes "id") ≡ true → (is_computed p.member.def ≡ false) × (is_delegated p.member.role ≡ false)) → IsOrigin p g n o
    → is_id_from o ≡ bytes_eq p.member.def.name (codes "id")
is_id_info p g n origin.Id own of = sym ((bytes_eq-Decides p.member.def.name (codes "id")).1 of)
is_id_info p g n origin.Plain own of = sym (not_true (bytes_eq p.member.def.name (codes "id")) (plain_parts p.member of).2)
is_id_info p g n (origin.Delegated at) own of = by (bytes_eq p.member.def.name (codes "id")) own
  where
    by : (b : Bool) → (b ≡ true → (is_computed p.member.def ≡ false) × (is_delegated p.member.role ≡ false)) → false ≡ b
    by true own = absurd (false≢true (sym (own refl).1 ∙ ap is_delegated of.role))
    by false own = refl
is_id_info p g n (origin.Computed formula) own of = by (bytes_eq p.member.def.name (codes "id")) own
  where
    by : (b : Bool) → (b ≡ true → (is_computed p.member.def ≡ false) × (is_delegated p.member.role ≡ false)) → false ≡ b
    by true own = absurd (false≢true (sym (own refl).0 ∙ (and_parts (not (is_delegated p.member.role)) (is_computed p.member.def) of.has.computed).1))
    by false own = refl

-- what is given is plain, but for the id
given_plain : (o : Origin) → is_given_from o ≡ true → is_id_from o ≡ false → is_plain_from o ≡ true
given_plain origin.Id given other = absurd (false≢true (sym other))
given_plain origin.Plain given other = refl
given_plain (origin.Delegated at) given other = absurd (false≢true given)
given_plain (origin.Computed formula) given other = absurd (false≢true given)

-- ---- keys of relations

one2many_relation : (t : FieldType) → is_one2many t ≡ true → is_relation t ≡ true
one2many_relation type.One2many e = refl
one2many_relation _ e = absurd (false≢true e)

module _ (models : List Gathered) where
  pub number_there : (name : List ℕ) (n : ModelNo) (p : Gathered) → model_number models name ≡ Some n → model_of models name ≡ Some p → model_at models n.0 ≡ Some p
  number_there name n p is found =
      let test : Gathered → Bool = λ m. bytes_eq m.name name in
      let at = position_or_len test models in
      let placed : model_number models name ≡ Some (model_no at) = ap (λ (o : Option ℕ). option_map model_no o) (position-found test models p found) in
      let same : n ≡ model_no at = same_Some n (model_no at) (sym is ∙ placed) in
      ap (λ (k : ModelNo). model_at models k.0) same ∙ sym (find_at test models) ∙ found

  -- a parent of the registry is that of a link
  abbrev pub IsParentOf : Gathered → Inherits → ParentInfo → Type 0
  IsParentOf g i parent = (parent.link ≡ number_of models g i.link) × (model_number models i.model ≡ Some parent.model)

  parents_zip : (g : Gathered) (links : List Inherits) (parents : List ParentInfo) → map (λ (i : ParentInfo). Some i.link) parents ≡ map (λ (i : Inherits). Some (number_of models g i.link)) links
      → map (λ (i : ParentInfo). Some i.model) parents ≡ map (λ (i : Inherits). model_number models i.model) links → AllZip (IsParentOf g) links parents
  parents_zip g [] [] e f = tt
  parents_zip g [] (p ∷ ps) e f = absurd (cc)
  parents_zip g (i ∷ is) [] e f = absurd (cc)
  parents_zip g (i ∷ is) (p ∷ ps) e f =
      let link : p.link ≡ number_of models g i.link = cc in
      let model : model_number models i.model ≡ Some p.model = cc in
      let links : map (λ (i : ParentInfo). Some i.link) ps ≡ map (λ (i : Inherits). Some (number_of models g i.link)) is = cc in
      let others : map (λ (i : ParentInfo). Some i.model) ps ≡ map (λ (i : Inherits). model_number models i.model) is = cc in
      ((link, model), parents_zip g is ps links others)

  pub parents_of : (g : Gathered) (info : ModelInfo) → IsModelOf models g info → AllZip (IsParentOf g) (links_of models g) info.inherits
  parents_of g info is = parents_zip g (links_of models g) info.inherits is.inherits is.parents

  pub back_given : (f : FieldDef) (key : Option (List ℕ)) → is_some (back_number models f key) ≡ true → is_some key ≡ true
  back_given f None back = absurd (false≢true back)
  back_given f (Some name) back = refl

  back_some : (key : Option (List ℕ)) (leads : Option ModelNo) (target : ModelNo) → is_some key ≡ true → leads ≡ Some target → IsSome (model_at models target.0)
      → IsSome (option_and_then (λ name. option_and_then (λ t. option_map (λ h. number_of models h name) (model_at models t.0)) leads) key)
  back_some None leads target given is known = absurd (false≢true given)
  back_some (Some name) None target given is known = absurd (none-some target is)
  back_some (Some name) (Some t) target given is known =
      subst (λ (n : ModelNo). IsSome (option_map (λ h. number_of models h name) (model_at models n.0))) (sym (same_Some t target is)) (by (model_at models target.0) known)
    where
      by : (o : Option Gathered) → IsSome o → IsSome (option_map (λ h. number_of models h name) o)
      by None k = k
      by (Some h) k = refl

module _ (models : List Gathered) (infos : List ModelInfo) (registry : IsRegistryOf models infos) where
  pub has : (number : ModelNo) (field : FieldNo) (g : Gathered) (m : Member) (own : HasFieldInfo models infos number field g m) (P : FieldInfo → Type 0) → P own.info → FieldHas infos P number field
  has number field g m own P holds = subst (λ (o : Option FieldInfo). IsSomeAnd o P) (sym own.at) holds

  -- the field of a name
  pub named_info : (number : ModelNo) (g : Gathered) → model_at models number.0 ≡ Some g → (name : List ℕ) (m : Member) → named (members_of models g) name ≡ Some m → HasFieldInfo models infos number (number_of models g name) g m
  named_info number g there name m found =
      let w = named_found (members_of models g) name m found in
      registry.field number (number_of models g name) g m (by_name (step_at number (number_of models g name)) g m there w.0 (ap (number_of models g) w.1))

  model_here : (target : ModelNo) → IsSome (model_at models target.0) → HasModel infos target
  model_here target known = by (model_at models target.0) refl known
    where
      by : (o : Option Gathered) → model_at models target.0 ≡ o → IsSome o → HasModel infos target
      by None e none = absurd (false≢true none)
      by (Some h) e some = let own = registry.model target h e in ap (λ (o : Option ModelInfo). is_some o) own.at

  -- the field back that a plain field's key names leads back
  module _ (number : ModelNo) (g : Gathered) (m : Member) (info : FieldInfo) (leads : info.relation ≡ relation_of models m.def) (t : FieldType) (test : FieldType → Bool) (fit : test t ≡ true) (given : Option FieldNo) where
    abbrev place_of : Place
    place_of = record { models = models; number = number; member = m }

    found_back : (target : ModelNo) (h : Gathered) (name : List ℕ) (b : Member) → relation_of models m.def ≡ Some target → model_at models target.0 ≡ Some h → named (members_of models h) name ≡ Some b
        → ((LeadsBackTo models number t b → ⊥) → ⊥) → LeadsBack infos number info test (number_of models h name)
    found_back target h name b is there found twice =
        let plain : is_plain b ≡ true = stable_true (is_plain b) (λ no. twice (λ (l : LeadsBackTo models number t b). no l.plain)) in
        let of_type : test b.def.field_type ≡ true = stable_true (test b.def.field_type) (λ no. twice (λ (l : LeadsBackTo models number t b). no (ap test l.of_type ∙ fit))) in
        let back : relation_of models b.def ≡ Some number = stable_model (relation_of models b.def) number (λ no. twice (λ (l : LeadsBackTo models number t b). no l.leads)) in
        let kept : b.def.mirror ≡ None = stable_none b.def.mirror (λ no. twice (λ (l : LeadsBackTo models number t b). no l.kept)) in
        let own = named_info target h there name b found in
        let P : FieldInfo → Type 0 = λ other. IsPlainTo number other × (test other.field_type ≡ true) × (other.mirror ≡ None) in
        let holds : P own.info = (
          record {
            plain = plain_info (record { models = models; number = target; member = b }) h (number_of models h name) own.info.origin plain own.is.origin;
            leads = own.is.relation ∙ back;
          },
          ap test own.is.field_type ∙ of_type,
          own.is.mirror ∙ ap (back_number models b.def) kept,
        ) in
        known_by info.relation (λ target. FieldHas infos P target (number_of models h name)) target (leads ∙ is) (has target (number_of models h name) h b own P holds)

    pub leads_back : (key : Option (List ℕ)) → given ≡ back_number models m.def key → (HasUnknownBack place_of key → ⊥) → (HasWrongBack place_of key t → ⊥) → IfSome given (LeadsBack infos number info test)
    leads_back None is known right = subst (λ (o : Option FieldNo). IfSome o (LeadsBack infos number info test)) (sym is) tt
    leads_back (Some name) is known right = by (relation_of models m.def) refl is known right
      where
        Back : Type 0
        Back = IfSome given (LeadsBack infos number info test)

        none : given ≡ None → Back
        none e = subst (λ (o : Option FieldNo). IfSome o (LeadsBack infos number info test)) (sym e) tt

        at : (target : ModelNo) (h : Gathered) → relation_of models m.def ≡ Some target → model_at models target.0 ≡ Some h → given ≡ Some (number_of models h name)
            → (o : Option Member) → named (members_of models h) name ≡ o → (o ≡ None → ⊥) → (IsSomeAnd o (λ b. LeadsBackTo models number t b → ⊥) → ⊥) → Back
        at target h leads there e None found known right = absurd (known refl)
        at target h leads there e (Some b) found known right =
            IfSome-found (LeadsBack infos number info test) given (number_of models h name) e (found_back target h name b leads there found right)

        of : (target : ModelNo) → relation_of models m.def ≡ Some target → (o : Option Gathered) → model_at models target.0 ≡ o → given ≡ option_map (λ h. number_of models h name) o
            → (IsSomeAnd o (λ h. named (members_of models h) name ≡ None) → ⊥) → (IsSomeAnd o (λ h. IsSomeAnd (named (members_of models h) name) (λ b. LeadsBackTo models number t b → ⊥)) → ⊥) → Back
        of target leads None there e known right = none e
        of target leads (Some h) there e known right = at target h leads there e (named (members_of models h) name) refl known right

        by : (o : Option ModelNo) → relation_of models m.def ≡ o → given ≡ option_and_then (λ target. option_map (λ h. number_of models h name) (model_at models target.0)) o
            → (IsSomeAnd o (λ target. IsSomeAnd (model_at models target.0) (λ h. named (members_of models h) name ≡ None)) → ⊥)
            → (IsSomeAnd o (λ target. IsSomeAnd (model_at models target.0) (λ h. IsSomeAnd (named (members_of models h) name) (λ b. LeadsBackTo models number t b → ⊥))) → ⊥) → Back
        by None leads e known right = none e
        by (Some target) leads e known right = of target leads (model_at models target.0) refl e known right

  -- ---- the field of a number

  module _ (formulas_in : (number : ModelNo) (field : FieldNo) (info : FieldInfo) (formula : Formula) → field_at infos number field ≡ Some info → info.origin ≡ origin.Computed formula → IsFormulaIn infos number info formula)
      (number : ModelNo) (minfo : ModelInfo) (at : info_at infos number ≡ Some minfo) (field : FieldNo) (info : FieldInfo) (here : field_at infos number field ≡ Some info) where
    found : IsFieldFrom models number field info
    found = registry.field_back number field info here

    abbrev g : Gathered
    g = found.model

    abbrev m : Member
    m = found.member

    abbrev of : IsFieldOf (record { models = models; number = number; member = m }) g field info
    of = found.is

    there : model_at models number.0 ≡ Some g
    there = (member_parts models (step_at number field) g m found.is_member).0

    among : Contains (members_of models g) m ⊎ Contains (hidden_members g) m
    among = elim (member_parts models (step_at number field) g m found.is_member).1 [
      | inl named ↦ inl named.0
      | inr condition ↦ inr condition.0
    ]

    model_is : IsModelOf models g minfo
    model_is = let from = registry.model_back number minfo at in subst (λ (h : Gathered). IsModelOf models h minfo) (same_Some from.model g (sym from.there ∙ there)) from.is

    source : IsSourced models m
    source = sourced models registry.resolved number g there m among

    relation_there : is_relation m.def.field_type ≡ true → (target : ModelNo) × (relation_of models m.def ≡ Some target) × IsSome (model_at models target.0)
    relation_there is = let target = sourced_relation models registry.resolved m source is in (target.0, target.1, relation-there models m.def target.0 target.1)

    relation_alone : is_some info.relation ≡ is_relation info.field_type
    relation_alone = ap (λ (o : Option ModelNo). is_some o) of.relation ∙ by (is_relation m.def.field_type) refl ∙ sym (ap is_relation of.field_type)
      where
        by : (b : Bool) → is_relation m.def.field_type ≡ b → is_some (relation_of models m.def) ≡ is_relation m.def.field_type
        by true e = let target = relation_there e in ap (λ (o : Option ModelNo). is_some o) target.1 ∙ sym e
        by false e = ap (λ (b : Bool). is_some (cond b (option_and_then (model_number models) m.def.relation) None)) e ∙ sym e

    fit : FitsRelation m.def
    fit = fits_relation m.def (sourced_fits models registry.resolved m source)

    inverse_alone : is_some info.inverse ≡ is_one2many info.field_type
    inverse_alone = ap (λ (o : Option FieldNo). is_some o) of.inverse ∙ by (is_one2many m.def.field_type) refl ∙ sym (ap is_one2many of.field_type)
      where
        back : Option FieldNo
        back = back_number models m.def m.def.inverse

        none : (b : Bool) → is_some back ≡ b → is_some m.def.inverse ≡ false → b ≡ false
        none true e absent = absurd (false≢true (sym absent ∙ back_given models m.def m.def.inverse e))
        none false e absent = refl

        by : (b : Bool) → is_one2many m.def.field_type ≡ b → is_some back ≡ is_one2many m.def.field_type
        by true e =
            let target = relation_there (one2many_relation m.def.field_type e) in
            back_some models m.def.inverse (relation_of models m.def) target.0 (fit.inverse ∙ e) target.1 target.2 ∙ sym e
        by false e = none (is_some back) refl (fit.inverse ∙ e) ∙ sym e

    mirror_alone : is_some info.mirror ≡ true → is_many2many info.field_type ≡ true
    mirror_alone given =
        ap is_many2many of.field_type
        ∙ fit.mirror (back_given models m.def m.def.mirror (sym (ap (λ (o : Option FieldNo). is_some o) of.mirror) ∙ given))

    mine : is_plain_from info.origin ≡ true → Contains (own_members models g) m
    mine plain = plain_among models g m among (plain_member (record { models = models; number = number; member = m }) g field info.origin plain of.origin)

    default_right : IfSome info.default (Holds info)
    default_right = by info.default refl (registry.native number field info here)
      where
        by : (o : Option Value) → info.default ≡ o → IfSome o IsNative → IfSome o (Holds info)
        by None e native = tt
        by (Some v) e native =
            let fit = default_fits-from_fits m.def (sourced_fits models registry.resolved m source) in
            let held : IsValueOf m.def.field_type (unwrap_or m.def.selection []) v = default_held m.def v fit (sym of.default ∙ e) native in
            subst (λ (t : FieldType). IsValueOf t info.selection v) (sym of.field_type) (subst (λ (s : List Choice). IsValueOf m.def.field_type s v) (sym of.selection) held)

    -- a field of an automatic one's name is that one
    automatic_own : (d : FieldDef) → Contains automatic_defs d → is_automatic d.name ≡ true → m.def.name ≡ d.name → (m.def ≡ d) × (is_delegated m.role ≡ false)
    automatic_own d automatic known is = by among
      where
        by : Contains (members_of models g) m ⊎ Contains (hidden_members g) m → (m.def ≡ d) × (is_delegated m.role ≡ false)
        by (inl here) = elim (member_cases models g m here) [
          | inl own ↦ (automatic_def models registry.resolved number g there m own d automatic is, ap is_delegated (own_role models g m own))
          | inr through ↦ absurd (false≢true (sym through.3.free ∙ ap is_automatic is ∙ known))
        ]
        by (inr condition) = absurd (false≢true (sym (All-contains IsUnkept (hidden_members g) m (hidden_unkept g) condition).0 ∙ ap is_automatic is ∙ known))

    id_own : m.def.name ≡ codes "id" → (m.def ≡ plain_field (codes "id") type.Integer) × (is_delegated m.role ≡ false)
    id_own is = automatic_own (plain_field (codes "id") type.Integer) (2, omega arith, refl) refl is

    abbrev place_here : Place
    place_here = record { models = models; number = number; member = m }

    id_right : is_id_from info.origin ≡ bytes_eq info.name (codes "id")
    id_right =
        is_id_info place_here g field info.origin own of.origin
        ∙ sym (ap (λ (name : List ℕ). bytes_eq name (codes "id")) of.name)
      where
        own : bytes_eq m.def.name (codes "id") ≡ true → (is_computed m.def ≡ false) × (is_delegated m.role ≡ false)
        own is = let id = id_own ((bytes_eq-Decides m.def.name (codes "id")).0 is) in (ap is_computed id.0, id.1)

    -- it is plain, but for the id
    automatic_plain : (d : FieldDef) → Contains automatic_defs d → is_automatic d.name ≡ true → bytes_eq d.name (codes "id") ≡ false → is_computed d ≡ false → bytes_eq info.name d.name ≡ true
        → (m.def ≡ d) × (is_plain_from info.origin ≡ true)
    automatic_plain d automatic known other computed spelled =
        let is : info.name ≡ d.name = (bytes_eq-Decides info.name d.name).0 spelled in
        let own = automatic_own d automatic known (sym of.name ∙ is) in
        let given = given_info place_here g field info.origin (ap is_computed own.0 ∙ computed) own.1 of.origin in
        let no_id : is_id_from info.origin ≡ false = id_right ∙ ap (λ (n : List ℕ). bytes_eq n (codes "id")) is ∙ other in
        (own.0, given_plain info.origin given no_id)

    moment_of : (name : List ℕ) → (m.def ≡ moment_def name) × (is_plain_from info.origin ≡ true) → (is_plain_from info.origin ≡ true) × (info.managed ≡ true)
    moment_of name own = (own.1, of.managed ∙ ap (λ (d : FieldDef). is_set d.managed) own.0)

    moment_right : is_moment info.name ≡ true → (is_plain_from info.origin ≡ true) × (info.managed ≡ true)
    moment_right moment = by (bytes_eq info.name (codes "create_date")) refl (bytes_eq info.name (codes "write_date")) refl moment
      where
        by : (a : Bool) → bytes_eq info.name (codes "create_date") ≡ a → (b : Bool) → bytes_eq info.name (codes "write_date") ≡ b → (a || (b || false)) ≡ true
            → (is_plain_from info.origin ≡ true) × (info.managed ≡ true)
        by true made b changed e = moment_of (codes "create_date") (automatic_plain (moment_def (codes "create_date")) (0, omega arith, refl) refl refl refl made)
        by false made true changed e = moment_of (codes "write_date") (automatic_plain (moment_def (codes "write_date")) (3, omega arith, refl) refl refl refl changed)
        by false made false changed e = absurd (false≢true e)

    given_right : is_given_from info.origin ≡ true → has_value_of info ≡ true
    given_right given = of.store ∙ by info.origin given of.origin
      where
        valued : (b : Bool) → not b ≡ true → (not b || is_set m.def.store) ≡ true
        valued true e = absurd (false≢true e)
        valued false e = refl

        by : (o : Origin) → is_given_from o ≡ true → IsOrigin place_here g field o → has_value m.def ≡ true
        by origin.Id given from = ap has_value (id_own from).0
        by origin.Plain given from = valued (is_computed m.def) (plain_parts m from).1
        by (origin.Delegated to) given from = absurd (false≢true given)
        by (origin.Computed formula) given from = absurd (false≢true given)

    module _ (to : Delegation) (d : IsDelegation models g m to) where
      delegating : Contains (links_of models g) d.through × IsFromParent models d.through m
      delegating = by among
        where
          by : Contains (members_of models g) m ⊎ Contains (hidden_members g) m → Contains (links_of models g) d.through × IsFromParent models d.through m
          by (inl here) = delegated_from models g m d.through here d.role
          by (inr condition) = absurd (let both : ◌≡◌ {A = Role} hidden (delegated d.through) = sym (hidden_computed g m condition).0 ∙ d.role in cc)

      link_there : Any (λ parent. (parent.link ≡ to.link) × (parent.model ≡ to.model)) minfo.inherits
      link_there =
          let linked = delegating.0 in
          let links = links_of models g in
          let placed : slice_get links linked.0 ≡ Some d.through = slice_get-get_or links linked.0 d.through linked.1 ∙ ap (λ (i : Inherits). Some i) linked.2 in
          let parent = value_there (λ p. IsParentOf models g d.through p) (slice_get minfo.inherits linked.0)
          (zip_there (IsParentOf models g) links minfo.inherits (parents_of models g minfo model_is) linked.0 d.through placed) in
          let both = parent.2 in (
            linked.0,
            parent.0,
            slice_get_within minfo.inherits linked.0 parent.0 parent.1,
            get_or_from_slice_get minfo.inherits linked.0 parent.0 parent.0 parent.1,
            (both.0 ∙ sym d.link, same_Some parent.0.model to.model (sym both.1 ∙ d.model)),
          )

      target_there : FieldHas infos (λ other. HasKeysOf other info) to.model to.field
      target_there =
          let from = delegating.1 in
          let same : from.parent ≡ d.parent = same_Some from.parent d.parent (sym from.there ∙ d.there) in
          let known : model_at models to.model.0 ≡ Some from.parent = number_there models d.through.model to.model from.parent d.model from.there in
          let number_is : number_of models from.parent from.source.def.name ≡ to.field =
          ap (λ (h : Gathered). number_of models h from.source.def.name) same ∙ ap (λ (f : FieldDef). number_of models d.parent f.name) from.def ∙ sym d.field in
          let own = registry.field to.model to.field from.parent from.source (by_name (step_at to.model to.field) from.parent from.source known (own_among models from.parent from.source from.among) number_is) in
          has to.model to.field from.parent from.source own
          (λ other. HasKeysOf other info) (record {
            name = own.is.name ∙ ap (λ (f : FieldDef). f.name) from.def ∙ sym of.name;
            field_type = own.is.field_type ∙ ap (λ (f : FieldDef). f.field_type) from.def ∙ sym of.field_type;
            string = own.is.string ∙ ap (λ (f : FieldDef). unwrap_or f.string f.name) from.def ∙ sym of.string;
            required = own.is.required ∙ ap (λ (f : FieldDef). is_set f.required) from.def ∙ sym of.required;
            default = own.is.default ∙ ap (λ (f : FieldDef). f.default) from.def ∙ sym of.default;
            store = own.is.store ∙ ap has_value from.def ∙ sym of.store;
            recursive = own.is.recursive ∙ ap (λ (f : FieldDef). is_set f.recursive) from.def ∙ sym of.recursive;
            relation = own.is.relation ∙ ap (relation_of models) from.def ∙ sym of.relation;
            inverse = own.is.inverse ∙ ap (λ (f : FieldDef). back_number models f f.inverse) from.def ∙ sym of.inverse;
            mirror = own.is.mirror ∙ ap (λ (f : FieldDef). back_number models f f.mirror) from.def ∙ sym of.mirror;
            ondelete = own.is.ondelete ∙ ap (λ (f : FieldDef). unwrap_or f.ondelete ondelete.SetNull) from.def ∙ sym of.ondelete;
            selection = own.is.selection ∙ ap (λ (f : FieldDef). unwrap_or f.selection []) from.def ∙ sym of.selection;
            groups = own.is.groups ∙ ap (λ (f : FieldDef). unwrap_or f.groups []) from.def ∙ sym of.groups;
            managed = own.is.managed ∙ ap (λ (f : FieldDef). is_set f.managed) from.def ∙ sym of.managed;
            fixed = own.is.fixed ∙ ap (λ (f : FieldDef). is_set f.fixed) from.def ∙ sym of.fixed;
            secret = own.is.secret ∙ ap (λ (f : FieldDef). is_set f.secret) from.def ∙ sym of.secret;
          })

    origin_right : (o : Origin) → info.origin ≡ o → IsOriginIn infos number minfo info o
    origin_right origin.Id e = of.field_type ∙ ap (λ (d : FieldDef). d.field_type) (id_own (subst (IsOrigin (record { models = models; number = number; member = m }) g field) e of.origin)).0
    origin_right origin.Plain e = tt
    origin_right (origin.Delegated to) e =
        let d : IsDelegation models g m to = subst (IsOrigin (record { models = models; number = number; member = m }) g field) e of.origin in
        record { link = link_there to d; target = target_there to d }
    origin_right (origin.Computed formula) e = formulas_in number field info formula here e

    -- where each name of a model has its number in the registry
    module _ (alike : (name : List ℕ) → model_number models name ≡ model_named infos name) where
      user_of : (name : List ℕ) → (m.def ≡ user_def name) × (is_plain_from info.origin ≡ true) → IsUserField infos info
      user_of name own =
          let leads : info.relation ≡ model_named infos users_name = of.relation ∙ ap (relation_of models) own.0 ∙ alike users_name in
          let target = relation_there (ap (λ (d : FieldDef). is_relation d.field_type) own.0) in
          let users : model_named infos users_name ≡ Some target.0 = sym leads ∙ of.relation ∙ target.1 in
          let unmirrored : info.mirror ≡ None = of.mirror ∙ ap (λ (d : FieldDef). back_number models d d.mirror) own.0 in
          record {
            many2one = of.field_type ∙ ap (λ (d : FieldDef). d.field_type) own.0;
            users = known_by (model_named infos users_name) (λ users. IsPlainTo users info) target.0 users (record { plain = own.1; leads = of.relation ∙ target.1 });
            kept = ap (λ (b : Bool). b && stands_own info) own.1 ∙ ap (λ (t : FieldType). not (is_one2many t) && is_none info.mirror) (of.field_type ∙ ap (λ (d : FieldDef). d.field_type) own.0)
                ∙ ap (λ (o : Option FieldNo). is_none o) unmirrored;
            managed = of.managed ∙ ap (λ (d : FieldDef). is_set d.managed) own.0;
            not_required = of.required ∙ ap (λ (d : FieldDef). is_set d.required) own.0;
            ondelete = of.ondelete ∙ ap (λ (d : FieldDef). unwrap_or d.ondelete ondelete.SetNull) own.0;
          }

      user_right : is_user info.name ≡ true → IsUserField infos info
      user_right user = by (bytes_eq info.name (codes "create_uid")) refl (bytes_eq info.name (codes "write_uid")) refl user
        where
          by : (a : Bool) → bytes_eq info.name (codes "create_uid") ≡ a → (b : Bool) → bytes_eq info.name (codes "write_uid") ≡ b → (a || (b || false)) ≡ true → IsUserField infos info
          by true made b changed e = user_of (codes "create_uid") (automatic_plain (user_def (codes "create_uid")) (1, omega arith, refl) refl refl refl made)
          by false made true changed e = user_of (codes "write_uid") (automatic_plain (user_def (codes "write_uid")) (4, omega arith, refl) refl refl refl changed)
          by false made false changed e = absurd (false≢true e)

    -- the field is right
    pub field_right : ((name : List ℕ) → model_number models name ≡ model_named infos name) → IsField infos number minfo info
    field_right alike = record {
      relation = λ is. (
          let target = relation_there (ap is_relation (sym of.field_type) ∙ is) in
          known_by info.relation (HasModel infos) target.0 (of.relation ∙ target.1) (model_here target.0 target.2));
      relation_alone = relation_alone;
      inverse = inverse_alone;
      mirror = mirror_alone;
      inverse_back = λ plain. leads_back number g m info of.relation type.Many2one is_many2one refl info.inverse m.def.inverse of.inverse
          (λ unknown. right_field models registry.resolved number g there m (inl (mine plain)) wrong.Field (inl unknown))
          (λ other. right_field models registry.resolved number g there m (inl (mine plain)) wrong.Inverse (inl other));
      mirror_back = λ plain. leads_back number g m info of.relation type.Many2many is_many2many refl info.mirror m.def.mirror of.mirror
          (λ unknown. right_field models registry.resolved number g there m (inl (mine plain)) wrong.Field (inr unknown))
          (λ other. right_field models registry.resolved number g there m (inl (mine plain)) wrong.Inverse (inr other));
      default = default_right;
      origin = origin_right info.origin refl;
      id = id_right;
      moment = moment_right;
      user = user_right alike;
      given = given_right;
    }
