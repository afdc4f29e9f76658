-- What the registry has of a model's own fields.
use Rattle.std.proofs.Common.{◌≡◌, ℕ, zero, suc, ◌&&◌, Bool, true, false, cond, not, Option, Some, List, map, inl, inr, refl, sym, ap, subst, ◌∙◌, arith}
use Rattle.std.specs.Prelude.{Contains, IsSomeAnd, codes}
use Rattle.std.proofs.lemmas.Bool.{and_parts, false≢true}
use Rattle.std.proofs.lemmas.List.Elements.{Contains-append_left}
use Rattle.std.proofs.lemmas.Option.{get_or_from_slice_get, same_Some, slice_get_within}
use Rattle.ob_base.specs.declared.id.FieldNo.{FieldNo}
use Rattle.ob_base.specs.declared.id.ModelNo.{ModelNo}
use Rattle.ob_expr.specs.declared.kind.Kind.{Kind}
use Rattle.ob_expr.specs.declared.kind.Kind.TheVariants as kind
use Rattle.ob_definition.specs.declared.definition.FieldDef.{FieldDef}
use Rattle.ob_definition.specs.declared.field_type.FieldType.{FieldType}
use Rattle.ob_definition.specs.declared.field_type.FieldType.TheVariants as type
use Rattle.ob_definition.specs.declared.wrong.Wrong.TheVariants as wrong
use Rattle.ob_definition.specs.Definitions.{is_computed, plain_field}
use Rattle.ob_definition.specs.Gathered.{Gathered, IsWellNamed}
use Rattle.ob_definition.specs.Keys.{computed_fits, fits, plain_fits}
use Rattle.ob_definition.specs.Members.{Member, Role, own, delegated, is_delegated, automatic_defs, given_members, model_at, named, number_of, own_member, own_members}
use Rattle.ob_definition.specs.Types.{is_relation}
use Rattle.ob_schema.specs.declared.info.FieldInfo.{FieldInfo}
use Rattle.ob_schema.specs.declared.info.ModelInfo.{ModelInfo}
use Rattle.ob_schema.specs.declared.info.Origin.{Origin}
use Rattle.ob_schema.specs.declared.info.Origin.TheVariants as origin
use Rattle.ob_registry.specs.Building.{AreResolved}
use Rattle.ob_schema.specs.Built.{IsOrigin}
use Rattle.ob_schema.specs.Fields.{has_value_of, is_plain_from}
use Rattle.ob_schema.specs.Finds.{kind_of_field, kind_of_type, relation_of}
use Rattle.ob_schema.specs.Models.{FieldHas, IsPlainTo, IsRefTo, LeadsOn, MayEnd, field_at, is_delegated_from, kind_of_info}
use Rattle.ob_schema.specs.Paths.{has_value, step_at}
use Rattle.ob_registry.specs.RegistryOf.{HasFieldInfo, IsRegistryOf}
use Rattle.ob_schema.specs.Strata.IsMember.{by_name}
use Rattle.ob_registry.proofs.Defaults.{computed_bare, own_fits}
use Rattle.ob_registry.proofs.Delegated.{own_among, own_role}
use Rattle.ob_schema.proofs.CallerLemmas.{contains-mapped, known_both}
use Rattle.ob_registry.proofs.NameOrder.{named_there}
use Rattle.ob_registry.proofs.OwnNames.{own_apart}
use Rattle.ob_registry.proofs.Resolved.{right_field}

module _ (models : List Gathered) (resolved : AreResolved models) where
  -- a model's fields have names of their own
  pub well_named : (n : ℕ) (g : Gathered) → model_at models n ≡ Some g → IsWellNamed g
  well_named zero g there = absurd (cc)
  well_named (suc i) g there = subst IsWellNamed (get_or_from_slice_get models i g g there) (resolved.named.each i g (slice_get_within models i g there))

  -- ---- a model's own fields

  module _ (number : ModelNo) (g : Gathered) (there : model_at models number.0 ≡ Some g) (s : Member) (among : Contains (own_members models g) s) where
    -- a field of an automatic one's name is that one
    pub automatic_def : (d : FieldDef) → Contains automatic_defs d → s.def.name ≡ d.name → s.def ≡ d
    automatic_def d automatic is =
        let mine = own_members models g in
        let apart = own_apart models g (well_named number.0 g there) in
        let m : Member = own_member g.entry d in
        let first : Contains (map (own_member g.entry) automatic_defs) m = contains-mapped (own_member g.entry) automatic_defs d automatic in
        let given : Contains (given_members g) m = Contains-append_left (map (own_member g.entry) automatic_defs) _ m first in
        let all : Contains mine m = Contains-append_left (given_members g) _ m given in
        let two : ◌≡◌ {A = Option Member} (Some s) (Some m) = sym (named_there mine apart s among) ∙ ap (named mine) is ∙ named_there mine apart m all in
        ap (λ (m : Member). m.def) (same_Some s m two)

    -- so is one of the name `id`
    pub id_integer : s.def.name ≡ codes "id" → s.def.field_type ≡ type.Integer
    id_integer is = ap (λ (d : FieldDef). d.field_type) (automatic_def (plain_field (codes "id") type.Integer) (2, omega arith, refl) is)

    pub own_fit : fits s.def ≡ true
    own_fit = by (fits s.def) refl
      where
        by : (b : Bool) → fits s.def ≡ b → b ≡ true
        by true e = refl
        by false e = absurd (right_field models resolved number g there s (inl among) wrong.Kind (inr e))

    -- a relation isn't computed
    pub relation_given : is_relation s.def.field_type ≡ true → is_computed s.def ≡ false
    relation_given is = by (is_computed s.def) refl
      where
        by : (b : Bool) → is_computed s.def ≡ b → b ≡ false
        by false e = refl
        by true e =
            let fit : computed_fits s.def ≡ true = subst (λ (b : Bool). cond b (computed_fits s.def) (plain_fits s.def) ≡ true) e (own_fits s.def own_fit) in
            absurd (false≢true (sym (computed_bare s.def fit).relation ∙ is))

    not_both : (a b : Bool) → (a && b) ≡ true → b ≡ true
    not_both a b e = (and_parts a b e).1

    -- but plain
    pub relation_plain : is_relation s.def.field_type ≡ true → (field : FieldNo) (from : Origin) → IsOrigin (record { models = models; number = number; member = s }) g field from → is_plain_from from ≡ true
    relation_plain is field origin.Id of = absurd (false≢true (ap is_relation (sym (id_integer of)) ∙ is))
    relation_plain is field origin.Plain of = refl
    relation_plain is field (origin.Delegated at) of = absurd (let both : ◌≡◌ {A = Role} own (delegated of.through) = sym (own_role models g s among) ∙ of.role in cc)
    relation_plain is field (origin.Computed formula) of = absurd (false≢true (sym (relation_given is) ∙ not_both (not (is_delegated s.role)) (is_computed s.def) of.has.computed))

module _ (models : List Gathered) (infos : List ModelInfo) (registry : IsRegistryOf models infos) where
  module _ (number : ModelNo) (g : Gathered) (there : model_at models number.0 ≡ Some g) (s : Member) (among : Contains (own_members models g) s) where
    abbrev own_at : FieldNo
    own_at = number_of models g s.def.name

    own_info : HasFieldInfo models infos number own_at g s
    own_info = registry.field number own_at g s (by_name (step_at number own_at) g s there (own_among models g s among) refl)

    has : (P : FieldInfo → Type 0) → P own_info.info → FieldHas infos P number own_at
    has P holds = subst (λ (o : Option FieldInfo). IsSomeAnd o P) (sym own_info.at) holds

    plain_to : (target : ModelNo) → is_relation s.def.field_type ≡ true → relation_of models s.def ≡ Some target → IsPlainTo target own_info.info
    plain_to target is leads =
        let of = own_info.is in
        record {
          plain = relation_plain models registry.resolved number g there s among is own_at own_info.info.origin of.origin;
          leads = of.relation ∙ leads;
        }

    of_kind : (k : Kind) → kind_of_field models s.def ≡ Some k → kind_of_info own_info.info ≡ Some k
    of_kind k kinded =
        let of = own_info.is in
        ap (λ (t : FieldType). kind_of_type t own_info.info.relation) of.field_type ∙ ap (kind_of_type s.def.field_type) of.relation ∙ kinded

    -- a relation of a model leads to its rows
    pub own_leads : (target : ModelNo) → is_relation s.def.field_type ≡ true → relation_of models s.def ≡ Some target → FieldHas infos (LeadsOn target) number (number_of models g s.def.name)
    own_leads target is leads = has (LeadsOn target) (plain_to target is leads)

    -- a many2one to one of them
    pub own_refers : (target : ModelNo) → is_relation s.def.field_type ≡ true → relation_of models s.def ≡ Some target → kind_of_field models s.def ≡ Some (kind.Ref target)
        → FieldHas infos (IsRefTo target) number (number_of models g s.def.name)
    own_refers target is leads kinded = has (IsRefTo target) (record { leads_on = plain_to target is leads; one = of_kind (kind.Ref target) kinded })

    -- a field with a value has it, of its kind
    pub own_valued : has_value s.def ≡ true → FieldHas infos (λ info. has_value_of info ≡ true) number (number_of models g s.def.name)
    own_valued valued = has (λ info. has_value_of info ≡ true) (own_info.is.store ∙ valued)

    not_delegated : (field : FieldNo) (from : Origin) → IsOrigin (record { models = models; number = number; member = s }) g field from → is_delegated_from from ≡ false
    not_delegated field origin.Id of = refl
    not_delegated field origin.Plain of = refl
    not_delegated field (origin.Computed formula) of = refl
    not_delegated field (origin.Delegated at) of = absurd (let both : ◌≡◌ {A = Role} own (delegated of.through) = sym (own_role models g s among) ∙ of.role in cc)

    -- a model's own field isn't delegated
    pub own_undelegated : FieldHas infos (λ info. is_delegated_from info.origin ≡ false) number (number_of models g s.def.name)
    own_undelegated = has (λ info. is_delegated_from info.origin ≡ false) (not_delegated own_at own_info.info.origin own_info.is.origin)

    -- so a path may end at one with a value
    pub own_ends : has_value s.def ≡ true → FieldHas infos MayEnd number (number_of models g s.def.name)
    own_ends valued = known_both (field_at infos number own_at) (λ info. has_value_of info ≡ true) (λ info. is_delegated_from info.origin ≡ false) MayEnd (λ info there mine. (there, mine)) (own_valued valued) own_undelegated

    pub own_kinded : (k : Kind) → kind_of_field models s.def ≡ Some k → has_value s.def ≡ true
        → FieldHas infos (λ info. (kind_of_info info ≡ Some k) × (has_value_of info ≡ true)) number (number_of models g s.def.name)
    own_kinded k kinded valued = has (λ info. (kind_of_info info ≡ Some k) × (has_value_of info ≡ true)) (of_kind k kinded, own_info.is.store ∙ valued)
