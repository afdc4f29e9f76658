-- What the registry says of fields that the steps meet: relations, lists, and what parents have.
use Rattle.std.proofs.Common.{◌≡◌, true, false, List, Option, Some, None, is_some, refl, sym, ap, subst, ◌∙◌}
use Rattle.std.specs.Prelude.{IfSome, IsSomeAnd}
use Rattle.std.proofs.lemmas.Bool.{false≢true}
use Rattle.ob_base.specs.declared.id.FieldNo.{FieldNo}
use Rattle.ob_base.specs.declared.id.ModelNo.{ModelNo}
use Rattle.ob_cache.specs.Stages.{IsKeptRelation}
use Rattle.ob_effect.specs.Lists.{IsKeptList}
use Rattle.ob_effect.specs.Parents.{StandsBehind}
use Rattle.ob_effect.specs.Relations.{IsRelation, KeepsRelation}
use Rattle.ob_effect.specs.Rows.{IsLinkField}
use Rattle.ob_effect.specs.declared.relations.KeptRelation.{KeptRelation}
use Rattle.ob_definition.specs.Keys.{is_many2many, is_many2one}
use Rattle.ob_definition.specs.Types.{is_list, is_one2many, is_relation}
use Rattle.ob_definition.specs.declared.field_type.FieldType.{FieldType}
use Rattle.ob_definition.specs.declared.field_type.FieldType.TheVariants as type
use Rattle.ob_schema.specs.Fields.{is_plain_from, is_plain_kept}
use Rattle.ob_schema.specs.Models.{FieldHas, HasKeysOf, HasModel, IsField, IsOriginIn, IsPlainTo, IsRegistry, LeadsBack, field_at}
use Rattle.ob_schema.specs.declared.info.Delegation.{Delegation}
use Rattle.ob_schema.specs.declared.info.FieldInfo.{FieldInfo}
use Rattle.ob_schema.specs.declared.info.ModelInfo.{ModelInfo}
use Rattle.ob_schema.specs.declared.info.Origin.{Origin}
use Rattle.ob_schema.specs.declared.info.Origin.TheVariants as origin
use Rattle.ob_schema.specs.declared.info.ParentInfo.{ParentInfo}
use Rattle.ob_tables.proofs.CallerLemmas.{Field-at, known_at, tell_and}

-- ---- types

list_leads : (t : FieldType) → is_list t ≡ true → is_relation t ≡ true
list_leads type.One2many is = refl
list_leads type.Many2many is = refl
list_leads _ is = absurd cc

many2one_of : (t : FieldType) → is_many2one t ≡ true → t ≡ type.Many2one
many2one_of type.Many2one is = refl
many2one_of _ is = absurd cc

many2many_of : (t : FieldType) → is_many2many t ≡ true → t ≡ type.Many2many
many2many_of type.Many2many is = refl
many2many_of _ is = absurd cc

-- a list that is no one2many is a many2many
other_list : (t : FieldType) → is_list t ≡ true → is_one2many t ≡ false → t ≡ type.Many2many
other_list type.Many2many is none = refl
other_list type.One2many is none = absurd cc
other_list _ is none = absurd cc

-- a plain many2one, and a plain many2many that mirrors none, stand in the row itself
kept_one : (f : FieldInfo) → is_plain_from f.origin ≡ true → f.field_type ≡ type.Many2one → f.mirror ≡ None → is_plain_kept f ≡ true
kept_one f plain own none = rw (plain, own, none) refl

kept_many : (f : FieldInfo) → is_plain_from f.origin ≡ true → f.field_type ≡ type.Many2many → f.mirror ≡ None → is_plain_kept f ≡ true
kept_many f plain own none = rw (plain, own, none) refl

-- ---- relations

module _ (models : List ModelInfo) (registry : IsRegistry models) (model : ModelNo) (number : FieldNo) (f : FieldInfo) (at : field_at models model number ≡ Some f) where
  right : IsField models model (Field-at models model number f registry at).info f
  right = (Field-at models model number f registry at).right

  -- the field's model is there
  pub own_model : HasModel models model
  own_model = ap (λ (o : Option ModelInfo). is_some o) (Field-at models model number f registry at).model_is

  -- what it leads to is a model
  pub leads_to_model : (target : ModelNo) → f.relation ≡ Some target → HasModel models target
  leads_to_model target leads =
      let some : is_relation f.field_type ≡ true = sym right.relation_alone ∙ ap (λ (o : Option ModelNo). is_some o) leads in
      known_at f.relation target (HasModel models) leads (right.relation some)

  -- a relation that a field keeps
  pub relation_kept : (r : KeptRelation) → KeepsRelation model number f r → IsRelation models r
  relation_kept r keeps = record {
    field = subst (λ (n : FieldNo). FieldHas models (λ info. IsKeptRelation info × (info.relation ≡ Some r.target)) r.model n) (sym keeps.field_is)
        (subst (λ (m : ModelNo). FieldHas models (λ info. IsKeptRelation info × (info.relation ≡ Some r.target)) m number) (sym keeps.model_is)
        (tell_and (field_at models model number) f (λ info. IsKeptRelation info × (info.relation ≡ Some r.target)) at
        ((keeps.kept, sym right.relation_alone ∙ ap (λ (o : Option ModelNo). is_some o) keeps.target), keeps.target)));
    model = subst (HasModel models) (sym keeps.model_is) own_model;
    target = leads_to_model r.target keeps.target;
  }

  -- ---- lists

  module _ (plain : is_plain_from f.origin ≡ true) (list : is_list f.field_type ≡ true) where
    -- a list leads to a model
    pub list_leads_on : f.relation ≡ None → ⊥
    list_leads_on none =
        let some = right.relation_alone ∙ list_leads f.field_type list in
        false≢true (sym (ap (λ (o : Option ModelNo). is_some o) none) ∙ some)

    module _ (target : ModelNo) (leads : f.relation ≡ Some target) where
      -- a one2many stands in a many2one of its rows
      pub stands_in_inverse : (inverse : FieldNo) → f.inverse ≡ Some inverse → IsLinkField models target inverse
      stands_in_inverse inverse is = linked (field_at models target inverse) (known_at f.relation target (λ (m : ModelNo). FieldHas models Back m inverse) leads back) where
        Back : FieldInfo → Type 0
        Back other = IsPlainTo model other × (is_many2one other.field_type ≡ true) × (other.mirror ≡ None)

        back : IsSomeAnd f.relation (λ (m : ModelNo). FieldHas models Back m inverse)
        back = let all : IfSome (Some inverse) (LeadsBack models model f is_many2one) = subst (λ (o : Option FieldNo). IfSome o (LeadsBack models model f is_many2one)) is (right.inverse_back plain) in all

        linked : (o : Option FieldInfo) → IsSomeAnd o Back → IsSomeAnd o (λ info. (is_plain_kept info ≡ true) × (info.field_type ≡ type.Many2one))
        linked None has = absurd has
        linked (Some other) has = let own = many2one_of other.field_type has.1 in (kept_one other has.0.plain own has.2, own)

      -- one that mirrors stands in a many2many of its rows
      pub stands_in_mirror : (mirror : FieldNo) → f.mirror ≡ Some mirror → IsKeptList models target mirror
      stands_in_mirror mirror is = kept (field_at models target mirror) (known_at f.relation target (λ (m : ModelNo). FieldHas models Back m mirror) leads back) where
        Back : FieldInfo → Type 0
        Back other = IsPlainTo model other × (is_many2many other.field_type ≡ true) × (other.mirror ≡ None)

        back : IsSomeAnd f.relation (λ (m : ModelNo). FieldHas models Back m mirror)
        back = let all : IfSome (Some mirror) (LeadsBack models model f is_many2many) = subst (λ (o : Option FieldNo). IfSome o (LeadsBack models model f is_many2many)) is (right.mirror_back plain) in all

        kept : (o : Option FieldInfo) → IsSomeAnd o Back → IsSomeAnd o (λ info. (is_plain_kept info ≡ true) × (info.field_type ≡ type.Many2many))
        kept None has = absurd has
        kept (Some other) has = let own = many2many_of other.field_type has.1 in (kept_many other has.0.plain own has.2, own)

    -- another one stands in its own row
    pub stands_in_own : f.inverse ≡ None → f.mirror ≡ None → IsKeptList models model number
    stands_in_own inverse mirror =
        let none : is_one2many f.field_type ≡ false = sym right.inverse ∙ ap (λ (o : Option FieldNo). is_some o) inverse in
        let own = other_list f.field_type list none in
        tell_and (field_at models model number) f (λ info. (is_plain_kept info ≡ true) × (info.field_type ≡ type.Many2many)) at (kept_many f plain own mirror, own)

  -- ---- parents

  -- a delegated field has the keys of the parent's
  pub behind_stands : (to : Delegation) (parent : ParentInfo) → f.origin ≡ origin.Delegated to → to.model ≡ parent.model → StandsBehind models model parent number to.field
  behind_stands to parent is same =
      let own : IsOriginIn models model (Field-at models model number f registry at).info f (origin.Delegated to) =
      subst (λ (o : Origin). IsOriginIn models model (Field-at models model number f registry at).info f o) is right.origin in
      tell_and (field_at models model number) f (λ own. FieldHas models (λ other. HasKeysOf other own) parent.model to.field) at
      (subst (λ (m : ModelNo). FieldHas models (λ other. HasKeysOf other f) m to.field) same own.target)
