-- Lists of rows and links to parents, as a registry has them: which cells they are.
use Rattle.std.proofs.Common.{◌≡◌, true, false, List, [], Option, Some, None, refl, sym, ap, subst, ◌∙◌, arith}
use Rattle.std.specs.Prelude.{Any, Contains, IsSomeAnd, is_some}
use Rattle.std.proofs.lemmas.Bool.{false≢true}
use Rattle.std.proofs.lemmas.List.Elements.{All-contains}
use Rattle.ob_base.specs.declared.id.FieldNo.{FieldNo}
use Rattle.ob_base.specs.declared.id.ModelNo.{ModelNo}
use Rattle.ob_effect.proofs.GivenValues.{field_there, model_there}
use Rattle.ob_effect.specs.Lists.{IsListField}
use Rattle.ob_effect.specs.Parents.{IsParentOf}
use Rattle.ob_effect.specs.Rows.{IsLinkField}
use Rattle.ob_definition.specs.Keys.{is_many2many}
use Rattle.ob_definition.specs.Types.{is_list, is_relation}
use Rattle.ob_definition.specs.declared.field_type.FieldType.{FieldType}
use Rattle.ob_definition.specs.declared.field_type.FieldType.TheVariants as type
use Rattle.ob_definition.specs.declared.field_type.OnDelete.TheVariants as ondelete
use Rattle.ob_schema.specs.Fields.{is_plain_from, is_plain_kept}
use Rattle.ob_schema.specs.Models.{FieldHas, HasKeysOf, HasModel, IsField, IsOriginIn, IsParentIn, IsPlainTo, IsRegistry, field_at, is_given_from, model_at}
use Rattle.ob_schema.specs.declared.info.Delegation.{Delegation}
use Rattle.ob_schema.specs.declared.info.FieldInfo.{FieldInfo}
use Rattle.ob_schema.specs.declared.info.ModelInfo.{ModelInfo}
use Rattle.ob_schema.specs.declared.info.Origin.{Origin}
use Rattle.ob_schema.specs.declared.info.Origin.TheVariants as origin
use Rattle.ob_schema.specs.declared.info.ParentInfo.{ParentInfo}
use Rattle.ob_tables.proofs.CallerLemmas.{Any-at_all, Field-at, known_at, tell_and, there_is, told_and}

-- a list is a relation
leads : (t : FieldType) → is_list t ≡ true → is_relation t ≡ true
leads type.One2many is = refl
leads type.Many2many is = refl
leads _ is = absurd cc

-- what calls give is given
given_plain : (o : Origin) → is_plain_from o ≡ true → is_given_from o ≡ true
given_plain origin.Plain is = refl
given_plain _ is = absurd cc

-- a many2one mirrors none, so that the row of a plain one keeps it
kept_link : (f : FieldInfo) → is_plain_from f.origin ≡ true → f.field_type ≡ type.Many2one → (is_some f.mirror ≡ true → is_many2many f.field_type ≡ true) → is_plain_kept f ≡ true
kept_link f plain own mirror = by f.mirror refl where
  by : (o : Option FieldNo) → f.mirror ≡ o → is_plain_kept f ≡ true
  by None none = rw (plain, own, none) refl
  by (Some m) some =
      let many : is_many2many type.Many2one ≡ true = sym (ap is_many2many own) ∙ mirror (ap (λ (o : Option FieldNo). is_some o) some) in
      absurd (false≢true many)

module _ (models : List ModelInfo) (registry : IsRegistry models) where
  -- ---- lists

  module _ (model : ModelNo) (number : FieldNo) (f : FieldInfo) (at : field_at models model number ≡ Some f) (list : is_list f.field_type ≡ true) where
    right : IsField models model (Field-at models model number f registry at).info f
    right = (Field-at models model number f registry at).right

    -- one that no parent's row has is given by calls
    plain_else : (o : Origin) → IsOriginIn models model (Field-at models model number f registry at).info f o → ((to : Delegation) → o ≡ origin.Delegated to → ⊥) → is_plain_from o ≡ true
    plain_else origin.Plain is none = refl
    plain_else origin.Id is none = absurd (false≢true (sym (ap is_list is) ∙ list))
    plain_else (origin.Delegated to) is none = absurd (none to refl)
    plain_else (origin.Computed formula) is none = absurd (false≢true (sym is.no_relation ∙ leads f.field_type list))

    pub own_list : ((to : Delegation) → f.origin ≡ origin.Delegated to → ⊥) → IsListField models model number
    own_list none = tell_and (field_at models model number) f (λ info. (is_plain_from info.origin ≡ true) × (is_list info.field_type ≡ true)) at (plain_else f.origin right.origin none, list)

  -- ---- parents

  -- a parent's own fields aren't delegated
  undelegated : (model : ModelNo) (number : FieldNo) (f : FieldInfo) → field_at models model number ≡ Some f → IsSomeAnd (model_at models model) (λ info. info.inherits ≡ []) → (to : Delegation) → f.origin ≡ origin.Delegated to → ⊥
  undelegated model number f at single to is =
      let known = Field-at models model number f registry at in
      let own : IsOriginIn models model known.info f (origin.Delegated to) = subst (λ (o : Origin). IsOriginIn models model known.info f o) is known.right.origin in
      let none : known.info.inherits ≡ [] = known_at (model_at models model) known.info (λ info. info.inherits ≡ []) known.model_is single in
      let (k, parent, within, same, said) = subst (λ (ps : List ParentInfo). Any (λ parent. (parent.link ≡ to.link) × (parent.model ≡ to.model)) ps) none own.link in
      omega (arith, within)

  module _ (model : ModelNo) (number : FieldNo) (f : FieldInfo) (at : field_at models model number ≡ Some f) (to : Delegation) (is : f.origin ≡ origin.Delegated to) where
    -- the parent of a delegated field
    parent_of : (parent : ParentInfo) × ((parent.link ≡ to.link) × (parent.model ≡ to.model)) × IsParentIn models model parent
    parent_of =
        let known = Field-at models model number f registry at in
        let own : IsOriginIn models model known.info f (origin.Delegated to) = subst (λ (o : Origin). IsOriginIn models model known.info f o) is known.right.origin in
        Any-at_all (λ (p : ParentInfo). (p.link ≡ to.link) × (p.model ≡ to.model)) (IsParentIn models model) known.info.inherits known.valid.parents own.link

    -- its link is given to the row
    pub link_given : FieldHas models (λ info. is_given_from info.origin ≡ true) model to.link
    link_given =
        let (parent, said, leads_on) = parent_of in
        subst (λ (n : FieldNo). FieldHas models (λ info. is_given_from info.origin ≡ true) model n) said.0 (by parent.model (field_at models model parent.link) leads_on.link)
      where
        by : (m : ModelNo) (o : Option FieldInfo) → IsSomeAnd o (λ field. IsPlainTo m field × (field.field_type ≡ type.Many2one) × (field.required ≡ true) × (field.ondelete ≡ ondelete.Cascade)) → IsSomeAnd o (λ info. is_given_from info.origin ≡ true)
        by m None h = absurd h
        by m (Some g) h = given_plain g.origin h.0.plain

    -- and what it stands for is a field of the parent's
    target : FieldHas models (λ other. HasKeysOf other f) to.model to.field
    target =
        let known = Field-at models model number f registry at in
        let own : IsOriginIn models model known.info f (origin.Delegated to) = subst (λ (o : Origin). IsOriginIn models model known.info f o) is known.right.origin in
        own.target

    pub parent_model : HasModel models to.model
    parent_model = model_there models to.model to.field (field_there models to.model to.field (λ other. HasKeysOf other f) target)

    -- a list, if it is one
    pub parent_list : is_list f.field_type ≡ true → IsListField models to.model to.field
    parent_list list =
        let (parent, said, leads_on) = parent_of in
        let (other, there, keys) = told_and (field_at models to.model to.field) (λ other. HasKeysOf other f) target in
        let single = subst (λ (m : ModelNo). IsSomeAnd (model_at models m) (λ info. info.inherits ≡ [])) said.1 leads_on.single in
        own_list to.model to.field other there (ap is_list keys.field_type ∙ list) (undelegated to.model to.field other there single)

  -- ---- a parent that is named

  module _ (model : ModelNo) (parent : ParentInfo) (own : IsParentOf models model parent) where
    leads_to : IsParentIn models model parent
    leads_to =
        let (info, at, among) = told_and (model_at models model) (λ info. Contains info.inherits parent) own in
        All-contains (IsParentIn models model) info.inherits parent (registry.each model info at).parents among

    pub parent_there : HasModel models parent.model
    parent_there = let (info, at, none) = told_and (model_at models parent.model) (λ info. info.inherits ≡ []) leads_to.single in there_is (model_at models parent.model) info at

    -- its link is one of the row's
    pub parent_link : IsLinkField models model parent.link
    parent_link =
        let (f, at, has) = told_and (field_at models model parent.link) (λ field. IsPlainTo parent.model field × (field.field_type ≡ type.Many2one) × (field.required ≡ true) × (field.ondelete ≡ ondelete.Cascade)) leads_to.link in
        tell_and (field_at models model parent.link) f (λ info. (is_plain_kept info ≡ true) × (info.field_type ≡ type.Many2one)) at
        (kept_link f has.0.plain has.1 (Field-at models model parent.link f registry at).right.mirror, has.1)

    pub parent_cell : FieldHas models (λ info. is_given_from info.origin ≡ true) model parent.link
    parent_cell =
        let (f, at, has) = told_and (field_at models model parent.link) (λ field. IsPlainTo parent.model field × (field.field_type ≡ type.Many2one) × (field.required ≡ true) × (field.ondelete ≡ ondelete.Cascade)) leads_to.link in
        tell_and (field_at models model parent.link) f (λ info. is_given_from info.origin ≡ true) at (given_plain f.origin has.0.plain)
