-- The steps from the rows of a tree to their parents and to their children.
use Rattle.std.proofs.Common.{◌≡◌, ℕ, Bool, true, false, List, Option, Some, None, refl, sym, ap, subst, ◌∙◌}
use Rattle.std.proofs.lemmas.Option.{none-some, same_Some}
use Rattle.std.specs.Prelude.{◌↔◌, IsSome, IsSomeAnd, option_and_then}
use Rattle.ob_base.specs.declared.id.FieldNo.{FieldNo}
use Rattle.ob_base.specs.declared.id.ModelNo.{ModelNo}
use Rattle.ob_definition.specs.declared.field_type.FieldType.{FieldType}
use Rattle.ob_definition.specs.declared.field_type.FieldType.TheVariants as type
use Rattle.ob_definition.specs.Gathered.{Gathered}
use Rattle.ob_definition.specs.Members.{Member, model_at, number_named}
use Rattle.ob_definition.specs.Types.{is_one2many}
use Rattle.ob_schema.specs.declared.info.Step.{Step}
use Rattle.ob_registry.specs.declared.model.Model.{Model}
use Rattle.ob_schema.specs.Finds.{relation_of}
use Rattle.ob_registry.specs.ModelFields.{named_in, number_in}
use Rattle.ob_registry.specs.Modelling.{IsModelled}
use Rattle.ob_schema.specs.Strata.{IsMember, IsToChildren, parent_of}
use Rattle.ob_registry.proofs.NamedFields.{number_modelled}

module _ (models : List Gathered) (number : ModelNo) (model : Model) (there : IsSomeAnd (model_at models number.0) (λ g. IsModelled models g model)) where
  -- the field of a name, in the model of a number
  pub number-at : (name : List ℕ) → number_in (named_in model.named model.members.items) name ≡ option_and_then (λ g. number_named models g name) (model_at models number.0)
  number-at name = by (model_at models number.0) there
    where
      by : (o : Option Gathered) → IsSomeAnd o (λ g. IsModelled models g model) → number_in (named_in model.named model.members.items) name ≡ option_and_then (λ g. number_named models g name) o
      by None is = absurd is
      by (Some g) is = number_modelled models g model is name

  -- the parent field, by its name
  pub parent-named : (name : List ℕ) → model.gathered.now.parent ≡ Some name → number_in (named_in model.named model.members.items) name ≡ parent_of models number
  parent-named name parent = by (model_at models number.0) there
    where
      by : (o : Option Gathered) → IsSomeAnd o (λ g. IsModelled models g model) → number_in (named_in model.named model.members.items) name ≡ option_and_then (λ g. option_and_then (number_named models g) g.parent) o
      by None is = absurd is
      by (Some g) is = number_modelled models g model is name ∙ sym (ap (option_and_then (number_named models g)) (sym (ap (λ (g : Gathered). g.parent) is.gathered) ∙ parent))

  -- the model is no tree
  pub parent-none : model.gathered.now.parent ≡ None → ◌≡◌ {A = Option FieldNo} None (parent_of models number)
  parent-none parent = by (model_at models number.0) there
    where
      by : (o : Option Gathered) → IsSomeAnd o (λ g. IsModelled models g model) → ◌≡◌ {A = Option FieldNo} None (option_and_then (λ g. option_and_then (number_named models g) g.parent) o)
      by None is = absurd is
      by (Some g) is = sym (ap (option_and_then (number_named models g)) (sym (ap (λ (g : Gathered). g.parent) is.gathered) ∙ parent))

one2many-is : (t : FieldType) → is_one2many t ≡ true → t ≡ type.One2many
one2many-is type.One2many e = refl
one2many-is _ e = absurd (let e : ◌≡◌ {A = Bool} false true = e in cc)

module _ (models : List Gathered) (number : ModelNo) (step : Step) (member : Member) (found : (g : Gathered) (m : Member) → IsMember models step g m ↔ ((model_at models step.model.0 ≡ Some g) × (Some member ≡ Some m))) where
  -- the field leads to the rows whose parent field names the row
  pub to-children : IsSome (model_at models step.model.0) → (name : List ℕ) (parent : FieldNo) → is_one2many member.def.field_type ≡ true → relation_of models member.def ≡ Some number
      → member.def.inverse ≡ Some name → parent_of models number ≡ Some parent → option_and_then (λ g. number_named models g name) (model_at models number.0) ≡ Some parent → IsToChildren models number step
  to-children there name parent of leads given is back = by (model_at models step.model.0) refl there
    where
      by : (o : Option Gathered) → model_at models step.model.0 ≡ o → IsSome o → IsToChildren models number step
      by None e some = absurd (let e : ◌≡◌ {A = Bool} false true = some in cc)
      by (Some g) e some = record {
        model = g;
        member = member;
        is_member = (found g member).1 (e, refl);
        one2many = one2many-is member.def.field_type of;
        back = leads;
        inverse = name;
        given = given;
        parent = parent;
        is_parent = is;
        leads_back = back;
      }

  the-member : (to : IsToChildren models number step) → member ≡ to.member
  the-member to = same_Some member to.member (((found to.model to.member).0 to.is_member).1)

  -- and its inverse is the parent field
  pub from-children : IsToChildren models number step → (name : List ℕ) (parent : FieldNo) → member.def.inverse ≡ Some name → parent_of models number ≡ Some parent
      → option_and_then (λ g. number_named models g name) (model_at models number.0) ≡ Some parent
  from-children to name parent given is =
      let inverse : to.inverse ≡ name = same_Some to.inverse name (sym to.given ∙ sym (ap (λ (m : Member). m.def.inverse) (the-member to)) ∙ given) in
      let same : to.parent ≡ parent = same_Some to.parent parent (sym to.is_parent ∙ is) in
      subst (λ (n : List ℕ). option_and_then (λ g. number_named models g n) (model_at models number.0) ≡ Some parent) inverse (to.leads_back ∙ ap (λ (f : FieldNo). Some f) same)

  pub no-children : IsToChildren models number step → member.def.inverse ≡ None → ⊥
  no-children to none = none-some to.inverse (sym none ∙ ap (λ (m : Member). m.def.inverse) (the-member to) ∙ to.given)
