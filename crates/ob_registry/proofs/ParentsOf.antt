-- The parents of a model, as the program takes them from its links.
use Rattle.std.proofs.Common.{◌≡◌, Option, Some, None, List, get_or, map, refl, sym, ap, ◌∙◌}
use Rattle.std.specs.Prelude.{All, Contains}
use Rattle.std.proofs.lemmas.List.Elements.{All-contains_itself}
use Rattle.ob_base.specs.declared.id.FieldNo.{FieldNo}
use Rattle.ob_base.specs.declared.id.ModelNo.{ModelNo}
use Rattle.ob_definition.specs.declared.definition.Inherits.{Inherits}
use Rattle.ob_definition.specs.Gathered.{Gathered}
use Rattle.ob_definition.specs.Members.{Member, link_def, links_of, model_number, number_named, own_member}
use Rattle.ob_schema.specs.declared.info.ParentInfo.{ParentInfo}
use Rattle.ob_registry.specs.declared.model.Model.{Model as KeptModel}
use Rattle.ob_registry.specs.Building.{parent_at, parent_found}
use Rattle.ob_registry.specs.ModelFields.{named_in, number_in}
use Rattle.ob_registry.specs.Modelling.{IsModelled}
use Rattle.ob_registry.proofs.Delegated.{link_member, link_model, own_among}
use Rattle.ob_registry.proofs.NamedFields.{number_modelled}
use Rattle.ob_registry.proofs.Origins.{model_number-there, number_named-there}
use Rattle.ob_registry.proofs.Somes.{kept_all, somes}

parts_at : (link : Option FieldNo) (model : Option ModelNo) (info : ParentInfo) → parent_at link model ≡ Some info → (Some info.link ≡ link) × (Some info.model ≡ model)
parts_at None model info e = absurd (cc)
parts_at (Some l) None info e = absurd (cc)
parts_at (Some l) (Some m) info e =
    let own : ParentInfo = record { link = l; model = m } in
    let same : own ≡ info = cc in
    (ap (λ (i : ParentInfo). Some i.link) (sym same), ap (λ (i : ParentInfo). Some i.model) (sym same))

missing_at : (link : Option FieldNo) (model : Option ModelNo) (l : FieldNo) (m : ModelNo) → parent_at link model ≡ None → link ≡ Some l → model ≡ Some m → ⊥
missing_at None model l m none e f = cc
missing_at (Some k) None l m none e f = cc
missing_at (Some k) (Some n) l m none e f = cc

module _ (models : List Gathered) (g : Gathered) (model : KeptModel) (is : IsModelled models g model) where
  abbrev front : List Member
  front = named_in model.named model.members.items

  -- each link of a model leads to a parent
  parent_there : (i : Inherits) → Contains (links_of models g) i → parent_found models front i ≡ None → ⊥
  parent_there i here none =
      let target = model_number-there models i.model (link_model models g i here).0 (link_model models g i here).1 in
      missing_at (number_in front i.link) (model_number models i.model) _ target.0 none
      (number_modelled models g model is i.link ∙ number_named-there models g (own_member g.entry (link_def i)) i.link (own_among models g (own_member g.entry (link_def i)) (link_member models g i here)) refl)
      target.1

  all_there : All (λ i. parent_found models front i ≡ None → ⊥) (links_of models g)
  all_there k d within = parent_there (get_or (links_of models g) k d) (All-contains_itself (links_of models g) k d within)

  pub parents_linked : map (λ (i : ParentInfo). Some i.link) (somes (map (parent_found models front) (links_of models g))) ≡ map (λ (i : Inherits). number_named models g i.link) (links_of models g)
  parents_linked =
      kept_all (parent_found models front) (λ (i : ParentInfo). Some i.link) (λ (i : Inherits). number_named models g i.link)
      (λ i info e. (parts_at (number_in front i.link) (model_number models i.model) info e).0 ∙ number_modelled models g model is i.link) (links_of models g) all_there

  pub parents_modelled : map (λ (i : ParentInfo). Some i.model) (somes (map (parent_found models front) (links_of models g))) ≡ map (λ (i : Inherits). model_number models i.model) (links_of models g)
  parents_modelled =
      kept_all (parent_found models front) (λ (i : ParentInfo). Some i.model) (λ (i : Inherits). model_number models i.model)
      (λ i info e. (parts_at (number_in front i.link) (model_number models i.model) info e).1) (links_of models g) all_there
