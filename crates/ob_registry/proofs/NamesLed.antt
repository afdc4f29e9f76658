-- Where a name of a model leads in the registry: to a field of the model's own, or of a parent's behind a link.
use Rattle.std.proofs.Common.{◌≡◌, Option, Some, None, option_map, List, [], ◌∷◌, ◌++◌, inl, inr, refl, sym, ap, ◌∙◌}
use Rattle.std.specs.Prelude.{Contains, option_and_then}
use Rattle.std.specs.Option.{option_map_or}
use Rattle.ob_base.specs.declared.id.FieldNo.{FieldNo}
use Rattle.ob_base.specs.declared.id.ModelNo.{ModelNo}
use Rattle.ob_expr.specs.declared.kind.Found.{Found}
use Rattle.ob_expr.specs.declared.kind.Kind.{Kind}
use Rattle.ob_expr.specs.declared.kind.Kind.TheVariants as kind
use Rattle.ob_expr.specs.Checking.{links_of as links_via}
use Rattle.ob_definition.specs.declared.definition.Inherits.{Inherits}
use Rattle.ob_definition.specs.Gathered.{Gathered, model_of}
use Rattle.ob_definition.specs.Members.{Member, delegated, own_member, own_members, link_def, links_of, members_of, model_at, model_number, number_of}
use Rattle.ob_schema.specs.declared.info.ModelInfo.{ModelInfo}
use Rattle.ob_schema.specs.Finds.{found_as, is_usable}
use Rattle.ob_schema.specs.Paths.{step_at, steps_behind, steps_through}
use Rattle.ob_registry.specs.RegistryOf.{IsRegistryOf}
use Rattle.ob_registry.proofs.Delegated.{IsFromParent, link_member, member_cases, own_role}
use Rattle.ob_registry.proofs.Delegations.{model_of-Some}
use Rattle.ob_registry.proofs.OwnInfos.{own_refers}
use Rattle.ob_registry.proofs.LedPaths.{LeadsByRefs, link_steps}
use Rattle.ob_registry.proofs.Origins.{model_number-there}

-- a field of a model as one of the rows in which it stands, behind one link or none
pub record IsLocated (models : List Gathered) (infos : List ModelInfo) (number : ModelNo) (g : Gathered) (m : Member) : Type 0 where
  pub via : Option (FieldNo × ModelNo)
  pub model : ModelNo
  pub gathered : Gathered
  pub there : model_at models model.0 ≡ Some gathered
  pub source : Member
  pub among : Contains (own_members models gathered) source
  pub def : source.def ≡ m.def
  pub refs : LeadsByRefs infos number (links_via via) model
  pub steps : steps_through models number g m.def.name m.role ≡ link_steps number (links_via via) ++ step_at model (number_of models gathered m.def.name) ∷ []
  pub found : (k : Kind) → found_as models g m.def k m.role ≡ Some (record { via = via; field = number_of models gathered m.def.name; kind = k; usable = is_usable m.def })

module _ (models : List Gathered) (infos : List ModelInfo) (registry : IsRegistryOf models infos) where
  module _ (number : ModelNo) (g : Gathered) (there : model_at models number.0 ≡ Some g) (m : Member) where
    located_through : (i : Inherits) × Contains (links_of models g) i × (m.role ≡ delegated i) × IsFromParent models i m → IsLocated models infos number g m
    located_through (i, linked, role, from) =
        let target = model_number-there models i.model from.parent from.there in
        let at : model_of models i.model ≡ Some from.parent = from.there in
        let numbered : model_number models i.model ≡ Some target.0 = target.1 in
        let link = own_member g.entry (link_def i) in
        record {
          via = Some (number_of models g i.link, target.0);
          model = target.0;
          gathered = from.parent;
          there = sym (model_of-Some models i.model target.0 target.1) ∙ from.there;
          source = from.source;
          among = from.among;
          def = from.def;
          refs = (own_refers models infos registry number g there link (link_member models g i linked) target.0 refl target.1 (ap (λ (o : Option ModelNo). option_map kind.Ref o) target.1), refl);
          steps =
              ap (steps_through models number g m.def.name) role
              ∙ ap (λ (o : Option Gathered). option_map_or (λ (p : Gathered). steps_behind (step_at number (number_of models g i.link)) (model_number models i.model) (number_of models p m.def.name)) o []) at
              ∙ ap (λ (o : Option ModelNo). steps_behind (step_at number (number_of models g i.link)) o (number_of models from.parent m.def.name)) numbered;
          found = λ k.
              (let made : Gathered → ModelNo → Found = λ p to. record { via = Some (number_of models g i.link, to); field = number_of models p m.def.name; kind = k; usable = is_usable m.def } in
              ap (found_as models g m.def k) role
              ∙ ap (λ (o : Option Gathered). option_and_then (λ (p : Gathered). option_map (made p) (model_number models i.model)) o) at
              ∙ ap (λ (o : Option ModelNo). option_map (made from.parent) o) numbered);
        }

    -- a field of a model is located
    pub located : Contains (members_of models g) m → IsLocated models infos number g m
    located here = elim (member_cases models g m here) as (λ _. IsLocated models infos number g m) [
      | inl mine ↦
          (let role = own_role models g m mine in
          record {
            via = None;
            model = number;
            gathered = g;
            there = there;
            source = m;
            among = mine;
            def = refl;
            refs = refl;
            steps = ap (steps_through models number g m.def.name) role;
            found = λ k. ap (found_as models g m.def k) role;
          })
      | inr through ↦ located_through through
    ]
