-- Paths of the registry: links that lead from model to model, and fields at their ends.
use Rattle.std.proofs.Common.{◌≡◌, List, [], ◌∷◌, ◌++◌, Some, true, refl, sym, subst}
use Rattle.ob_base.specs.declared.id.FieldNo.{FieldNo}
use Rattle.ob_base.specs.declared.id.ModelNo.{ModelNo}
use Rattle.ob_expr.specs.declared.kind.Kind.{Kind}
use Rattle.ob_expr.specs.declared.typed.Link.{Link}
use Rattle.ob_schema.specs.declared.info.ModelInfo.{ModelInfo}
use Rattle.ob_schema.specs.declared.info.Step.{Step}
use Rattle.ob_schema.specs.Fields.{has_value_of}
use Rattle.ob_schema.specs.Models.{AreSteps, FieldHas, IsByRefs, IsRefTo, IsRouted, LeadsOn, MayEnd, field_at, kind_of_info}
use Rattle.ob_schema.specs.Paths.{step_at, steps_along}
use Rattle.ob_schema.proofs.CallerLemmas.{known_on}

module _ (infos : List ModelInfo) where
  -- links lead from the rows of a model to those of another, each by a plain relation
  abbrev pub Leads : ModelNo → List Link → ModelNo → Type 0
  Leads number [] model = number ≡ model
  Leads number (link ∷ links) model = FieldHas infos (LeadsOn link.target) number link.field × Leads link.target links model

  pub leads_on : (number : ModelNo) (links more : List Link) (middle model : ModelNo) → Leads number links middle → Leads middle more model → Leads number (links ++ more) model
  leads_on number [] more middle model leads on = subst (λ (n : ModelNo). Leads n more model) (sym leads) on
  leads_on number (link ∷ links) more middle model leads on = (leads.0, leads_on link.target links more middle model leads.1 on)

  -- to a field at their end
  pub led_routed : (number : ModelNo) (links : List Link) (model : ModelNo) (field : FieldNo) (k : Kind) → Leads number links model
      → FieldHas infos (λ info. (kind_of_info info ≡ Some k) × (has_value_of info ≡ true)) model field → IsRouted infos number links field k
  led_routed number [] model field k leads has = subst (λ (n : ModelNo). IsRouted infos n [] field k) (sym leads) has
  led_routed number (link ∷ links) model field k leads has = (leads.0, led_routed link.target links model field k leads.1 has)

  -- links that lead so by many2ones
  abbrev pub LeadsByRefs : ModelNo → List Link → ModelNo → Type 0
  LeadsByRefs number [] model = number ≡ model
  LeadsByRefs number (link ∷ links) model = FieldHas infos (IsRefTo link.target) number link.field × LeadsByRefs link.target links model

  pub leads_by : (number : ModelNo) (links : List Link) (model : ModelNo) → LeadsByRefs number links model → Leads number links model
  leads_by number [] model refs = refs
  leads_by number (link ∷ links) model refs =
      (known_on (field_at infos number link.field) (IsRefTo link.target) (LeadsOn link.target) (λ field at is. is.leads_on) refs.0, leads_by link.target links model refs.1)

  pub refs_on : (number : ModelNo) (links more : List Link) (middle model : ModelNo) → LeadsByRefs number links middle → LeadsByRefs middle more model → LeadsByRefs number (links ++ more) model
  refs_on number [] more middle model refs on = subst (λ (n : ModelNo). LeadsByRefs n more model) (sym refs) on
  refs_on number (link ∷ links) more middle model refs on = (refs.0, refs_on link.target links more middle model refs.1 on)

  -- to a field at their end
  pub refs_routed : (number : ModelNo) (links : List Link) (model : ModelNo) (field : FieldNo) (k : Kind) → LeadsByRefs number links model
      → FieldHas infos (λ info. (kind_of_info info ≡ Some k) × (has_value_of info ≡ true)) model field → IsByRefs infos number links field k
  refs_routed number [] model field k refs has = subst (λ (n : ModelNo). IsByRefs infos n [] field k) (sym refs) has
  refs_routed number (link ∷ links) model field k refs has = (refs.0, refs_routed link.target links model field k refs.1 has)

  -- one step more in front
  pub steps_before : (number : ModelNo) (field : FieldNo) (target : ModelNo) (steps : List Step) → FieldHas infos (LeadsOn target) number field → AreSteps infos target steps
      → AreSteps infos number (step_at number field ∷ steps)
  steps_before number field target [] has are = absurd are
  steps_before number field target (step ∷ []) has are =
      (refl, subst (λ (n : ModelNo). FieldHas infos (LeadsOn n) number field) (sym are.0) has, subst (λ (n : ModelNo). AreSteps infos n (step ∷ [])) (sym are.0) are)
  steps_before number field target (step ∷ next ∷ steps) has are =
      (refl, subst (λ (n : ModelNo). FieldHas infos (LeadsOn n) number field) (sym are.0) has, subst (λ (n : ModelNo). AreSteps infos n (step ∷ next ∷ steps)) (sym are.0) are)

  -- the steps along a path
  pub led_steps : (number : ModelNo) (links : List Link) (model : ModelNo) (field : FieldNo) → Leads number links model → FieldHas infos MayEnd model field
      → AreSteps infos number (steps_along number links field)
  led_steps number [] model field leads has = (refl, subst (λ (n : ModelNo). FieldHas infos MayEnd n field) (sym leads) has)
  led_steps number (link ∷ links) model field leads has = steps_before number link.field link.target (steps_along link.target links field) leads.0 (led_steps link.target links model field leads.1 has)

-- the steps of links
abbrev pub link_steps : ModelNo → List Link → List Step
link_steps number [] = []
link_steps number (link ∷ links) = step_at number link.field ∷ link_steps link.target links

-- and those behind them
pub steps_behind_links : (infos : List ModelInfo) (number : ModelNo) (links : List Link) (model : ModelNo) (steps : List Step) → Leads infos number links model → AreSteps infos model steps
    → AreSteps infos number (link_steps number links ++ steps)
steps_behind_links infos number [] model steps leads are = subst (λ (n : ModelNo). AreSteps infos n steps) (sym leads) are
steps_behind_links infos number (link ∷ links) model steps leads are =
    steps_before infos number link.field link.target (link_steps link.target links ++ steps) leads.0 (steps_behind_links infos link.target links model steps leads.1 are)
