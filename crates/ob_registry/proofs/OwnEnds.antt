-- The paths of a formula end in fields that aren't delegated.
use Rattle.std.proofs.Common.{◌≡◌, List, [], ◌∷◌, false, sym, subst}
use Rattle.ob_base.specs.declared.id.FieldNo.{FieldNo}
use Rattle.ob_base.specs.declared.id.ModelNo.{ModelNo}
use Rattle.ob_expr.specs.declared.typed.Link.{Link}
use Rattle.ob_expr.specs.Route.{Route}
use Rattle.ob_definition.specs.Gathered.{Gathered}
use Rattle.ob_schema.specs.declared.info.ModelInfo.{ModelInfo}
use Rattle.ob_schema.specs.Models.{EndsOwn, FieldHas, is_delegated_from}
use Rattle.ob_registry.specs.RegistryOf.{IsRegistryOf}
use Rattle.ob_registry.proofs.LedPaths.{Leads}
use Rattle.ob_registry.proofs.OwnInfos.{own_undelegated}
use Rattle.ob_registry.proofs.RoutesLed.{EndsRoute}

module _ (infos : List ModelInfo) where
  -- links that lead to a model's own field end in it
  pub led_own : (number : ModelNo) (links : List Link) (model : ModelNo) (field : FieldNo) → Leads infos number links model → FieldHas infos (λ info. is_delegated_from info.origin ≡ false) model field → EndsOwn infos number links field
  led_own number [] model field leads has = subst (λ (n : ModelNo). EndsOwn infos n [] field) (sym leads) has
  led_own number (link ∷ links) model field leads has = led_own link.target links model field leads.1 has

module _ (models : List Gathered) (infos : List ModelInfo) (registry : IsRegistryOf models infos) where
  -- and so does a path whose end was found
  pub ends_own : (number : ModelNo) (route : Route) → EndsRoute models infos registry number route → EndsOwn infos number route.links route.field
  ends_own number route end =
      led_own infos number route.links end.model route.field end.leads (rw end.is_number (own_undelegated models infos registry end.model end.gathered end.there end.source end.among))
