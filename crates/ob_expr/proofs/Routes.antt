-- The path that names stand for, found a name at a time; and that the offset of its faults doesn't matter.
use Rattle.std.proofs.Common.{◌≡◌, ℕ, List, [], ◌∷◌, Bool, true, false, cond, Option, Some, None, Result, Ok, Err, ap, ◌∙◌}
use Rattle.ob_base.specs.declared.id.ModelNo.{ModelNo}
use Rattle.ob_expr.specs.declared.checker.TypeFault.{TypeFault}
use Rattle.ob_expr.specs.declared.checker.TypeFault.TheVariants as fault
use Rattle.ob_expr.specs.declared.kind.Found.{Found}
use Rattle.ob_expr.specs.declared.kind.Kind.{Kind}
use Rattle.ob_expr.specs.declared.kind.Kind.TheVariants as kind
use Rattle.ob_expr.specs.declared.typed.Link.{Link}
use Rattle.ob_expr.specs.Chain.{and_then}
use Rattle.ob_expr.specs.Checking.{step_route, step_of, step_on, route_of}
use Rattle.ob_expr.specs.Route.{Route, through, behind}
use Rattle.ob_expr.proofs.Outcomes.{then_ok}

abbrev found_route : Route → Result Route TypeFault
found_route route = Ok route

no_name : (e : TypeFault) (route : Route) → Err e ≡ found_route route → ⊥
no_name e route is = cc

-- where names stand for a path, the offset that faults are told with doesn't matter
usable_anywhere : (a b : ℕ) (usable : Bool) (x route : Route) → cond usable (Ok x) (Err (fault.Name a)) ≡ Ok route → cond usable (Ok x) (Err (fault.Name b)) ≡ Ok route
usable_anywhere a b true x route is = is
usable_anywhere a b false x route is = absurd (no_name (fault.Name a) route is)

step_anywhere : (a b : ℕ) (found : Option Found) (route : Route) → step_of a found ≡ Ok route → step_of b found ≡ Ok route
step_anywhere a b None route is = absurd (no_name (fault.Name a) route is)
step_anywhere a b (Some found) route is = usable_anywhere a b found.usable (step_route found) route is

on_anywhere : (a b : ℕ) (f g : ModelNo → Result Route TypeFault) (step : Route) (k : Kind) (route : Route)
    → ((target : ModelNo) (end : Route) → f target ≡ Ok end → g target ≡ Ok end) → step_on a f step k ≡ Ok route → step_on b g step k ≡ Ok route
on_anywhere a b f g step (kind.Ref target) route same is =
    let t = then_ok (f target) (λ end. Ok (behind (through step target) end)) route is in
    ap (λ (m : Result Route TypeFault). and_then m (λ end. found_route (behind (through step target) end))) (same target t.0 t.1) ∙ t.2
on_anywhere a b f g step _ route same is = absurd (no_name (fault.Kind a) route is)

module _ (finds : ModelNo → List ℕ → Option Found) where
  pub route_anywhere : (a b : ℕ) (model : ModelNo) (names : List (List ℕ)) (route : Route) → route_of finds a model names ≡ Ok route → route_of finds b model names ≡ Ok route
  route_anywhere a b model [] route is = absurd (no_name (fault.Name a) route is)
  route_anywhere a b model (name ∷ []) route is = step_anywhere a b (finds model name) route is
  route_anywhere a b model (name ∷ next ∷ names) route is =
      let t = then_ok (step_of a (finds model name)) (λ step. step_on a (λ target. route_of finds a target (next ∷ names)) step step.kind) route is in
      ap (λ (m : Result Route TypeFault). and_then m (λ step. step_on b (λ target. route_of finds b target (next ∷ names)) step step.kind)) (step_anywhere a b (finds model name) t.0 t.1)
      ∙ on_anywhere a b (λ target. route_of finds a target (next ∷ names)) (λ target. route_of finds b target (next ∷ names)) t.0 t.0.kind route
      (λ target end e. route_anywhere a b target (next ∷ names) end e) t.2

module _ (finds : ModelNo → List ℕ → Option Found) (at : ℕ) where
  -- what names that are left stand for, behind links
  abbrev pub route_left : List Link → ModelNo → List (List ℕ) → Result Route TypeFault
  route_left links model names = and_then (route_of finds at model names) (λ end. Ok (behind links end))
