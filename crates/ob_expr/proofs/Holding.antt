-- Where each name stands for fields that hold values of their kinds, so do the fields of a checked expression.
use Rattle.std.proofs.Common.{◌≡◌, ℕ, List, [], ◌∷◌, ◌++◌, Option, Some, None, Result, Ok, refl, subst}
use Rattle.ob_base.specs.declared.id.Cell.{Cell}
use Rattle.ob_base.specs.declared.id.FieldNo.{FieldNo}
use Rattle.ob_base.specs.declared.id.ModelNo.{ModelNo}
use Rattle.ob_base.specs.declared.value.Value.{Value}
use Rattle.ob_expr.specs.declared.checker.TypeFault.{TypeFault}
use Rattle.ob_expr.specs.declared.checker.TypeFault.TheVariants as fault
use Rattle.ob_expr.specs.declared.kind.Found.{Found}
use Rattle.ob_expr.specs.declared.kind.Kind.{Kind}
use Rattle.ob_expr.specs.declared.kind.Kind.TheVariants as kind
use Rattle.ob_expr.specs.declared.typed.Link.{Link}
use Rattle.ob_expr.specs.Checking.{AreFound, IsFound, links_of, route_of, step_of, step_on, step_route}
use Rattle.ob_expr.specs.Reads.{HoldsKinds, PathHolds}
use Rattle.ob_expr.specs.Route.{Route, behind, through}
use Rattle.ob_expr.specs.TypedTree.{TypedTree, TypedTrees, no_trees, one_more, row_id, integer, a_text, truth, unset, path, prefix, binary, chosen, choice, joined, digits, over, EachPathOfAll}
use Rattle.ob_expr.proofs.Accepted.{same_ok, when_ok}
use Rattle.ob_expr.proofs.Outcomes.{then_ok}

-- a path behind one to a reference
path-behind : (held : Cell → Option Value) (model : ModelNo) (links : List Link) (field : FieldNo) (target : ModelNo) (ends : List Link) (last : FieldNo) (k : Kind)
    → PathHolds held model links field (kind.Ref target) → PathHolds held target ends last k
    → PathHolds held model ((links ++ record { field = field; target = target } ∷ []) ++ ends) last k
path-behind held model [] field target ends last k here behind = (here, behind)
path-behind held model (link ∷ links) field target ends last k here behind = (here.0, path-behind held link.target links field target ends last k here.1 behind)

module _ (finds : ModelNo → List ℕ → Option Found) (held : Cell → Option Value) where
  -- what a name stands for holds values of its kind
  abbrev pub NamesHold : Type 0
  NamesHold = (model : ModelNo) (name : List ℕ) (found : Found) → finds model name ≡ Some found → PathHolds held model (links_of found.via) found.field found.kind

  -- a path from the model does
  abbrev RouteHolds : ModelNo → Route → Type 0
  RouteHolds model route = PathHolds held model route.links route.field route.kind

  module _ (names_hold : NamesHold) where
    step-holds : (at : ℕ) (model : ModelNo) (name : List ℕ) (o : Option Found) (route : Route) → finds model name ≡ o → step_of at o ≡ Ok route → RouteHolds model route
    step-holds at model name None route found is = absurd (cc)
    step-holds at model name (Some f) route found is =
        let w = when_ok f.usable (step_route f) route (fault.Name at) is in
        subst (RouteHolds model) w.1 (names_hold model name f found)

    on-holds : (at : ℕ) (model : ModelNo) (rest : ModelNo → Result Route TypeFault) (step : Route) (k : Kind) (route : Route) → step.kind ≡ k → RouteHolds model step
        → ((target : ModelNo) (end : Route) → rest target ≡ Ok end → RouteHolds target end) → step_on at rest step k ≡ Ok route → RouteHolds model route
    on-holds at model rest step (kind.Ref target) route same here behind-holds is =
        let t = then_ok (rest target) (λ end. Ok (behind (through step target) end)) route is in
        let P : Kind → Type 0 = λ k. PathHolds held model step.links step.field k in
        let last = same_ok (behind (through step target) t.0) route t.2 in
        subst (RouteHolds model) last
        (path-behind held model step.links step.field target t.0.links t.0.field t.0.kind (subst P same here) (behind-holds target t.0 t.1))
    on-holds at model rest step _ route same here behind-holds is = absurd (cc)

    route-holds : (at : ℕ) (model : ModelNo) (name : List ℕ) (names : List (List ℕ)) (route : Route) → route_of finds at model (name ∷ names) ≡ Ok route → RouteHolds model route
    route-holds at model name [] route is = step-holds at model name (finds model name) route refl is
    route-holds at model name (next ∷ names) route is =
        let rest = λ (target : ModelNo). route_of finds at target (next ∷ names) in
        let t = then_ok (step_of at (finds model name)) (λ step. step_on at rest step step.kind) route is in
        on-holds at model rest t.0 t.0.kind route refl (step-holds at model name (finds model name) t.0 refl t.1)
        (λ target end e. route-holds at target next names end e) t.2

    found-holds : (model : ModelNo) (names : List (List ℕ)) (route : Route) → route_of finds 0 model names ≡ Ok route → RouteHolds model route
    found-holds model [] route is = absurd (cc)
    found-holds model (name ∷ names) route is = route-holds 0 model name names route is

    mutual
      pub tree-holds : (model : ModelNo) (tree : TypedTree) → AreFound finds model tree → HoldsKinds held model tree
      tree-holds model row_id found = tt
      tree-holds model (integer n) found = tt
      tree-holds model (a_text bytes) found = tt
      tree-holds model (truth b) found = tt
      tree-holds model (unset k) found = tt
      tree-holds model (path route) found = found-holds model found.0 route found.1
      tree-holds model (prefix word inner) found = tree-holds model inner found
      tree-holds model (binary op left right) found = (tree-holds model left found.0, tree-holds model right found.1)
      tree-holds model (chosen which left right) found = (tree-holds model left found.0, tree-holds model right found.1)
      tree-holds model (choice condition first second) found = (tree-holds model condition found.0, tree-holds model first found.1, tree-holds model second found.2)
      tree-holds model (joined all) found = all-hold model all found
      tree-holds model (digits inner) found = tree-holds model inner found
      tree-holds model (over aggregate route target inner) found = (found-holds model found.0.0 route found.0.1, tree-holds target inner found.1)

      all-hold : (model : ModelNo) (all : TypedTrees) → EachPathOfAll (IsFound finds) model all → EachPathOfAll RouteHolds model all
      all-hold model no_trees found = tt
      all-hold model (one_more tree rest) found = (tree-holds model tree found.0, all-hold model rest found.1)
