-- A walk over rules, one more at a time: the best one so far is that of the rules that were seen.
use Rattle.std.proofs.Common.{◌≡◌, ◌≤◌, ◌⊎◌, inl, inr, List, [], ◌∷◌, ◌++◌, Option, Some, None, ◌∙◌, arith}
use Rattle.std.specs.Option.{IfSome, IfNone, MatchOption}
use Rattle.std.proofs.lemmas.List.Elements.{All-push, All-weaker, Contains-push, Contains-append_left}
use Rattle.ob_base.specs.declared.id.RecId.{RecId}
use Rattle.wh_route.specs.declared.rule.RouteRule.{RouteRule}
use Rattle.wh_route.specs.Routes.{PullsTo, NonePulls, IsNoLater, IsPullRule, PushesFrom, NonePushes, IsPushRule}

-- what is no later than what is no later is no later
IsNoLater-trans : (a b c : RouteRule) → IsNoLater a b → IsNoLater b c → IsNoLater a c
IsNoLater-trans a b c (inl p) (inl q) = inl (omega arith)
IsNoLater-trans a b c (inl p) (inr q) = inl (omega arith)
IsNoLater-trans a b c (inr p) (inl q) = inl (omega arith)
IsNoLater-trans a b c (inr p) (inr q) = inr (omega arith, omega arith)

-- the pull rule of the rules so far
abbrev pub PullsSoFar : List RouteRule → RecId → Option RouteRule → Type 0
PullsSoFar rules place found = MatchOption found (NonePulls rules place) (IsPullRule rules place)

-- a rule that doesn't pull to the place changes nothing
pub pulls_skip : (rules : List RouteRule) (place : RecId) (found : Option RouteRule) (rule : RouteRule) → PullsSoFar rules place found → ¬ PullsTo place rule →
    PullsSoFar (rules ++ rule ∷ []) place found
pulls_skip rules place None rule none not = All-push (λ r. ¬ PullsTo place r) rules rule none not
pulls_skip rules place (Some first) rule is not = record {
  among = Contains-append_left rules (rule ∷ []) first is.among;
  pulls = is.pulls;
  least = All-push (λ other. PullsTo place other → IsNoLater first other) rules rule is.least (λ h. absurd (not h));
}

-- of a rule that pulls to the place and the one so far, the earlier is the pull rule
pub pulls_take : (rules : List RouteRule) (place : RecId) (found : Option RouteRule) (rule best : RouteRule) → PullsSoFar rules place found → PullsTo place rule →
    IfSome found (λ first. ((best ≡ first) ⊎ (best ≡ rule)) × IsNoLater best first) → IfNone found (best ≡ rule) → IsNoLater best rule →
    PullsSoFar (rules ++ rule ∷ []) place (Some best)
pulls_take rules place None rule best none pulls both one no_later = record {
  among = rw one (Contains-push rules rule);
  pulls = rw one pulls;
  least = All-push (λ other. PullsTo place other → IsNoLater best other) rules rule
      (All-weaker (λ r. ¬ PullsTo place r) (λ other. PullsTo place other → IsNoLater best other) (λ r not h. absurd (not h)) rules none) (λ h. no_later);
}
pulls_take rules place (Some first) rule best is pulls both one no_later = record {
  among = elim both.0 [ inl e ↦ rw e (Contains-append_left rules (rule ∷ []) first is.among) | inr e ↦ rw e (Contains-push rules rule) ];
  pulls = elim both.0 [ inl e ↦ rw e is.pulls | inr e ↦ rw e pulls ];
  least = All-push (λ other. PullsTo place other → IsNoLater best other) rules rule
      (All-weaker (λ other. PullsTo place other → IsNoLater first other) (λ other. PullsTo place other → IsNoLater best other)
      (λ r least h. IsNoLater-trans best first r both.1 (least h)) rules is.least) (λ h. no_later);
}

-- the least push rule's id of the rules so far
abbrev pub PushesSoFar : List RouteRule → RecId → Option RecId → Type 0
PushesSoFar rules place found = MatchOption found (NonePushes rules place) (IsPushRule rules place)

-- a rule that doesn't push from the place changes nothing
pub pushes_skip : (rules : List RouteRule) (place : RecId) (found : Option RecId) (rule : RouteRule) → PushesSoFar rules place found → ¬ PushesFrom place rule →
    PushesSoFar (rules ++ rule ∷ []) place found
pushes_skip rules place None rule none not = All-push (λ r. ¬ PushesFrom place r) rules rule none not
pushes_skip rules place (Some id) rule is not = record {
  among = (is.among.0, Contains-append_left rules (rule ∷ []) is.among.0 is.among.1, is.among.2, is.among.3);
  least = All-push (λ other. PushesFrom place other → id.0 ≤ other.id.0) rules rule is.least (λ h. absurd (not h));
}

-- of a rule that pushes from the place and the id so far, the lesser is the push rule's
pub pushes_take : (rules : List RouteRule) (place : RecId) (found : Option RecId) (rule : RouteRule) (best : RecId) → PushesSoFar rules place found → PushesFrom place rule →
    IfSome found (λ first. ((best ≡ first) ⊎ (best ≡ rule.id)) × (best.0 ≤ first.0)) → IfNone found (best ≡ rule.id) → best.0 ≤ rule.id.0 →
    PushesSoFar (rules ++ rule ∷ []) place (Some best)
pushes_take rules place None rule best none pushes both one no_more = record {
  among = (rule, Contains-push rules rule, pushes, one);
  least = All-push (λ other. PushesFrom place other → best.0 ≤ other.id.0) rules rule
      (All-weaker (λ r. ¬ PushesFrom place r) (λ other. PushesFrom place other → best.0 ≤ other.id.0) (λ r not h. absurd (not h)) rules none) (λ h. no_more);
}
pushes_take rules place (Some first) rule best is pushes both one no_more = record {
  among = elim both.0 [
    | inl e ↦ (is.among.0, Contains-append_left rules (rule ∷ []) is.among.0 is.among.1, is.among.2, e ∙ is.among.3)
    | inr e ↦ (rule, Contains-push rules rule, pushes, e)
  ];
  least = All-push (λ other. PushesFrom place other → best.0 ≤ other.id.0) rules rule
      (All-weaker (λ other. PushesFrom place other → first.0 ≤ other.id.0) (λ other. PushesFrom place other → best.0 ≤ other.id.0)
      (λ r least h. let below_it : first.0 ≤ r.id.0 = least h in omega (arith, both.1)) rules is.least) (λ h. no_more);
}
