-- Which rule brings goods to a place, which one takes them on, and the chains of the former.
use Rattle.std.specs.Prelude.{◌≡◌, ◌<◌, ◌≤◌, ◌⊎◌, true, false, List, [], ◌∷◌, length, All, Contains}
use Rattle.ob_base.specs.declared.id.RecId.{RecId}
use Rattle.wh_route.specs.declared.rule.RouteRule.{RouteRule}

-- the rule pulls goods to the place
abbrev pub PullsTo : RecId → RouteRule → Type 0
PullsTo place rule = (rule.pull ≡ true) × (rule.dest ≡ place)

-- no rule pulls goods to the place
abbrev pub NonePulls : List RouteRule → RecId → Type 0
NonePulls rules place = All (λ rule. ¬ PullsTo place rule) rules

-- a rule is no later than another: by id, and by source where they share it, as two rows never do
abbrev pub IsNoLater : RouteRule → RouteRule → Type 0
IsNoLater a b = (a.id.0 < b.id.0) ⊎ ((a.id.0 ≡ b.id.0) × (a.src.0 ≤ b.src.0))

-- the pull rule of a place: of those that pull goods there, the one of least id
pub record IsPullRule (rules : List RouteRule) (place : RecId) (rule : RouteRule) : Type 0 where
  pub among : Contains rules rule
  pub pulls : PullsTo place rule
  pub least : All (λ other. PullsTo place other → IsNoLater rule other) rules

-- each member is the id of the pull rule of the source of the former, or of the place for the first, and no rule can follow the last
abbrev pub IsChain : List RouteRule → RecId → List RecId → Type 0
IsChain rules place [] = NonePulls rules place
IsChain rules place (id ∷ ids) = (rule : RouteRule) × IsPullRule rules place rule × (id ≡ rule.id) × IsChain rules rule.src ids

-- the limit of a chain: at most 8 rules
abbrev pub IsShort : List RecId → Type 0
IsShort ids = length ids ≤ 8

-- a ninth rule would follow: no chain from the place is within the limit
abbrev pub IsTooDeep : List RouteRule → RecId → Type 0
IsTooDeep rules place = (ids : List RecId) → IsChain rules place ids → ¬ IsShort ids

-- the rule takes goods on from the place
abbrev pub PushesFrom : RecId → RouteRule → Type 0
PushesFrom place rule = (rule.pull ≡ false) × (rule.src ≡ place)

-- no rule takes goods on from the place
abbrev pub NonePushes : List RouteRule → RecId → Type 0
NonePushes rules place = All (λ rule. ¬ PushesFrom place rule) rules

-- of the rules that take goods on from the place, the least id
pub record IsPushRule (rules : List RouteRule) (place id : RecId) : Type 0 where
  pub among : (rule : RouteRule) × Contains rules rule × PushesFrom place rule × (id ≡ rule.id)
  pub least : All (λ other. PushesFrom place other → id.0 ≤ other.id.0) rules
