-- Chains: a front of a chain, with one more member, and that there is one chain at most.
use Rattle.std.proofs.Common.{◌≡◌, ◌<◌, inl, inr, List, [], ◌∷◌, ◌++◌, length, refl, sym, ◌∙◌, arith}
use Rattle.std.proofs.lemmas.List.Elements.{All-contains}
use Rattle.ob_base.specs.declared.id.RecId.{RecId}
use Rattle.wh_route.specs.declared.rule.RouteRule.{RouteRule}
use Rattle.wh_route.specs.Routes.{PullsTo, NonePulls, IsNoLater, IsPullRule, IsChain}

-- neither of two rules is later, so they have one id and one source
both_ways : (a b : RouteRule) → IsNoLater a b → IsNoLater b a → (a.id.0 ≡ b.id.0) × (a.src.0 ≡ b.src.0)
both_ways a b (inl p) (inl q) = absurd (omega arith)
both_ways a b (inl p) (inr q) = absurd (omega arith)
both_ways a b (inr p) (inl q) = absurd (omega arith)
both_ways a b (inr p) (inr q) = (p.0, omega arith)

-- rules with equal parts are one
same_rule : (a b : RouteRule) → a.id.0 ≡ b.id.0 → a.pull ≡ b.pull → a.src.0 ≡ b.src.0 → a.dest ≡ b.dest → a ≡ b
same_rule a b id pull src dest = λ i. record { id = record { 0 = id i }; pull = pull i; src = record { 0 = src i }; dest = dest i }

-- a place has one pull rule at most
pub one_pull_rule : (rules : List RouteRule) (place : RecId) (a b : RouteRule) → IsPullRule rules place a → IsPullRule rules place b → a ≡ b
one_pull_rule rules place a b p q =
    let a_first = All-contains (λ other. PullsTo place other → IsNoLater a other) rules b p.least q.among q.pulls in
    let b_first = All-contains (λ other. PullsTo place other → IsNoLater b other) rules a q.least p.among p.pulls in
    let parts = both_ways a b a_first b_first in
    same_rule a b parts.0 (p.pulls.0 ∙ sym q.pulls.0) parts.1 (p.pulls.1 ∙ sym q.pulls.1)

-- a place has no pull rule where none pulls there
pub none_or_one : (rules : List RouteRule) (place : RecId) (rule : RouteRule) → NonePulls rules place → IsPullRule rules place rule → ⊥
none_or_one rules place rule none is = All-contains (λ r. ¬ PullsTo place r) rules rule none is.among is.pulls

-- there is one chain at most
pub one_chain : (rules : List RouteRule) (place : RecId) (a b : List RecId) → IsChain rules place a → IsChain rules place b → a ≡ b
one_chain rules place [] [] p q = refl
one_chain rules place [] (y ∷ ys) p (rule, is, e, rest) = absurd (none_or_one rules place rule p is)
one_chain rules place (x ∷ xs) [] (rule, is, e, rest) q = absurd (none_or_one rules place rule q is)
one_chain rules place (x ∷ xs) (y ∷ ys) (r, is, e, rest) (s, is', e', rest') =
    let same : r ≡ s = one_pull_rule rules place r s is is' in
    let moved : IsChain rules r.src ys = rw same rest' in
    let tails : xs ≡ ys = one_chain rules r.src xs ys rest moved in
    let heads : x ≡ y = cc in
    cc

-- the members lead from one place to another, one pull rule after the other
abbrev pub Leads : List RouteRule → RecId → List RecId → RecId → Type 0
Leads rules place [] last = place ≡ last
Leads rules place (id ∷ ids) last = (rule : RouteRule) × IsPullRule rules place rule × (id ≡ rule.id) × Leads rules rule.src ids last

-- with one more member
pub Leads-push : (rules : List RouteRule) (place : RecId) (ids : List RecId) (last : RecId) (rule : RouteRule) → Leads rules place ids last → IsPullRule rules last rule →
    Leads rules place (ids ++ rule.id ∷ []) rule.src
Leads-push rules place [] last rule p is = (rule, (rw p is), refl, refl)
Leads-push rules place (id ∷ ids) last rule (first, is_first, e, rest) is = (first, is_first, e, Leads-push rules first.src ids last rule rest is)

-- where no rule follows they are a chain
pub IsChain-end : (rules : List RouteRule) (place : RecId) (ids : List RecId) (last : RecId) → Leads rules place ids last → NonePulls rules last → IsChain rules place ids
IsChain-end rules place [] last p none = rw p none
IsChain-end rules place (id ∷ ids) last (first, is, e, rest) none = (first, is, e, IsChain-end rules first.src ids last rest none)

-- where one follows each chain is longer
pub longer : (rules : List RouteRule) (place : RecId) (ids : List RecId) (last : RecId) (rule : RouteRule) → Leads rules place ids last → IsPullRule rules last rule →
    (chain : List RecId) → IsChain rules place chain → length ids < length chain
longer rules place [] last rule p is [] none = absurd (none_or_one rules last rule (rw (sym p) none) is)
longer rules place [] last rule p is (y ∷ ys) chain = omega arith
longer rules place (id ∷ ids) last rule (first, is_first, e, rest) is [] none = absurd (none_or_one rules place first none is_first)
longer rules place (id ∷ ids) last rule (first, is_first, e, rest) is (y ∷ ys) (r, is_r, e', rest') =
    let same : first ≡ r = one_pull_rule rules place first r is_first is_r in
    let moved : IsChain rules first.src ys = rw same rest' in
    let more : length ids < length ys = longer rules first.src ids last rule rest is ys moved in
    omega arith
