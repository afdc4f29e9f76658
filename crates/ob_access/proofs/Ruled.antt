-- The rules for an operation on a model, of a policy over a registry.
use Rattle.std.proofs.Common.{◌≡◌, ◌<◌, ◌&&◌, ◌||◌, ◌==◌, ℕ, zero, suc, Bool, true, false, cond, List, [], ◌∷◌, Option, Some, None, Result, Ok, Err, filter, length, get_or, map, refl, ap, sym, subst, arith, ◌∙◌}
use Rattle.std.specs.Prelude.{All, IfOk, find, is_none, is_some, not, option_map}
use Rattle.std.specs.Option.{option_or}
use Rattle.std.proofs.lemmas.Bool.{eqb-true}
use Rattle.std.proofs.lemmas.List.Elements.{All-cons, All-head, All-nil, All-tail}
use Rattle.ob_base.specs.declared.id.ModelNo.{ModelNo}
use Rattle.ob_base.specs.declared.id.RecId.{RecId}
use Rattle.ob_base.specs.declared.refusal.Op.{Op}
use Rattle.ob_domain.specs.Over.{IsOver}
use Rattle.ob_schema.specs.declared.info.ModelInfo.{ModelInfo}
use Rattle.ob_access.specs.Admission.{first_denying, is_global, pass}
use Rattle.ob_access.specs.Asked.{first_unmet}
use Rattle.ob_access.specs.Index.{asks_for}
use Rattle.ob_access.specs.Ops.{has_op}
use Rattle.ob_access.specs.Policies.{IsRuleOver, RuleData}
use Rattle.ob_access.specs.declared.policy.Group.{Group}
use Rattle.ob_access.proofs.Denying.{denying_walks}

and_first : (a b : Bool) → (a && b) ≡ true → a ≡ true
and_first true b e = refl
and_first false b e = e

same_model : (a b : ModelNo) → (a.0 == b.0) ≡ true → a ≡ b
same_model a b e = ap (λ (n : ℕ). let model : ModelNo = record { 0 = n } in model) (eqb-true a.0 b.0 e)

module _ (models : List ModelInfo) (groups : List Group) (model : ModelNo) (op : Op) where
  abbrev Asks : RuleData → Type 0
  Asks rule = IsOver models model rule.asks

  rule_over : (b : Bool) (rule : RuleData) (rules : List RuleData) → asks_for model op rule.model rule.ops ≡ b → IsRuleOver models groups rule → All Asks rules → All Asks (cond b (rule ∷ rules) rules)
  rule_over true rule rules is over all =
      All-cons Asks rule rules (subst (λ (m : ModelNo). IsOver models m rule.asks) (same_model rule.model model (and_first (rule.model.0 == model.0) (has_op rule.ops op) is)) over.2) all
  rule_over false rule rules is over all = all

  -- they ask fields of the model
  pub rules_over : (rules : List RuleData) → All (IsRuleOver models groups) rules → All Asks (filter (λ rule. asks_for model op rule.model rule.ops) rules)
  rules_over [] all = All-nil Asks
  rules_over (rule ∷ rules) all =
      rule_over (asks_for model op rule.model rule.ops) rule (filter (λ rule. asks_for model op rule.model rule.ops) rules) refl
      (All-head (IsRuleOver models groups) rule rules all) (rules_over rules (All-tail (IsRuleOver models groups) rule rules all))

some_first : {A : Type 0} (o p : Option A) → is_some o ≡ true → option_or o p ≡ o
some_first None p e = cc
some_first (Some x) p e = refl

none_first : {A : Type 0} (o p : Option A) → is_some o ≡ false → option_or o p ≡ p
none_first None p e = refl
none_first (Some x) p e = cc

mapped : {A B : Type 0} (f : A → B) (o : Option A) → is_some (option_map f o) ≡ is_some o
mapped f None = refl
mapped f (Some x) = refl

module _ (is_met : RuleData → Bool) (own : List RecId) (rules : List RuleData) (su : Bool) where
  abbrev denied_by : Option RuleData
  denied_by = cond (su || pass is_met own rules) None (first_denying is_met own rules)

  pub by_user_1 : su ≡ true → None ≡ denied_by
  by_user_1 e = sym (ap (λ (v : Bool). cond (v || pass is_met own rules) None (first_denying is_met own rules)) e)

  walks : su ≡ false → denied_by ≡ option_or (find (λ rule. is_global rule && not (is_met rule)) rules) (first_unmet is_met own rules)
  walks e = ap (λ (v : Bool). cond (v || pass is_met own rules) None (first_denying is_met own rules)) e ∙ denying_walks is_met own rules

  module _ {A : Type 0} (f : A → RuleData) (failing : Option A) (told : option_map f failing ≡ find (λ rule. is_global rule && not (is_met rule)) rules) where
    -- a global rule that fails is the one
    pub by_global : su ≡ false → is_some failing ≡ true → option_map f failing ≡ denied_by
    by_global e some =
        told ∙ sym (walks e ∙ some_first (find (λ rule. is_global rule && not (is_met rule)) rules) (first_unmet is_met own rules) (ap is_some (sym told) ∙ mapped f failing ∙ some))

    -- where none fails, it is the first of those that apply, if none of these is met
    pub by_group : (unmet : Option A) → su ≡ false → is_some failing ≡ false → option_map f unmet ≡ first_unmet is_met own rules → option_map f unmet ≡ denied_by
    by_group unmet e none is =
        is ∙ sym (walks e ∙ none_first (find (λ rule. is_global rule && not (is_met rule)) rules) (first_unmet is_met own rules) (ap is_some (sym told) ∙ mapped f failing ∙ none))

-- what holds of a value holds of it in another way
pub if_ok : {T E : Type 0} (r : Result T E) (P Q : T → Type 0) → ((x : T) → P x → Q x) → IfOk r P → IfOk r Q
if_ok (Ok x) P Q f h = f x h
if_ok (Err e) P Q f h = h

-- a test for nothing
pub none_told : {A : Type 0} (o : Option A) (r : Bool) → is_some o ≡ not r → r ≡ is_none o
none_told None true e = refl
none_told None false e = e
none_told (Some x) true e = e
none_told (Some x) false e = refl

pub none_mapped : {A B : Type 0} (f : A → B) (o : Option A) → is_none (option_map f o) ≡ is_none o
none_mapped f None = refl
none_mapped f (Some x) = refl

-- what holds of each value that is made of an element holds of what is made of the one at a place
pub All-from_map : {X Y : Type 0} (P : Y → Type 0) (f : X → Y) (xs : List X) (k : ℕ) (d : X) → k < length xs → All P (map f xs) → P (f (get_or xs k d))
All-from_map P f [] k d lt all = absurd (omega arith)
All-from_map P f (x ∷ xs) zero d lt all = All-head P (f x) (map f xs) all
All-from_map P f (x ∷ xs) (suc k) d lt all = All-from_map P f xs k d (omega arith) (All-tail P (f x) (map f xs) all)
