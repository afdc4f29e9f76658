-- The walks over rules, a step at a time.
use Rattle.std.proofs.Common.{◌≡◌, ◌<◌, ◌+◌, ◌||◌, ℕ, Bool, true, false, cond, List, ◌∷◌, Option, Some, None, length, get_or, drop, refl, ap, sym, subst, ◌∙◌}
use Rattle.std.specs.Prelude.{All, filter, find, option_map}
use Rattle.std.specs.List.{cons_option, list_any}
use Rattle.std.specs.Option.{option_or}
use Rattle.std.proofs.lemmas.List.{at_drop_more}
use Rattle.std.proofs.lemmas.List.Elements.{All-head, All-tail}
use Rattle.std.proofs.lemmas.Option.{slice_get-get_or}
use Rattle.ob_base.specs.declared.id.RecId.{RecId}
use Rattle.ob_access.specs.Admission.{applies_to}
use Rattle.ob_access.specs.Index.{rules_at}
use Rattle.ob_access.specs.Policies.{RuleData, rule_data}
use Rattle.ob_access.specs.declared.policy.Rule.{Rule}

-- the rule at the next place is the first of those that are left
pub next_rule : (rules : List Rule) (places : List ℕ) (i : ℕ) (rule : Rule) → i < length places → get_or places i 0 < length rules → rule ≡ get_or rules (get_or places i 0) rule
    → rules_at rules (drop i places) ≡ rule_data rule ∷ rules_at rules (drop (i + 1) places)
next_rule rules places i rule within there is =
    at_drop_more (rules_at rules) places i 0 within
    ∙ ap (λ (found : Option Rule). cons_option (option_map rule_data found) (rules_at rules (drop (i + 1) places))) (slice_get-get_or rules (get_or places i 0) rule there ∙ ap (λ (r : Rule). Some r) (sym is))

-- the first rule that applied and wasn't met, where one stands before these or is among them and none of these is met
abbrev pub unmet_from : (RuleData → Bool) → List RecId → Option RuleData → List RuleData → Option RuleData
unmet_from is_met own first rules = cond (list_any is_met (filter (applies_to own) rules)) None (option_or first (find (applies_to own) rules))

module _ (is_met : RuleData → Bool) (own : List RecId) where
  none_first : (rules : List RuleData) → unmet_from is_met own None rules ≡ cond (list_any is_met (filter (applies_to own) rules)) None (find (applies_to own) rules)
  none_first rules = refl

  step_passed : (b : Bool) (first : Option RuleData) (rule : RuleData) (fs : List RuleData) (o : Option RuleData) → b ≡ false
      → cond (list_any is_met (cond b (rule ∷ fs) fs)) None (option_or first (cond b (Some rule) o)) ≡ cond (list_any is_met fs) None (option_or first o)
  step_passed true first rule fs o e = cc
  step_passed false first rule fs o e = refl

  -- a rule that doesn't apply changes nothing
  pub passed_over : (first : Option RuleData) (rule : RuleData) (rules : List RuleData) → applies_to own rule ≡ false → unmet_from is_met own first (rule ∷ rules) ≡ unmet_from is_met own first rules
  passed_over first rule rules e = step_passed (applies_to own rule) first rule (filter (applies_to own) rules) (find (applies_to own) rules) e

  step_met : (b m : Bool) (first : Option RuleData) (rule : RuleData) (fs : List RuleData) (o : Option RuleData) → b ≡ true → is_met rule ≡ m → m ≡ true
      → cond (list_any is_met (cond b (rule ∷ fs) fs)) None (option_or first (cond b (Some rule) o)) ≡ None
  step_met false m first rule fs o e is met = cc
  step_met true m first rule fs o e is met = ap (λ (v : Bool). cond (v || list_any is_met fs) None (option_or first (Some rule))) (is ∙ met)

  -- one that applies and is met ends the walk
  pub met_now : (first : Option RuleData) (rule : RuleData) (rules : List RuleData) → applies_to own rule ≡ true → is_met rule ≡ true → unmet_from is_met own first (rule ∷ rules) ≡ None
  met_now first rule rules e met = step_met (applies_to own rule) true first rule (filter (applies_to own) rules) (find (applies_to own) rules) e met refl

  kept_first : (first : Option RuleData) (rule : RuleData) (o : Option RuleData) → option_or (option_or first (Some rule)) o ≡ option_or first (Some rule)
  kept_first None rule o = refl
  kept_first (Some r) rule o = refl

  step_unmet : (b : Bool) (first : Option RuleData) (rule : RuleData) (fs : List RuleData) (o : Option RuleData) → b ≡ true → is_met rule ≡ false
      → cond (list_any is_met (cond b (rule ∷ fs) fs)) None (option_or first (cond b (Some rule) o)) ≡ cond (list_any is_met fs) None (option_or (option_or first (Some rule)) o)
  step_unmet false first rule fs o e is = cc
  step_unmet true first rule fs o e is =
      ap (λ (v : Bool). cond (v || list_any is_met fs) None (option_or first (Some rule))) is ∙ ap (λ (p : Option RuleData). cond (list_any is_met fs) None p) (sym (kept_first first rule o))

  -- one that applies and isn't met is kept, if it is the first
  pub unmet_now : (first : Option RuleData) (rule : RuleData) (rules : List RuleData) → applies_to own rule ≡ true → is_met rule ≡ false
      → unmet_from is_met own first (rule ∷ rules) ≡ unmet_from is_met own (option_or first (Some rule)) rules
  unmet_now first rule rules e is = step_unmet (applies_to own rule) first rule (filter (applies_to own) rules) (find (applies_to own) rules) e is

-- ---- a turn of the walk for a global rule that fails

module _ (rules : List Rule) (places : List ℕ) (i : ℕ) (rule : Rule) (within : i < length places) (there : get_or places i 0 < length rules) (is : rule ≡ get_or rules (get_or places i 0) rule) where
  pub found_now : (p : RuleData → Bool) → p (rule_data rule) ≡ true → find p (rules_at rules (drop i places)) ≡ Some (rule_data rule)
  found_now p e =
      ap (find p) (next_rule rules places i rule within there is)
      ∙ ap (λ (b : Bool). cond b (Some (rule_data rule)) (find p (rules_at rules (drop (i + 1) places)))) e

  pub found_later : (p : RuleData → Bool) → p (rule_data rule) ≡ false → find p (rules_at rules (drop i places)) ≡ find p (rules_at rules (drop (i + 1) places))
  found_later p e =
      ap (find p) (next_rule rules places i rule within there is)
      ∙ ap (λ (b : Bool). cond b (Some (rule_data rule)) (find p (rules_at rules (drop (i + 1) places)))) e

  -- what holds of the rules that are left holds of the next, and of those behind it
  pub next_holds : (P : RuleData → Type 0) → All P (rules_at rules (drop i places)) → P (rule_data rule)
  next_holds P all = All-head P (rule_data rule) (rules_at rules (drop (i + 1) places)) (subst (All P) (next_rule rules places i rule within there is) all)

  pub rest_holds : (P : RuleData → Type 0) → All P (rules_at rules (drop i places)) → All P (rules_at rules (drop (i + 1) places))
  rest_holds P all = All-tail P (rule_data rule) (rules_at rules (drop (i + 1) places)) (subst (All P) (next_rule rules places i rule within there is) all)

module _ (P : ℕ → Type 0) (places : List ℕ) (i : ℕ) (within : i < length places) where
  pub place_holds : All P (drop i places) → P (get_or places i 0)
  place_holds all = All-head P (get_or places i 0) (drop (i + 1) places) (subst (All P) (at_drop_more (λ (l : List ℕ). l) places i 0 within) all)

  pub places_hold : All P (drop i places) → All P (drop (i + 1) places)
  places_hold all = All-tail P (get_or places i 0) (drop (i + 1) places) (subst (All P) (at_drop_more (λ (l : List ℕ). l) places i 0 within) all)
