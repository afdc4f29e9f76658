-- Which rule denies, by what the walks over rules find.
use Rattle.std.proofs.Common.{◌≡◌, ◌&&◌, ◌||◌, ◌⊎◌, Bool, true, false, cond, not, List, [], ◌∷◌, Option, Some, None, refl, ap, sym, subst, inl, inr, ◌∙◌}
use Rattle.std.specs.Prelude.{is_none, filter, find}
use Rattle.std.specs.List.{list_all, list_any}
use Rattle.std.specs.Option.{option_or}
use Rattle.ob_base.specs.declared.id.RecId.{RecId}
use Rattle.ob_access.specs.Admission.{applies_to, first_denying, is_global, pass, some_met}
use Rattle.ob_access.specs.Asked.{first_unmet}
use Rattle.ob_access.specs.Policies.{RuleData}

module _ {A : Type 0} (p q : A → Bool) where
  all_met_now : (m : Bool) (x : A) (xs : List A) (o : Option A) → list_all q xs ≡ is_none o → (m && list_all q xs) ≡ is_none (cond (not m) (Some x) o)
  all_met_now true x xs o h = h
  all_met_now false x xs o h = refl

  all_met_more : (b : Bool) (x : A) (xs : List A) (o : Option A) → list_all q xs ≡ is_none o → list_all q (cond b (x ∷ xs) xs) ≡ is_none (cond (b && not (q x)) (Some x) o)
  all_met_more true x xs o h = all_met_now (q x) x xs o h
  all_met_more false x xs o h = h

  -- all that pass one test pass the other exactly where none fails it
  pub all_met : (xs : List A) → list_all q (filter p xs) ≡ is_none (find (λ x. p x && not (q x)) xs)
  all_met [] = refl
  all_met (x ∷ xs) = all_met_more (p x) x (filter p xs) (find (λ x. p x && not (q x)) xs) (all_met xs)

  found_more : (b : Bool) (x : A) (xs : List A) (o : Option A) → ((xs ≡ []) × (o ≡ None)) ⊎ ((y : A) × (ys : List A) × (xs ≡ y ∷ ys) × (o ≡ Some y))
      → ((cond b (x ∷ xs) xs ≡ []) × (cond b (Some x) o ≡ None)) ⊎ ((y : A) × (ys : List A) × (cond b (x ∷ xs) xs ≡ y ∷ ys) × (cond b (Some x) o ≡ Some y))
  found_more true x xs o h = inr (x, xs, refl, refl)
  found_more false x xs o h = h

  -- none passes, or the first that does is found
  pub found : (xs : List A) → ((filter p xs ≡ []) × (find p xs ≡ None)) ⊎ ((y : A) × (ys : List A) × (filter p xs ≡ y ∷ ys) × (find p xs ≡ Some y))
  found [] = inl (refl, refl)
  found (x ∷ xs) = found_more (p x) x (filter p xs) (find p xs) (found xs)

-- where one is asked for, another is met or there is one that isn't
abbrev Unmet : (RuleData → Bool) → List RuleData → Option RuleData → Type 0
Unmet is_met rules o = (cond (list_any is_met rules) None o ≡ cond (some_met is_met rules) None o) × (some_met is_met rules ≡ false → is_none o ≡ false)

module _ (is_met : RuleData → Bool) where
  unmet : (rules : List RuleData) (o : Option RuleData) → ((rules ≡ []) × (o ≡ None)) ⊎ ((y : RuleData) × (ys : List RuleData) × (rules ≡ y ∷ ys) × (o ≡ Some y)) → Unmet is_met rules o
  unmet rules o (inl none) =
      subst (λ (rs : List RuleData). Unmet is_met rs o) (sym none.0) (subst (λ (x : Option RuleData). Unmet is_met [] x) (sym none.1) (refl, λ (e : true ≡ false). cc))
  unmet rules o (inr (y, ys, these, first)) =
      subst (λ (rs : List RuleData). Unmet is_met rs o) (sym these) (subst (λ (x : Option RuleData). Unmet is_met (y ∷ ys) x) (sym first) (refl, λ _. refl))

  -- of the rules that apply, one is met or the first denies
  pub unmet_rules : (own : List RecId) (rules : List RuleData) → Unmet is_met (filter (applies_to own) rules) (find (applies_to own) rules)
  unmet_rules own rules = unmet (filter (applies_to own) rules) (find (applies_to own) rules) (found (applies_to own) (applies_to own) rules)

-- the first of two walks that finds a rule has the rule that denies
denied : {A : Type 0} (o p : Option A) (b : Bool) → cond (is_none o && b) None (option_or o p) ≡ option_or o (cond b None p)
denied None p b = refl
denied (Some x) p b = refl

none_denied : {A : Type 0} (su b : Bool) (o p : Option A) → (b ≡ false → is_none p ≡ false) → is_none (cond (su || (is_none o && b)) None (option_or o p)) ≡ (su || (is_none o && b))
none_denied true b o p h = refl
none_denied false b (Some x) p h = refl
none_denied false true None p h = refl
none_denied false false None p h = h refl

module _ (is_met : RuleData → Bool) (own : List RecId) (rules : List RuleData) where
  -- for a caller who isn't user 1 the two walks find the rule that denies
  pub denying_walks : cond (pass is_met own rules) None (first_denying is_met own rules)
      ≡ option_or (find (λ rule. is_global rule && not (is_met rule)) rules) (first_unmet is_met own rules)
  denying_walks =
      rw (all_met is_global is_met rules)
      (denied (find (λ rule. is_global rule && not (is_met rule)) rules) (find (applies_to own) rules) (some_met is_met (filter (applies_to own) rules))
      ∙ ap (option_or (find (λ rule. is_global rule && not (is_met rule)) rules)) (sym (unmet_rules is_met own rules).0))

  -- no rule denies exactly where they pass
  pub none_denying : (su : Bool) → is_none (cond (su || pass is_met own rules) None (first_denying is_met own rules)) ≡ (su || pass is_met own rules)
  none_denying su =
      rw (all_met is_global is_met rules)
      (none_denied su (some_met is_met (filter (applies_to own) rules)) (find (λ rule. is_global rule && not (is_met rule)) rules) (find (applies_to own) rules) (unmet_rules is_met own rules).1)
