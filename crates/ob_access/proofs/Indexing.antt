-- A line or rule more in the lists.
use Rattle.std.proofs.Common.{◌≡◌, ◌<◌, ◌+◌, ◌++◌, ℕ, Bool, true, false, cond, List, [], ◌∷◌, Option, Some, None, length, get_or, drop, filter, map, refl, ap, sym, subst, ◌∙◌, append_assoc}
use Rattle.std.specs.Prelude.{option_map, slice_get}
use Rattle.std.specs.List.{cons_option}
use Rattle.std.proofs.lemmas.List.{append-nil, at_drop_more}
use Rattle.std.proofs.lemmas.List.Elements.{All-append, All-cons, All-nil}
use Rattle.std.proofs.lemmas.Option.{slice_get-get_or}
use Rattle.ob_access.specs.Index.{ArePlaces, list_if, rules_at}
use Rattle.ob_access.specs.Policies.{RuleData, rule_data}
use Rattle.ob_access.specs.declared.policy.Rule.{Rule}

module _ {A B : Type 0} (f : A → B) (p : A → Bool) where
  listed_by : (b : Bool) (x : A) (xs : List A) (old : List B) → (old ++ list_if b (f x)) ++ map f xs ≡ old ++ map f (cond b (x ∷ xs) xs)
  listed_by true x xs old = append_assoc old (f x ∷ []) (map f xs)
  listed_by false x xs old = ap (λ (l : List B). l ++ map f xs) (append-nil old)

  -- what is listed and what is left are as before
  pub listed_turn : (xs : List A) (i : ℕ) (d : A) (old new : List B) → i < length xs → new ≡ old ++ list_if (p (get_or xs i d)) (f (get_or xs i d))
      → new ++ map f (filter p (drop (i + 1) xs)) ≡ old ++ map f (filter p (drop i xs))
  listed_turn xs i d old new within is =
      ap (λ (l : List B). l ++ map f (filter p (drop (i + 1) xs))) is ∙ listed_by (p (get_or xs i d)) (get_or xs i d) (filter p (drop (i + 1) xs)) old
      ∙ sym (at_drop_more (λ (rest : List A). old ++ map f (filter p rest)) xs i d within)

rules_at-append : (rules : List Rule) (front back : List ℕ) → rules_at rules (front ++ back) ≡ rules_at rules front ++ rules_at rules back
rules_at-append rules [] back = refl
rules_at-append rules (place ∷ front) back =
    ap (cons_option (option_map rule_data (slice_get rules place))) (rules_at-append rules front back) ∙ consed (option_map rule_data (slice_get rules place)) (rules_at rules front) (rules_at rules back)
  where
    consed : (o : Option RuleData) (xs ys : List RuleData) → cons_option o (xs ++ ys) ≡ cons_option o xs ++ ys
    consed None xs ys = refl
    consed (Some r) xs ys = refl

module _ (p : RuleData → Bool) (rules : List Rule) where
  at_place : (b : Bool) (i : ℕ) (r : Rule) → slice_get rules i ≡ Some r → rules_at rules (list_if b i) ≡ cond b (rule_data r ∷ []) []
  at_place true i r is = ap (λ (o : Option Rule). cons_option (option_map rule_data o) []) is
  at_place false i r is = refl

  ruled_by : (b : Bool) (r : RuleData) (old rest : List RuleData) → (old ++ cond b (r ∷ []) []) ++ rest ≡ old ++ cond b (r ∷ rest) rest
  ruled_by true r old rest = append_assoc old (r ∷ []) rest
  ruled_by false r old rest = ap (λ (l : List RuleData). l ++ rest) (append-nil old)

  -- the rules whose places are listed and those that are left are as before
  pub rules_turn : (i : ℕ) (d : Rule) (old new : List ℕ) → i < length rules → new ≡ old ++ list_if (p (rule_data (get_or rules i d))) i
      → rules_at rules new ++ filter p (map rule_data (drop (i + 1) rules)) ≡ rules_at rules old ++ filter p (map rule_data (drop i rules))
  rules_turn i d old new within is =
      ap (λ (l : List ℕ). rules_at rules l ++ filter p (map rule_data (drop (i + 1) rules))) is
      ∙ ap (λ (l : List RuleData). l ++ filter p (map rule_data (drop (i + 1) rules))) (rules_at-append rules old (list_if (p (rule_data (get_or rules i d))) i)
      ∙ ap (λ (l : List RuleData). rules_at rules old ++ l) (at_place (p (rule_data (get_or rules i d))) i (get_or rules i d) (slice_get-get_or rules i d within)))
      ∙ ruled_by (p (rule_data (get_or rules i d))) (rule_data (get_or rules i d)) (rules_at rules old) (filter p (map rule_data (drop (i + 1) rules)))
      ∙ sym (at_drop_more (λ (rest : List Rule). rules_at rules old ++ filter p (map rule_data rest)) rules i d within)

  pub rules_turn_at : (i : ℕ) (r : Rule) → r ≡ get_or rules i r → (old new : List ℕ) → i < length rules → new ≡ old ++ list_if (p (rule_data r)) i
      → rules_at rules new ++ filter p (map rule_data (drop (i + 1) rules)) ≡ rules_at rules old ++ filter p (map rule_data (drop i rules))
  rules_turn_at i r e old new within is = rules_turn i r old new within (subst (λ (q : Rule). new ≡ old ++ list_if (p (rule_data q)) i) e is)

  place_if : (b : Bool) (i : ℕ) → i < length rules → ArePlaces rules (list_if b i)
  place_if true i within = All-cons (λ (place : ℕ). place < length rules) i [] within (All-nil (λ (place : ℕ). place < length rules))
  place_if false i within = All-nil (λ (place : ℕ). place < length rules)

  pub places_turn : (i : ℕ) (b : Bool) (old new : List ℕ) → i < length rules → new ≡ old ++ list_if b i → ArePlaces rules old → ArePlaces rules new
  places_turn i b old new within is all =
      let P : List ℕ → Type 0 = λ l. ArePlaces rules l in
      subst P (sym is) (All-append (λ (place : ℕ). place < length rules) old (list_if b i) all (place_if b i within))
