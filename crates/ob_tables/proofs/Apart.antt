-- Marks of the fields that were met among given values: no field is met twice exactly where all are apart.
use Rattle.std.proofs.Common.{◌≡◌, ◌≢◌, ◌+◌, ◌<◌, ◌==◌, ◌||◌, ◌⊎◌, inl, inr, ℕ, Bool, true, false, List, length, get_or, set, take, arith, sym, ap, subst, ◌∙◌}
use Rattle.std.specs.List.{AllPairs, Any, list_any}
use Rattle.std.proofs.lemmas.Bool.{cases_eq, eq-eqb, eqb-true, ne_eqb}
use Rattle.std.proofs.lemmas.List.{get_or-set_other, get_or-set_same, get_or-take, get_or_default, length-take-le, take_more}
use Rattle.std.proofs.lemmas.List.Folds.{Any-from_list_any, list_any_at, list_any_more}
use Rattle.std.proofs.lemmas.List.Quantifiers.{all_pairs_push}
use Rattle.ob_base.specs.declared.id.FieldNo.{FieldNo}
use Rattle.ob_base.specs.declared.value.Value.{Value}

-- one of the values is for the field of this number
abbrev pub is_met : List (FieldNo × Value) → ℕ → Bool
is_met values n = list_any (λ given. given.0.0 == n) values

-- no two values are for one field
abbrev pub AreApart : List (FieldNo × Value) → Type 0
AreApart values = AllPairs (λ a b. a.0 ≢ b.0) values

or_true : (b c : Bool) → c ≡ true → true ≡ (b || c)
or_true true c is = cc
or_true false c is = sym is

or_false : (b c : Bool) → c ≡ false → b ≡ (b || c)
or_false true c is = cc
or_false false c is = sym is

-- at the next place stands a value for this field
module _ (values : List (FieldNo × Value)) (i : ℕ) (d : FieldNo × Value) (k : ℕ) (within : i < length values) (here : k ≡ (get_or values i d).0.0) where
  -- one more mark
  pub marks_next : (met : List Bool) → k < length met → ((n : ℕ) → n < length met → get_or met n false ≡ is_met (take i values) n)
      → (n : ℕ) → n < length met → get_or (set met k true) n false ≡ is_met (take (i + 1) values) n
  marks_next met low marked n lt = by (cases_eq n k) ∙ sym (list_any_more (λ given. given.0.0 == n) values i d within)
    where
      by : (n ≡ k) ⊎ (n ≡ k → ⊥) → get_or (set met k true) n false ≡ (is_met (take i values) n || ((get_or values i d).0.0 == n))
      by (inl same) = ap (λ (m : ℕ). get_or (set met k true) m false) same ∙ get_or-set_same met k true false low
          ∙ or_true (is_met (take i values) n) ((get_or values i d).0.0 == n) (eq-eqb (get_or values i d).0.0 n (sym here ∙ sym same))
      by (inr other) = get_or-set_other met k n true false other ∙ marked n lt ∙ or_false (is_met (take i values) n) ((get_or values i d).0.0 == n) (ne_eqb (get_or values i d).0.0 n (λ same. other (sym same ∙ sym here)))

  -- a field that isn't met is apart from those before
  pub pairs_next : is_met (take i values) k ≡ false → AreApart (take i values) → AreApart (take (i + 1) values)
  pairs_next none apart = subst AreApart (sym (take_more values i d within)) (all_pairs_push (λ a b. a.0 ≢ b.0) (take i values) (get_or values i d) apart first)
    where
      first : (j : ℕ) (e : FieldNo × Value) → j < length (take i values) → (get_or (take i values) j e).0 ≢ (get_or values i d).0
      first j e lt same = let met = list_any_at (λ given. given.0.0 == k) (take i values) j e lt (eq-eqb (get_or (take i values) j e).0.0 k (ap (λ (f : FieldNo). f.0) same ∙ sym here)) in cc

  -- one that is met isn't
  pub met_twice : is_met (take i values) k ≡ true → AreApart values → ⊥
  met_twice met apart = by (Any-from_list_any (λ given. given.0.0 == k) (take i values) met)
    where
      same_field : (a b : FieldNo) → a.0 ≡ b.0 → a ≡ b
      same_field a b is = ap (λ (m : ℕ). record { 0 = m }) is

      by : Any (λ given. (given.0.0 == k) ≡ true) (take i values) → ⊥
      by (j, x, lt, is, same) =
          let before : j < i = omega (arith, length-take-le i values (omega arith)) in
          let at : get_or values j d ≡ x = get_or_default values j d x (omega arith) ∙ sym (get_or-take i values j x before) ∙ is in
          apart j i d before within (same_field (get_or values j d).0 (get_or values i d).0 (ap (λ (g : FieldNo × Value). g.0.0) at ∙ eqb-true x.0.0 k same ∙ here))
