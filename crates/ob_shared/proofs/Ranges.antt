-- The first entry from a bound on, and the entries between two bounds around it.
use Rattle.std.proofs.Common.{◌≡◌, Bool, true, false, not, ◌&&◌, cond, List, [], ◌∷◌, ◌++◌, Some, None, is_some, sym, refl, ap, ◌∙◌, subst}
use Rattle.std.proofs.lemmas.Bool.{true≢false, false≢true}
use Rattle.std.specs.Cmp.{IsTotalOrder, tied_itself}
use Rattle.std.specs.List.{AllByRecursion, filter, slice_get}
use Rattle.std.specs.List.Sorted.{IsStrictlySortedBy}
use Rattle.std.specs.Map.{keys_of}
use Rattle.std.specs.Ordering.{is_lt, is_le, ordering_reverse}
use Rattle.std.specs.declared.cmp.Ordering.{Ordering}
use Rattle.std.specs.declared.cmp.Ordering.TheVariants.{Less, Equal, Greater}
use Rattle.std.specs.declared.ops.Bound.{Bound}
use Rattle.std.specs.declared.ops.Bound.TheVariants.{Included, Excluded, Unbounded}
use Rattle.std.specs.BTreeMap.Comparable.{le_lt_trans}
use Rattle.std.specs.BTreeMap.Range.{is_from_start, is_past_end, range_contains, entries_between}
use Rattle.ob_shared.proofs.Parts.{IsAround, around}
use Rattle.ob_shared.proofs.Sides.{passed, failed}

-- ---- what a filter keeps

module _ {A : Type 0} (p : A → Bool) where
  pub filter_past : (l m : List A) → AllByRecursion (λ x. p x ≡ false) l → filter p (l ++ m) ≡ filter p m
  filter_past [] m a = refl
  filter_past (x ∷ l) m a = failed _ _ a.0 ∙ filter_past l m a.1

  filter_none : (l : List A) → AllByRecursion (λ x. p x ≡ false) l → filter p l ≡ []
  filter_none [] a = refl
  filter_none (x ∷ l) a = failed _ _ a.0 ∙ filter_none l a.1

  -- the first that passes is before m, or in it
  pub head_before : (l m : List A) (y : A) → slice_get (filter p l) 0 ≡ Some y → slice_get (filter p (l ++ m)) 0 ≡ Some y
  head_before [] m y h = absurd (false≢true (ap is_some h))
  head_before (x ∷ l) m y h = by (p x) (head_before l m y) h
    where
      by : (b : Bool) → (slice_get (filter p l) 0 ≡ Some y → slice_get (filter p (l ++ m)) 0 ≡ Some y)
          → slice_get (cond b (x ∷ filter p l) (filter p l)) 0 ≡ Some y → slice_get (cond b (x ∷ filter p (l ++ m)) (filter p (l ++ m))) 0 ≡ Some y
      by true rest g = g
      by false rest g = rest g

  pub head_after : (l m : List A) → slice_get (filter p l) 0 ≡ None → slice_get (filter p (l ++ m)) 0 ≡ slice_get (filter p m) 0
  head_after [] m h = refl
  head_after (x ∷ l) m h = by (p x) (head_after l m) h
    where
      by : (b : Bool) → (slice_get (filter p l) 0 ≡ None → slice_get (filter p (l ++ m)) 0 ≡ slice_get (filter p m) 0)
          → slice_get (cond b (x ∷ filter p l) (filter p l)) 0 ≡ None → slice_get (cond b (x ∷ filter p (l ++ m)) (filter p (l ++ m))) 0 ≡ slice_get (filter p m) 0
      by true rest g = absurd (true≢false (ap is_some g))
      by false rest g = rest g

  -- where none passes, none passes another test besides
  none_passes : (l : List A) → slice_get (filter p l) 0 ≡ None → AllByRecursion (λ x. p x ≡ false) l
  none_passes [] h = tt
  none_passes (x ∷ l) h = by (p x) refl (none_passes l) h
    where
      by : (b : Bool) → p x ≡ b → (slice_get (filter p l) 0 ≡ None → AllByRecursion (λ z. p z ≡ false) l)
          → slice_get (cond b (x ∷ filter p l) (filter p l)) 0 ≡ None → (p x ≡ false) × AllByRecursion (λ z. p z ≡ false) l
      by true q rest g = absurd (true≢false (ap is_some g))
      by false q rest g = (q, rest g)

filter_alike : {A : Type 0} (p q : A → Bool) (l : List A) → AllByRecursion (λ x. p x ≡ q x) l → filter p l ≡ filter q l
filter_alike p q [] a = refl
filter_alike p q (x ∷ l) a = λ i. cond (a.0 i) (x ∷ filter_alike p q l a.1 i) (filter_alike p q l a.1 i)

all_map : {A : Type 0} (P Q : A → Type 0) → ((x : A) → P x → Q x) → (l : List A) → AllByRecursion P l → AllByRecursion Q l
all_map P Q f [] a = tt
all_map P Q f (x ∷ l) a = (f x a.0, all_map P Q f l a.1)

-- e is the first that passes: those before it fail
record IsFirst {A : Type 0} (p : A → Bool) (es : List A) (e : A) : Type 0 where
  before : List A
  after : List A
  parts : es ≡ before ++ e ∷ after
  outside : AllByRecursion (λ x. p x ≡ false) before
  inside : p e ≡ true

is_first : {A : Type 0} (p : A → Bool) (es : List A) (e : A) → slice_get (filter p es) 0 ≡ Some e → IsFirst p es e
is_first p [] e h = absurd (false≢true (ap is_some h))
is_first {A} p (x ∷ es) e h = by (p x) refl (is_first p es e) h
  where
    by : (b : Bool) → p x ≡ b → (slice_get (filter p es) 0 ≡ Some e → IsFirst p es e) → slice_get (cond b (x ∷ filter p es) (filter p es)) 0 ≡ Some e → IsFirst p (x ∷ es) e
    by true q rest g =
        let same : x ≡ e = cc in
        record { before = []; after = es; parts = ap (λ z. z ∷ es) same; outside = tt; inside = ap p (sym same) ∙ q }
    by false q rest g =
        let r = rest g in
        record { before = x ∷ r.before; after = r.after; parts = ap (λ t. x ∷ t) r.parts; outside = (q, r.outside); inside = r.inside }

-- ---- bounds

le_from_lt : (o : Ordering) → is_lt o ≡ true → is_le o ≡ true
le_from_lt Less h = refl
le_from_lt Equal h = absurd (false≢true h)
le_from_lt Greater h = absurd (false≢true h)

module _ {K : Type 0} {R : K → K → Ordering} (total : IsTotalOrder R) where
  module _ (x y : K) (below : R x y ≡ Less) where
    -- a key above one that is inside a start bound is inside too
    inside_second : (lo : Bound K) → is_from_start R lo x ≡ true → is_from_start R lo y ≡ true
    inside_second (Included a) h = ap is_le (le_lt_trans total a x y h below)
    inside_second (Excluded a) h = ap is_lt (le_lt_trans total a x y (le_from_lt (R a x) h) below)
    inside_second Unbounded h = refl

    outside_first : (lo : Bound K) → is_from_start R lo y ≡ false → is_from_start R lo x ≡ false
    outside_first lo h = by (is_from_start R lo x) refl
      where
        by : (b : Bool) → is_from_start R lo x ≡ b → b ≡ false
        by true e = absurd (true≢false (sym (inside_second lo e) ∙ h))
        by false e = refl

    past_second : (hi : Bound K) → is_past_end R hi x ≡ true → is_past_end R hi y ≡ true
    past_second (Included b) h = ap is_lt (le_lt_trans total b x y (le_from_lt (R b x) h) below)
    past_second (Excluded b) h = ap is_le (le_lt_trans total b x y h below)
    past_second Unbounded h = h

both_met : {a b : Bool} → a ≡ true → b ≡ false → (a && not b) ≡ true
both_met h g = λ i. h i && not (g i)

end_unmet : (a b : Bool) → b ≡ true → (a && not b) ≡ false
end_unmet true b h = ap not h
end_unmet false b h = refl

module _ {K X : Type 0} {R : K → K → Ordering} (total : IsTotalOrder R) (l : List (K × X)) (e : K × X) (r : List (K × X)) (parts : IsAround R l e r) (lo : Bound K) where
  -- where the key of e is outside a start bound, the first inside is behind it
  pub first_after : is_from_start R lo e.0 ≡ false → filter (λ x. is_from_start R lo x.0) (l ++ e ∷ r) ≡ filter (λ x. is_from_start R lo x.0) r
  first_after h =
      filter_past (λ x. is_from_start R lo x.0) l (e ∷ r)
      (all_map (λ x. R x.0 e.0 ≡ Less) (λ x. is_from_start R lo x.0 ≡ false) (λ x below. outside_first total x.0 e.0 below lo h) l parts.below)
      ∙ failed _ _ h

  module _ (hi : Bound K) (outside : AllByRecursion (λ x. is_from_start R lo x.0 ≡ false) l) where
    lead : entries_between R lo hi (l ++ e ∷ r) ≡ entries_between R lo hi (e ∷ r)
    lead =
        filter_past (λ x. range_contains R lo hi x.0) l (e ∷ r)
        (all_map (λ x. is_from_start R lo x.0 ≡ false) (λ x. range_contains R lo hi x.0 ≡ false) (λ x h. ap (λ b. b && not (is_past_end R hi x.0)) h) l outside)

    -- where it is outside the end bound too, nothing is between the bounds
    at_end : is_past_end R hi e.0 ≡ true → entries_between R lo hi (l ++ e ∷ r) ≡ []
    at_end h =
        lead
        ∙ filter_none (λ x. range_contains R lo hi x.0) (e ∷ r)
        (end_unmet _ _ h, all_map (λ x. R e.0 x.0 ≡ Less) (λ x. range_contains R lo hi x.0 ≡ false) (λ x above. end_unmet _ _ (past_second total e.0 x.0 above hi h)) r parts.above)

    -- else it is the first between them, and the others are those above it
    rest_is : entries_between R (Excluded e.0) hi (l ++ e ∷ r) ≡ entries_between R (Excluded e.0) hi r
    rest_is =
        filter_past (λ x. range_contains R (Excluded e.0) hi x.0) l (e ∷ r)
        (all_map (λ x. R x.0 e.0 ≡ Less) (λ x. range_contains R (Excluded e.0) hi x.0 ≡ false)
        (λ x below. ap (λ b. b && not (is_past_end R hi x.0)) (ap is_lt (total.antisymm e.0 x.0 ∙ ap ordering_reverse below))) l parts.below)
        ∙ failed _ _ (ap (λ b. b && not (is_past_end R hi e.0)) (ap is_lt (tied_itself total e.0)))

    at_first : is_from_start R lo e.0 ≡ true → is_past_end R hi e.0 ≡ false
        → entries_between R lo hi (l ++ e ∷ r) ≡ e ∷ entries_between R (Excluded e.0) hi (l ++ e ∷ r)
    at_first inside h =
        lead ∙ passed _ _ (both_met inside h)
        ∙ ap (λ t. e ∷ t) (filter_alike (λ x. range_contains R lo hi x.0) (λ x. range_contains R (Excluded e.0) hi x.0) r
        (all_map (λ x. R e.0 x.0 ≡ Less) (λ x. range_contains R lo hi x.0 ≡ range_contains R (Excluded e.0) hi x.0)
        (λ x above. ap (λ b. b && not (is_past_end R hi x.0)) (inside_second total e.0 x.0 above lo inside ∙ sym (ap is_lt above))) r parts.above)
        ∙ sym rest_is)

-- ---- a step over the entries between two bounds, from the first that is inside the start bound

module _ {K X : Type 0} (R : K → K → Ordering) (lo hi : Bound K) (es : List (K × X)) where
  pub step_none : slice_get (filter (λ x. is_from_start R lo x.0) es) 0 ≡ None → entries_between R lo hi es ≡ []
  step_none h =
      filter_none (λ x. range_contains R lo hi x.0) es
      (all_map (λ x. is_from_start R lo x.0 ≡ false) (λ x. range_contains R lo hi x.0 ≡ false) (λ x g. ap (λ b. b && not (is_past_end R hi x.0)) g) es (none_passes (λ x. is_from_start R lo x.0) es h))

  module _ (total : IsTotalOrder R) (sorted : IsStrictlySortedBy R (keys_of es)) (e : K × X) (found : slice_get (filter (λ x. is_from_start R lo x.0) es) 0 ≡ Some e) where
    pub step_end : is_past_end R hi e.0 ≡ true → entries_between R lo hi es ≡ []
    step_end h =
        let f = is_first (λ x. is_from_start R lo x.0) es e found in
        let parts = around R f.before e f.after (subst (λ t. IsStrictlySortedBy R (keys_of t)) f.parts sorted) in
        ap (entries_between R lo hi) f.parts ∙ at_end total f.before e f.after parts lo hi f.outside h

    pub step_first : is_past_end R hi e.0 ≡ false → entries_between R lo hi es ≡ e ∷ entries_between R (Excluded e.0) hi es
    step_first h =
        let f = is_first (λ x. is_from_start R lo x.0) es e found in
        let parts = around R f.before e f.after (subst (λ t. IsStrictlySortedBy R (keys_of t)) f.parts sorted) in
        ap (entries_between R lo hi) f.parts ∙ at_first total f.before e f.after parts lo hi f.outside f.inside h
        ∙ ap (λ t. e ∷ entries_between R (Excluded e.0) hi t) (sym f.parts)

-- with no bounds all are between them
pub between_all : {K X : Type 0} (R : K → K → Ordering) (es : List (K × X)) → entries_between R Unbounded Unbounded es ≡ es
between_all R [] = refl
between_all R (e ∷ es) = ap (λ t. e ∷ t) (between_all R es)
