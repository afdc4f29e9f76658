-- The entries of the map that slots in order show are the slots that are not vacant.
use Rattle.std.proofs.Common.{◌≡◌, Bool, true, false, cond, T, List, [], ◌∷◌, map, filter, Option, Some, None, IfSome, refl, sym, ap, subst, ◌∙◌}
use Rattle.std.specs.Option.{option_flatten}
use Rattle.std.specs.declared.cmp.Ordering.{Ordering}
use Rattle.std.specs.declared.cmp.Ordering.TheVariants.{Less}
use Rattle.std.specs.Ordering.{eq_by_cmp, is_eq}
use Rattle.std.specs.Cmp.{IsTotalOrder, eq_by_cmp_equiv, tied_itself}
use Rattle.std.specs.List.{AllByRecursion, filter_map}
use Rattle.std.specs.List.Sorted.{IsStrictlySortedBy}
use Rattle.std.specs.Map.{lookup, keys_of}
use Rattle.std.specs.BTreeMap.{is_at}
use Rattle.std.proofs.lemmas.Map.{lookup-none}
use Rattle.std.proofs.lemmas.Map.Keys.{sorted_tail, IsDistinct-from_sorted}
use Rattle.std.proofs.lemmas.Map.Entries.{none_past_head}
use Rattle.std.proofs.lemmas.Map.Lookups.{CmpEqualImpliesEq}
use Rattle.std.specs.FinMap as finite
use Rattle.ob_io.specs.Slots.{shown}
use Rattle.ob_io.proofs.Shown.{get-shown}
use Rattle.ob_io.proofs.SortedEntries.{is_sorted-from_keys}

module _ {K X : Type 0} where
  abbrev put_front : K → Option X → List (K × X) → List (K × X)
  put_front k None es = es
  put_front k (Some x) es = (k, x) ∷ es

  -- the slots that are not vacant
  abbrev pub occupied : List (K × Option X) → List (K × X)
  occupied [] = []
  occupied (e ∷ es) = put_front e.0 e.1 (occupied es)

  abbrev contents : List (K × Option X) → List X
  contents es = filter_map (λ e. e.1) es

  one-filtered : (p : K → Bool) (b : Bool) (k : K) (s : Option X) (es : List (K × Option X)) (fs : List (K × X)) → p k ≡ b → contents es ≡ map (λ e. e.1) (filter (λ e. p e.0) fs)
      → contents (cond b ((k, s) ∷ es) es) ≡ map (λ e. e.1) (filter (λ e. p e.0) (put_front k s fs))
  one-filtered p true k None es fs is h = h
  one-filtered p true k (Some x) es fs is h = ap (λ xs. x ∷ xs) h ∙ sym (ap (λ b. map (λ e. e.1) (cond b ((k, x) ∷ filter (λ e. p e.0) fs) (filter (λ e. p e.0) fs))) is)
  one-filtered p false k None es fs is h = h
  one-filtered p false k (Some x) es fs is h = h ∙ sym (ap (λ b. map (λ e. e.1) (cond b ((k, x) ∷ filter (λ e. p e.0) fs) (filter (λ e. p e.0) fs))) is)

  -- what slots chosen by their keys hold
  pub contents-filter : (p : K → Bool) (es : List (K × Option X)) → contents (filter (λ e. p e.0) es) ≡ map (λ e. e.1) (filter (λ e. p e.0) (occupied es))
  contents-filter p [] = refl
  contents-filter p (e ∷ es) = one-filtered p (p e.0) e.0 e.1 (filter (λ f. p f.0) es) (occupied es) refl (contents-filter p es)

  all-put_front : (P : K → Type 0) (k : K) (s : Option X) (es : List (K × X)) → P k → AllByRecursion P (keys_of es) → AllByRecursion P (keys_of (put_front k s es))
  all-put_front P k None es here h = h
  all-put_front P k (Some x) es here h = (here, h)

  all-occupied : (P : K → Type 0) (es : List (K × Option X)) → AllByRecursion P (keys_of es) → AllByRecursion P (keys_of (occupied es))
  all-occupied P [] h = tt
  all-occupied P (e ∷ es) h = all-put_front P e.0 e.1 (occupied es) h.0 (all-occupied P es h.1)

  module _ {R : K → K → Ordering} (o : IsTotalOrder R) where
    sorted-put_front : (k : K) (s : Option X) (es : List (K × X)) → AllByRecursion (λ y. R k y ≡ Less) (keys_of es) → IsStrictlySortedBy R (keys_of es) → IsStrictlySortedBy R (keys_of (put_front k s es))
    unfolding IsStrictlySortedBy
    sorted-put_front k None es first h = h
    sorted-put_front k (Some x) es first h = (first, h)

    sorted-occupied : (es : List (K × Option X)) → IsStrictlySortedBy R (keys_of es) → IsStrictlySortedBy R (keys_of (occupied es))
    unfolding IsStrictlySortedBy
    sorted-occupied [] h = tt
    sorted-occupied (e ∷ es) h = sorted-put_front e.0 e.1 (occupied es) (all-occupied (λ y. R e.0 y ≡ Less) es h.0) (sorted-occupied es h.1)

    one-found : (b : Bool) (k : K) (s : Option X) (q : K) (es : List (K × X)) (l : Option (Option X)) → eq_by_cmp R q k ≡ b → (b ≡ true → l ≡ None) → finite.find R q es ≡ option_flatten l
        → finite.find R q (put_front k s es) ≡ option_flatten (cond b (Some s) l)
    one-found true k None q es l is none h = h ∙ ap option_flatten (none refl)
    one-found true k (Some x) q es l is none h = ap (λ b. cond b (Some x) (finite.find R q es)) is
    one-found false k None q es l is none h = h
    one-found false k (Some x) q es l is none h = ap (λ b. cond b (Some x) (finite.find R q es)) is ∙ h

    find-occupied : (q : K) (es : List (K × Option X)) → IsStrictlySortedBy R (keys_of es) → finite.find R q (occupied es) ≡ option_flatten (lookup (is_at (R q)) es)
    find-occupied q [] h = refl
    find-occupied q (e ∷ es) h = one-found (eq_by_cmp R q e.0) e.0 e.1 q (occupied es) (lookup (is_at (R q)) es) refl
        (λ tie. lookup-none (is_at (R q)) es (none_past_head (eq_by_cmp_equiv o) q e es (IsDistinct-from_sorted R (keys_of (e ∷ es)) h) tie))
        (find-occupied q es (sorted_tail R e.0 (keys_of es) h))

    pub entries-shown : CmpEqualImpliesEq R → (es : List (K × Option X)) → IsStrictlySortedBy R (keys_of es) → finite.entries (shown {R = R} es) ≡ occupied es
    entries-shown exact es h =
        let rises : T (finite.is_sorted R (occupied es)) = is_sorted-from_keys R (occupied es) (sorted-occupied es h) in
        let same : shown {R = R} es ≡ finite.from_sorted (occupied es) = finite.same_map o exact _ _ (λ q.
        get-shown o es q ∙ sym (find-occupied q es h) ∙ sym (finite.get-from_sorted R (occupied es) q rises)) in
        ap finite.entries same ∙ finite.entries-from_sorted R (occupied es) rises

  module _ {R : K → K → Ordering} (o : IsTotalOrder R) (P : K → X → Type 0) where
    none-later : (b : Bool) (x : X) (l : Option X) (q : K) → (b ≡ true → l ≡ None) → IfSome (cond b (Some x) l) (P q) → IfSome l (P q)
    none-later true x l q none h = subst (λ w. IfSome w (P q)) (sym (none refl)) tt
    none-later false x l q none h = h

    -- what holds of each key and what is found there holds of each entry
    pub all-entries : (es : List (K × X)) → IsStrictlySortedBy R (keys_of es) → ((q : K) → IfSome (lookup (is_at (R q)) es) (P q)) → AllByRecursion (λ e. P e.0 e.1) es
    all-entries [] h found = tt
    all-entries (e ∷ es) h found = (
      subst (λ b. IfSome (cond b (Some e.1) (lookup (is_at (R e.0)) es)) (P e.0)) (ap is_eq (tied_itself o e.0)) (found e.0),
      all-entries es (sorted_tail R e.0 (keys_of es) h) (λ q. none-later (eq_by_cmp R q e.0) e.1 (lookup (is_at (R q)) es) q
          (λ tie. lookup-none (is_at (R q)) es (none_past_head (eq_by_cmp_equiv o) q e es (IsDistinct-from_sorted R (keys_of (e ∷ es)) h) tie)) (found q)),
    )
