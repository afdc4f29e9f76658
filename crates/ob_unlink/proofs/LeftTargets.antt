-- Rising ids of which a test keeps some, one after another.
use Rattle.std.proofs.Common.{◌≡◌, ◌<◌, ◌+◌, ℕ, Bool, true, false, cond, List, [], ◌∷◌, ◌++◌, filter, map, take, get_or, length, append-nil, sym, ap, subst, ◌∙◌, arith}
use Rattle.std.specs.Prelude.{All, Contains}
use Rattle.std.proofs.lemmas.List.{get_or-map, get_or-take, get_or_default, length-map, length-take, take_more}
use Rattle.std.proofs.lemmas.List.Elements.{filter-append}
use Rattle.std.proofs.lemmas.List.Kept.{AllPairs-from_increasing}
use Rattle.ob_base.specs.Rising.{IsRising}
use Rattle.ob_base.specs.declared.id.RecId.{RecId}
use Rattle.ob_rows.proofs.CallerLemmas.{all_among, contains-filter}

module _ (p : RecId → Bool) (ids : List RecId) (i : ℕ) (within : i < length ids) where
  abbrev here : RecId
  here = get_or ids i (record { 0 = 0 })

  -- all that were kept so far stand below the next
  pub below-here : IsRising ids → All (λ before. before.0 < here.0) (filter p (take i ids))
  below-here rising = all_among (λ (before : RecId). before.0 < here.0) (filter p (take i ids)) (λ x c. by x (contains-filter p (take i ids) x c).0)
    where
      none : RecId
      none = record { 0 = 0 }

      named : RecId → ℕ
      named id = id.0

      far : (k : ℕ) → k < i → (get_or ids k none).0 < here.0
      far k less =
          let inside : i < length (map named ids) = omega (arith, length-map ids named, within) in
          let before : k < length ids = omega (arith, less, within) in
          rw (get_or-map named ids k none, get_or-map named ids i none) at (AllPairs-from_increasing (map named ids) rising k i none.0 less inside)

      by : (x : RecId) → Contains (take i ids) x → x.0 < here.0
      by x (k, low, is) =
          let less : k < i = omega (arith, low, length-take i ids) in
          subst (λ (y : RecId). y.0 < here.0) (sym (get_or-take i ids k none less) ∙ same k x low is) (far k less)
        where
          same : (k : ℕ) (x : RecId) → k < length (take i ids) → get_or (take i ids) k x ≡ x → get_or (take i ids) k none ≡ x
          same k x low is = get_or_default (take i ids) k none x low ∙ is

  -- one more is kept, or not
  pub kept-more : p here ≡ true → filter p (take (i + 1) ids) ≡ filter p (take i ids) ++ here ∷ []
  kept-more passes =
      ap (filter p) (take_more ids i (record { 0 = 0 }) within) ∙ filter-append p (take i ids) (here ∷ []) ∙ ap (λ (b : Bool). filter p (take i ids) ++ cond b (here ∷ []) []) passes

  pub passed-over : p here ≡ false → filter p (take (i + 1) ids) ≡ filter p (take i ids)
  passed-over fails =
      ap (filter p) (take_more ids i (record { 0 = 0 }) within) ∙ filter-append p (take i ids) (here ∷ []) ∙ ap (λ (b : Bool). filter p (take i ids) ++ cond b (here ∷ []) []) fails ∙ append-nil (filter p (take i ids))
