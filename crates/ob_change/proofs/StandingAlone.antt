-- One way through two lists that rise finds what stands in the one alone.
use Rattle.std.proofs.Common.{◌≡◌, ◌⊎◌, ◌<◌, ◌≤◌, ◌+◌, ℕ, inl, inr, List, get_or, length, take, Some, sym, ap, subst, ◌∙◌, arith}
use Rattle.std.specs.Prelude.{◌↔◌, [], Contains, slice_get}
use Rattle.std.specs.List.{AllWithin}
use Rattle.std.proofs.lemmas.Bool.{cases_lt}
use Rattle.std.proofs.lemmas.Option.{slice_get-get_or}
use Rattle.ob_base.specs.Rising.{IsRising}
use Rattle.ob_base.specs.declared.id.RecId.{RecId}
use Rattle.ob_change.proofs.Gaining.{gains_all, gains_as, gains_both, taken_before, taken_cases, taken_last}
use Rattle.ob_change.specs.EditedSteps.{Gains, StandsAlone, StandsOnce}
use Rattle.ob_tables.proofs.CallerLemmas.{place-below}

-- ids further on are greater
pub further : (ids : List RecId) → IsRising ids → (i j : ℕ) (d e : RecId) → i < j → j < length ids → (get_or ids i d).0 < (get_or ids j e).0
further ids rising i j d e less within =
    let low : i < length ids = omega (arith, less, within) in
    place-below ids rising i j (get_or ids i d) (get_or ids j e) (slice_get-get_or ids i d low) (slice_get-get_or ids j e within) less

-- an id stands nowhere else than at the first place where none is lower
pub at_place : (ids : List RecId) → IsRising ids → (place : ℕ) (id : RecId) → ((k : ℕ) (d : RecId) → k < place → (get_or ids k d).0 < id.0)
    → (place < length ids → (d : RecId) → id.0 ≤ (get_or ids place d).0) → Contains ids id → slice_get ids place ≡ Some id
at_place ids rising place id lower not_lower (k, within, is) = by (cases_lt k place) (cases_lt place k)
  where
    num : (get_or ids k id).0 ≡ id.0
    num = ap (λ (i : RecId). i.0) is

    by : (k < place) ⊎ (place ≤ k) → (place < k) ⊎ (k ≤ place) → slice_get ids place ≡ Some id
    by (inl before) other = let low = lower k id before in absurd (omega (arith, low, num))
    by (inr from) (inl behind) =
        let inside : place < length ids = omega (arith, within, behind) in
        let high = not_lower inside id in
        let above = further ids rising place k id id behind within in
        absurd (omega (arith, high, above, num))
    by (inr from) (inr to) =
        let same : k ≡ place = omega (arith, from, to) in
        subst (λ (n : ℕ). slice_get ids n ≡ Some id) same (slice_get-get_or ids k id within ∙ ap Some is)

module _ (from others : List RecId) (rising : IsRising from) (i : ℕ) (d : RecId) (within : i < length from) where
  -- what was passed is below the ids that come
  abbrev pub IsPassed : ℕ → ℕ → Type 0
  IsPassed place next = (k j : ℕ) (a b : RecId) → k < place → next ≤ j → j < length from → (get_or others k a).0 < (get_or from j b).0

  -- all before the place of the next one are below it
  pub lower-all : (old place : ℕ) → IsPassed old i → AllWithin (λ other. other.0 < (get_or from i d).0) others old place → (k : ℕ) (a : RecId) → k < place → (get_or others k a).0 < (get_or from i d).0
  lower-all old place passed lower k a less = elim (cases_lt k old) [
    | inl before ↦ passed k i a d before (omega arith) within
    | inr behind ↦ lower k a behind less
  ]

  -- and so below those after it
  pub passed-more : (old place : ℕ) → IsPassed old i → AllWithin (λ other. other.0 < (get_or from i d).0) others old place → IsPassed place (i + 1)
  passed-more old place passed lower k j a b less next low =
      let here = lower-all old place passed lower k a less in
      let above = further from rising i j d b (omega (arith, next)) low in
      omega (arith, here, above)

  -- the next of a list stands in the other one too
  pub alone_passed : (ids old : List RecId) → Contains others (get_or from i d) → Gains (StandsAlone (take i from) others) ids old → Gains (StandsAlone (take (i + 1) from) others) ids old
  alone_passed ids old there = gains_as (StandsAlone (take i from) others) (StandsAlone (take (i + 1) from) others) ids old
      (λ x alone. (taken_before from i d x within alone.0, alone.1))
      (λ x alone. elim (taken_cases from i d x within alone.0) [
        | inl before ↦ (before, alone.1)
        | inr is ↦ absurd (alone.1 (subst (λ (y : RecId). Contains others y) is there))
      ])

  -- or it stands alone
  pub alone_next : (ids old new : List RecId) → (Contains others (get_or from i d) → ⊥) → Gains (StandsAlone (take i from) others) ids old → Gains (λ x. x ≡ get_or from i d) old new
      → Gains (StandsAlone (take (i + 1) from) others) ids new
  alone_next ids old new not first next =
      gains_as (λ x. StandsAlone (take i from) others x ⊎ (x ≡ get_or from i d)) (StandsAlone (take (i + 1) from) others) ids new to back
      (gains_both (StandsAlone (take i from) others) (λ x. x ≡ get_or from i d) ids old new first next)
    where
      to : (x : RecId) → StandsAlone (take i from) others x ⊎ (x ≡ get_or from i d) → StandsAlone (take (i + 1) from) others x
      to x (inl alone) = (taken_before from i d x within alone.0, alone.1)
      to x (inr is) = (
        subst (λ (y : RecId). Contains (take (i + 1) from) y) (sym is) (taken_last from i d within),
        λ among. not (subst (λ (y : RecId). Contains others y) is among),
      )

      back : (x : RecId) → StandsAlone (take (i + 1) from) others x → StandsAlone (take i from) others x ⊎ (x ≡ get_or from i d)
      back x (among, apart) = elim (taken_cases from i d x within among) [ inl before ↦ inl (before, apart) | inr is ↦ inr (sym is) ]

-- what each of two lists has alone is what one of them has alone
pub each-alone : (was is start first second : List RecId) → start ≡ [] → Gains (StandsAlone was is) start first → Gains (StandsAlone is was) first second → (id : RecId) → Contains second id ↔ StandsOnce was is id
each-alone was is start first second empty one other =
    gains_all (λ id. StandsAlone was is id ⊎ StandsAlone is was id) start second empty (gains_both (StandsAlone was is) (StandsAlone is was) start first second one other)
