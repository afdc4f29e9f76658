-- Steps from places among ids, and the parents of rows.
use Rattle.std.proofs.Common.{◌≡◌, ℕ, zero, suc, List, map, Option, Some, None, IsSome, option_and_then, unwrap_or, refl, sym, ap, subst, ◌∙◌}
use Rattle.std.specs.Prelude.{slice_get}
use Rattle.std.specs.Option.{IsSomeAnd}
use Rattle.std.specs.FinMap as finite
use Rattle.std.specs.List.Sorted.{IsStrictlyIncreasing}
use Rattle.std.proofs.lemmas.Option.{none-some, same_Some}
use Rattle.ob_base.specs.declared.id.FieldNo.{FieldNo}
use Rattle.ob_base.specs.declared.id.ModelNo.{ModelNo}
use Rattle.ob_base.specs.declared.id.RecId.{RecId}
use Rattle.ob_base.specs.declared.value.Value.{Value}
use Rattle.ob_base.specs.declared.value.Value.TheVariants as value
use Rattle.ob_schema.specs.Chains.{ReachesOver}
use Rattle.ob_schema.specs.declared.info.ModelInfo.{ModelInfo}
use Rattle.ob_schema.specs.Tables.{PlainRow, Tables, ids_in, kept_at, kept_in, row_at}
use Rattle.ob_schema.specs.Tied.{HasDepth, IsCircled, IsParentIn}
use Rattle.ob_tables.specs.Trees.{AreParents, step_of, steps_in}
use Rattle.ob_tables.proofs.Circles.{Circles}
use Rattle.ob_tables.proofs.Places.{ids-increase, one-place}
use Rattle.ob_tables.proofs.RowIds.{ids-there, there-ids}
use Rattle.ob_tables.proofs.Stepping.{some-of, steps-one}

module _ (models : List ModelInfo) (t : Tables) (model : ModelNo) (parent : FieldNo) (ids : List RecId) (steps : List (Option ℕ)) (all : ids ≡ ids_in t model) (are : AreParents t model parent ids steps) where
  abbrev Up : RecId → RecId → Type 0
  Up id other = IsParentIn models t model parent id other

  abbrev f : ℕ → Option ℕ
  f = step_of steps

  there_of : (p : ℕ) (id : RecId) → slice_get ids p ≡ Some id → IsSome (row_at t model id)
  there_of p id at = ids-there t model p id (ap (λ l. slice_get l p) (sym all) ∙ at)

  is_ref : (o : Option Value) (other : RecId) → unwrap_or o value.Nil ≡ value.Ref other → o ≡ Some (value.Ref other)
  is_ref None other e = cc
  is_ref (Some v) other e = ap Some e

  kept_of : (id other : RecId) → Up id other → (kept_at t (record { model = model; id = id; field = parent }) ≡ Some (value.Ref other)) × IsSome (row_at t model other)
  kept_of id other up = by (row_at t model id) up
    where
      by : (o : Option PlainRow) → IsSomeAnd o (λ row. (kept_in row parent ≡ value.Ref other) × IsSome (row_at t model other))
          → (option_and_then (λ row. finite.get row parent.0) o ≡ Some (value.Ref other)) × IsSome (row_at t model other)
      by None up = absurd up
      by (Some row) up = (is_ref (finite.get row parent.0) other up.0, up.1)

  of_kept : (id other : RecId) → kept_at t (record { model = model; id = id; field = parent }) ≡ Some (value.Ref other) → IsSome (row_at t model other) → Up id other
  of_kept id other kept there = by (row_at t model id) kept
    where
      by : (o : Option PlainRow) → option_and_then (λ row. finite.get row parent.0) o ≡ Some (value.Ref other) → IsSomeAnd o (λ row. (kept_in row parent ≡ value.Ref other) × IsSome (row_at t model other))
      by None kept = absurd (none-some (value.Ref other) kept)
      by (Some row) kept = (ap (λ o. unwrap_or o value.Nil) kept, there)

  -- a step leads to the parent
  pub up-to : (p q : ℕ) (id : RecId) → slice_get ids p ≡ Some id → f p ≡ Some q → (other : RecId) × (slice_get ids q ≡ Some other) × Up id other
  up-to p q id at e = let found = (are.up p id at q).0 e in (found.0, found.1, of_kept id found.0 found.2 (there_of q found.0 found.1))

  -- and to each parent
  pub up-from : (p : ℕ) (id other : RecId) → slice_get ids p ≡ Some id → Up id other → (q : ℕ) × (slice_get ids q ≡ Some other) × (f p ≡ Some q)
  up-from p id other at up =
      let kept = kept_of id other up in
      let place = there-ids t model other kept.1 in
      let q_at = ap (λ l. slice_get l place.0) all ∙ place.1 in
      (place.0, q_at, (are.up p id at place.0).1 (other, q_at, kept.0))

  -- steps in turn lead to rows above
  pub walk-to : (n p q : ℕ) (id : RecId) → slice_get ids p ≡ Some id → steps_in f (suc n) p ≡ Some q → (other : RecId) × (slice_get ids q ≡ Some other) × ReachesOver Up n id other
  walk-to zero p q id at e = up-to p q id at (sym (steps-one f p) ∙ e)
  walk-to (suc n) p q id at e =
      let next = some-of (f p) (steps_in f (suc n)) q e in
      let up = up-to p next.0 id at next.1 in
      let rest = walk-to n next.0 q up.0 up.1 (sym (ap (option_and_then (steps_in f (suc n))) next.1) ∙ e) in
      (rest.0, rest.1, (up.0, up.2, rest.2))

  -- and to each of them
  pub walk-from : (n p : ℕ) (id other : RecId) → slice_get ids p ≡ Some id → ReachesOver Up n id other → (q : ℕ) × (slice_get ids q ≡ Some other) × (steps_in f (suc n) p ≡ Some q)
  walk-from zero p id other at up = let q = up-from p id other at up in (q.0, q.1, steps-one f p ∙ q.2)
  walk-from (suc n) p id other at on =
      let next = up-from p id on.0 at on.1 in
      let rest = walk-from n next.0 on.0 other next.1 on.2 in
      (rest.0, rest.1, ap (option_and_then (steps_in f (suc n))) next.2 ∙ rest.2)

  -- a place on a circle is that of a row on one
  pub circle-to : (p : ℕ) (id : RecId) → slice_get ids p ≡ Some id → Circles f p → IsCircled models t model parent id
  circle-to p id at circle =
      let walk = walk-to circle.0 p p id at circle.1 in
      (circle.0, subst (λ other. ReachesOver Up circle.0 id other) (same_Some walk.0 id (sym walk.1 ∙ at)) walk.2)

  pub circle-from : (p : ℕ) (id : RecId) → slice_get ids p ≡ Some id → IsCircled models t model parent id → Circles f p
  circle-from p id at circled =
      let walk = walk-from circled.0 p id id at circled.1 in
      let rising = subst (λ l. IsStrictlyIncreasing (map (λ i. i.0) l)) (sym all) (ids-increase t model) in
      let same : walk.0 ≡ p = one-place ids rising walk.0 p id walk.1 at in
      (circled.0, walk.2 ∙ ap Some same)

  -- a row at a depth leads up one step less
  pub depth-to : (e p : ℕ) (id : RecId) → slice_get ids p ≡ Some id → HasDepth models t model parent (suc e) id → ((q : ℕ) × (steps_in f e p ≡ Some q)) × (steps_in f (suc e) p ≡ None)
  depth-to zero p id at none = ((p, refl), steps-one f p ∙ by (f p) refl)
    where
      by : (o : Option ℕ) → f p ≡ o → o ≡ None
      by None e = refl
      by (Some q) e = let up = up-to p q id at e in absurd (none up.0 up.2)
  depth-to (suc e) p id at has =
      let next = up-from p id has.0 at has.1 in
      let rest = depth-to e next.0 has.0 next.1 has.2 in
      ((rest.0.0, ap (option_and_then (steps_in f e)) next.2 ∙ rest.0.1), ap (option_and_then (steps_in f (suc e))) next.2 ∙ rest.1)

  -- and one that leads so far up stands there
  pub depth-from : (e p q : ℕ) (id : RecId) → slice_get ids p ≡ Some id → steps_in f e p ≡ Some q → steps_in f (suc e) p ≡ None → HasDepth models t model parent (suc e) id
  depth-from zero p q id at some none = λ other up. let next = up-from p id other at up in none-some next.0 (sym none ∙ steps-one f p ∙ next.2)
  depth-from (suc e) p q id at some none =
      let next = some-of (f p) (steps_in f e) q some in
      let up = up-to p next.0 id at next.1 in
      (up.0, up.2, depth-from e next.0 q up.0 up.1 (sym (ap (option_and_then (steps_in f e)) next.1) ∙ some) (sym (ap (option_and_then (steps_in f (suc e))) next.1) ∙ none))
