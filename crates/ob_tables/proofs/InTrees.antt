-- What the places tell to which so many steps lead, and those that lead on for too long: the row of the least id on a circle, and that of the least id too deep.
use Rattle.std.proofs.Common.{◌≡◌, ◌<◌, ◌≤◌, ◌+◌, ◌-◌, ◌⊎◌, ℕ, zero, suc, List, [], ◌∷◌, length, map, get_or, Option, Some, None, is_some, IsSome, false, true, refl, sym, ap, subst, ◌∙◌, inl, inr, ⊎_elim, arith, add-zero}
use Rattle.std.specs.Prelude.{slice_get}
use Rattle.std.specs.Option.{IfSome, IsSomeAnd}
use Rattle.std.specs.List.Sorted.{IsStrictlyIncreasing}
use Rattle.std.proofs.lemmas.Bool.{cases_lt}
use Rattle.std.proofs.lemmas.Option.{none-some, same_Some, slice_get-get_or, slice_get_within}
use Rattle.ob_base.specs.Limits.{max_tree_depth}
use Rattle.ob_base.specs.declared.id.Cell.{Cell}
use Rattle.ob_base.specs.declared.id.FieldNo.{FieldNo}
use Rattle.ob_base.specs.declared.id.ModelNo.{ModelNo}
use Rattle.ob_base.specs.declared.id.RecId.{RecId}
use Rattle.ob_base.specs.declared.refusal.Broken.{Broken}
use Rattle.ob_base.specs.declared.refusal.BrokenKind.{BrokenKind}
use Rattle.ob_base.specs.declared.refusal.BrokenKind.TheVariants as kind
use Rattle.ob_schema.specs.Broken.{BreaksAs}
use Rattle.ob_schema.specs.Models.{model_at}
use Rattle.ob_schema.specs.Tables.{Tables, ids_in, row_at}
use Rattle.ob_schema.specs.Tied.{IsCircled, IsLeastOf, IsTooDeep}
use Rattle.ob_schema.specs.declared.info.ModelInfo.{ModelInfo}
use Rattle.ob_tables.specs.Finding.{BreaksIn, Finds, IsOf, is_of_trees}
use Rattle.ob_tables.specs.Trees.{AreParents, AreSteps, IsAt, IsLeastPlace, step_of, steps_in}
use Rattle.ob_tables.specs.declared.findings.Findings.{Findings}
use Rattle.ob_tables.proofs.Circles.{Circles, circles-reached, comes-twice, ends-all, long-circles, steps-from}
use Rattle.ob_tables.proofs.Finds.{finds-as, finds-then}
use Rattle.ob_tables.proofs.NamedBack.{Stands}
use Rattle.ob_tables.proofs.Places.{ids-increase, place-below}
use Rattle.ob_tables.proofs.RowIds.{ids-there, there-ids}
use Rattle.ob_tables.proofs.Stepping.{some-of, some-within, step-within, steps-add}
use Rattle.ob_tables.proofs.TreeLaws.{circle-from, circle-to, depth-from, depth-to}

contrary : {P : Type 0} → false ≡ true → P
contrary e = cc

-- the places below a number
abbrev places_below : ℕ → List ℕ
places_below zero = []
places_below (suc n) = n ∷ places_below n

place-stands : (n p : ℕ) → p < n → Stands p (places_below n)
place-stands zero p below = absurd (omega arith)
place-stands (suc n) p below = elim (cases_lt p n) [
  | inl less ↦ inr (place-stands n p less)
  | inr high ↦ inl (omega arith)
]

places-long : (n : ℕ) → length (places_below n) ≡ n
places-long zero = refl
places-long (suc n) = ap suc (places-long n)

module _ (steps : List (Option ℕ)) where
  abbrev Walks : ℕ → ℕ → ℕ → Type 0
  Walks k p q = steps_in (step_of steps) k p ≡ Some q

  abbrev Ends : ℕ → ℕ → Type 0
  Ends k p = steps_in (step_of steps) k p ≡ None

  along : (m n p q : ℕ) → m ≡ n → Walks m p q → Walks n p q
  along m n p q e walks = subst (λ k. Walks k p q) e walks

  -- a walk of more steps leads on after fewer
  led-before : (m n p q : ℕ) → m ≤ n → Walks n p q → (r : ℕ) × Walks m p r
  led-before m n p q low walks =
      let rest : n ≡ m + (n - m) = omega arith in
      some-of (steps_in (step_of steps) m p) (steps_in (step_of steps) (n - m)) q (sym (steps-add (step_of steps) m (n - m) p) ∙ along n (m + (n - m)) p q rest walks)

  -- each place on the way is there
  way-within : (k p q i x : ℕ) → q < length steps → Walks k p q → i ≤ k → Walks i p x → x < length steps
  way-within k p q i x inside walks low at = ⊎_elim
      (λ less.
      let rest : k ≡ i + suc (k - suc i) = omega arith in
      let on : Walks (suc (k - suc i)) x q = sym (steps-from (step_of steps) i (suc (k - suc i)) p x at) ∙ along k (i + suc (k - suc i)) p q rest walks in
      let next = some-of (step_of steps x) (steps_in (step_of steps) (k - suc i)) q on in
      step-within steps x next.0 next.1)
      (λ above.
      let same : k ≡ i = omega arith in
      subst (λ n. n < length steps) (same_Some q x (sym (along k i p q same walks) ∙ at)) inside)
      (cases_lt i k)

  -- a walk as long as there are places ends on a circle
  long-on-circle : (k p q : ℕ) → length steps ≤ k → q < length steps → Walks k p q → Circles (step_of steps) q
  long-on-circle k p q few inside walks =
      long-circles (step_of steps) k p q walks
      (comes-twice (step_of steps) k (places_below (length steps)) p q (subst (λ n. n ≤ k) (sym (places-long (length steps))) few) walks (λ i x low at. place-stands (length steps) x (way-within k p q i x inside walks low at)))

  -- where a walk leads on, and ends later, there is a last step
  abbrev LastStep : ℕ → ℕ → Type 0
  LastStep e p = (d : ℕ) × (e ≤ d) × ((r : ℕ) × Walks d p r) × Ends (suc d) p

  last-step : (k e p q : ℕ) → Walks e p q → Ends (e + k) p → LastStep e p
  last-step zero e p q some none = absurd (none-some q (sym none ∙ along e (e + zero) p q (sym (add-zero e)) some))
  last-step (suc k) e p q some none = by (steps_in (step_of steps) (suc e) p) refl (λ r on. last-step k (suc e) p r on (ap (λ n. steps_in (step_of steps) n p) (shift e k) ∙ none))
    where
      shift : (e k : ℕ) → suc e + k ≡ e + suc k
      shift e k = omega arith

      by : (o : Option ℕ) → steps_in (step_of steps) (suc e) p ≡ o → ((r : ℕ) → Walks (suc e) p r → LastStep (suc e) p) → LastStep e p
      by None end again = (e, omega arith, (q, some), end)
      by (Some r) on again = let rest = again r on in let low = rest.1 in (rest.0, omega arith, rest.2, rest.3)

-- the least place with a property is that of the least row with another, where places have the one as their rows have the other
module _ (t : Tables) (model : ModelNo) (ids : List RecId) (all : ids ≡ ids_in t model) (Q : ℕ → Type 0) (R : RecId → Type 0) (to : (p : ℕ) (id : RecId) → slice_get ids p ≡ Some id → Q p → R id)
    (back : (p : ℕ) (id : RecId) → slice_get ids p ≡ Some id → R id → Q p) where
  rising : IsStrictlyIncreasing (map (λ i. i.0) ids)
  rising = subst (λ l. IsStrictlyIncreasing (map (λ i. i.0) l)) (sym all) (ids-increase t model)

  place_of : (id : RecId) → IsSome (row_at t model id) → (p : ℕ) × (slice_get ids p ≡ Some id)
  place_of id there = let place = there-ids t model id there in (place.0, ap (λ l. slice_get l place.0) all ∙ place.1)

  abbrev IsFirst : RecId → Type 0
  IsFirst id = (other : RecId) → IsSome (row_at t model other) → R other → id.0 ≤ other.0

  not_above : (at p : ℕ) (id other : RecId) → slice_get ids at ≡ Some id → slice_get ids p ≡ Some other → at ≤ p → id.0 ≤ other.0
  not_above at p id other here there low = ⊎_elim
      (λ less. let below = place-below ids rising at p id other here there less in omega arith)
      (λ above.
      let same : p ≡ at = omega arith in
      let is : other ≡ id = same_Some other id (sym there ∙ ap (slice_get ids) same ∙ here) in
      let number : other.0 ≡ id.0 = ap (λ i. i.0) is in
      omega arith)
      (cases_lt at p)

  least-to : (at : ℕ) (id : RecId) → slice_get ids at ≡ Some id → IsLeastPlace Q (Some at) → IsSome (row_at t model id) × R id × IsFirst id
  least-to at id here least = (
    ids-there t model at id (ap (λ l. slice_get l at) (sym all) ∙ here),
    to at id here least.0,
    λ other there holds. let place = place_of other there in not_above at place.0 id other here place.1 (least.1 place.0 (back place.0 other place.1 holds)),
  )

  least-from : (o : Option ℕ) (id : RecId) → IsLeastPlace Q o → ((p : ℕ) → Q p → p < length ids) → IsSome (row_at t model id) → R id → IsFirst id → (at : ℕ) × (o ≡ Some at) × (slice_get ids at ≡ Some id)
  least-from None id least low there holds first = let place = place_of id there in absurd (least place.0 (back place.0 id place.1 holds))
  least-from (Some at) id least low there holds first =
      let place = place_of id there in
      let up = least.1 place.0 (back place.0 id place.1 holds) in
      let here = slice_get-get_or ids at id (low at least.0) in
      let x = get_or ids at id in
      let from = first x (ids-there t model at x (ap (λ l. slice_get l at) (sym all) ∙ here)) (to at x here least.0) in
      let same : at ≡ place.0 = ⊎_elim
      (λ less. let below = place-below ids rising at place.0 x id here place.1 less in absurd (omega arith))
      (λ above. omega arith)
      (cases_lt at place.0) in
      (at, refl, ap (slice_get ids) same ∙ place.1)

module _ (models : List ModelInfo) (t : Tables) (model : ModelNo) (parent : FieldNo) (ids : List RecId) (steps : List (Option ℕ)) (all : ids ≡ ids_in t model) (are : AreParents t model parent ids steps) where
  low_of : (p : ℕ) (id : RecId) → slice_get ids p ≡ Some id → p < length steps
  low_of p id at = let low = slice_get_within ids p id at in let long = are.long in omega arith

  module _ (far : List (Option ℕ)) (n : ℕ) (many : AreSteps steps n far) (few : length ids ≤ n) where
    abbrev IsLedTo : ℕ → Type 0
    IsLedTo p = (from : ℕ) × (step_of far from ≡ Some p)

    few_steps : length steps ≤ n
    few_steps = let long = are.long in omega arith

    circled-to : (p : ℕ) (id : RecId) → slice_get ids p ≡ Some id → IsLedTo p → IsCircled models t model parent id
    circled-to p id at led = circle-to models t model parent ids steps all are p id at (long-on-circle steps n led.0 p few_steps (low_of p id at) (sym (many.steps led.0) ∙ led.1))

    circled-from : (p : ℕ) (id : RecId) → slice_get ids p ≡ Some id → IsCircled models t model parent id → IsLedTo p
    circled-from p id at circled =
        let reached = circles-reached (step_of steps) n p (circle-from models t model parent ids steps all are p id at circled) in
        (reached.0, many.steps reached.0 ∙ reached.1)

    led-within : (p : ℕ) → IsLedTo p → p < length ids
    led-within p led =
        let inside : p < length far = subst (λ o. IfSome o (λ next. next < length far)) led.1 (many.inside led.0) in
        let long = many.long in
        let are_long = are.long in
        omega arith

    -- a walk that ends is at its end before so many steps
    far-ends : (d p : ℕ) → Ends steps d p → step_of far p ≡ None
    far-ends d p none = by (step_of far p) refl
      where
        by : (o : Option ℕ) → step_of far p ≡ o → o ≡ None
        by None e = refl
        by (Some q) e =
            let walks = sym (many.steps p) ∙ e in
            let inside = led-within q (p, e) in
            let long = are.long in
            absurd (ends-all (step_of steps) n d p q none walks (long-on-circle steps n p q few_steps (omega arith) walks))

    module _ (deep : List (Option ℕ)) (d : ℕ) (some : AreSteps steps d deep) (is : d ≡ max_tree_depth) (less : d ≤ n) where
      abbrev Leaves : ℕ → Type 0
      Leaves p = IsSome (step_of deep p) × (step_of far p ≡ None)

      deep-to : (p : ℕ) (id : RecId) → slice_get ids p ≡ Some id → Leaves p → IsTooDeep models t model parent id
      deep-to p id at leaves = by (step_of deep p) refl leaves.0
        where
          by : (o : Option ℕ) → step_of deep p ≡ o → IsSome o → IsTooDeep models t model parent id
          by None e there = contrary there
          by (Some q) e there =
              let rest : d + (n - d) ≡ n = omega arith in
              let last = last-step steps (n - d) d p q (sym (some.steps p) ∙ e) (ap (λ k. steps_in (step_of steps) k p) rest ∙ sym (many.steps p) ∙ leaves.1) in
              let low = last.1 in
              (suc last.0, depth-from models t model parent ids steps all are last.0 p last.2.0 id at last.2.1 last.3, omega arith)

      deep-from : (p : ℕ) (id : RecId) → slice_get ids p ≡ Some id → IsTooDeep models t model parent id → Leaves p
      deep-from p id at (zero, has, low) = absurd has
      deep-from p id at (suc e, has, low) =
          let walk = depth-to models t model parent ids steps all are e p id at has in
          let before = led-before steps d e p walk.0.0 (omega arith) walk.0.1 in
          (ap is_some (some.steps p ∙ before.1), far-ends (suc e) p walk.1)

      leaves-within : (p : ℕ) → Leaves p → p < length ids
      leaves-within p leaves =
          let inside = some-within deep p leaves.0 in
          let long = some.long in
          let are_long = are.long in
          omega arith

      -- what is found at the places of both is what rows of the model break by their tree
      module _ (tree : IsSomeAnd (model_at models model) (λ info. info.parent ≡ Some parent)) (circled too_deep : Option ℕ) (led : IsLeastPlace IsLedTo circled) (leaving : IsLeastPlace Leaves too_deep) where
        abbrev Breaks : Broken → Type 0
        Breaks = BreaksIn models t is_of_trees (IsOf model)

        circle-breaks : (b : Broken) → IsAt kind.Tree model parent ids circled b → Breaks b
        circle-breaks b h =
            let least = least-to t model ids all IsLedTo (IsCircled models t model parent) circled-to circled-from h.at h.id h.id_is (subst (IsLeastPlace IsLedTo) h.place_is led) in
            subst Breaks (sym h.is) (refl, refl, (tree, least.0, least.1, least.2))

        deep-breaks : (b : Broken) → IsAt kind.Depth model parent ids too_deep b → Breaks b
        deep-breaks b h =
            let least = least-to t model ids all Leaves (IsTooDeep models t model parent) deep-to deep-from h.at h.id h.id_is (subst (IsLeastPlace Leaves) h.place_is leaving) in
            subst Breaks (sym h.is) (refl, refl, (tree, least.0, least.1, least.2))

        one_parent : (o : Option ModelInfo) (f g : FieldNo) → IsSomeAnd o (λ info. info.parent ≡ Some f) → IsSomeAnd o (λ info. info.parent ≡ Some g) → f ≡ g
        one_parent None f g a b = absurd a
        one_parent (Some info) f g a b = same_Some f g (sym a ∙ b)

        -- a least cell of the model is at the parent field
        abbrev At : FieldNo → ModelNo → RecId → Cell
        At field m id = record { model = m; id = id; field = field }

        at_parent : (P : ModelNo → FieldNo → RecId → Type 0) (m : ModelNo) (field : FieldNo) (id : RecId) → m ≡ model → IsLeastOf models t P (At field m id) → (field ≡ parent) × IsLeastOf models t P (At parent model id)
        at_parent P m field id same least =
            let here : IsLeastOf models t P (At field model id) = subst (λ x. IsLeastOf models t P (At field x id)) same least in
            let is = one_parent (model_at models model) field parent here.0 tree in
            (is, subst (λ x. IsLeastOf models t P (At x model id)) is here)

        found : (k : BrokenKind) (o : Option ℕ) (cell : Cell) → cell.model ≡ model → cell.field ≡ parent → (at : ℕ) × (o ≡ Some at) × (slice_get ids at ≡ Some cell.id)
            → IsAt k model parent ids o (record { kind = k; cell = cell })
        found k o cell m f place = record {
          at = place.0;
          id = cell.id;
          place_is = place.1;
          id_is = place.2;
          is = λ i. record { kind = k; cell = record { model = m i; id = cell.id; field = f i } };
        }

        abbrev Circle : Broken → Type 0
        Circle = IsAt kind.Tree model parent ids circled

        abbrev Deep : Broken → Type 0
        Deep = IsAt kind.Depth model parent ids too_deep

        breaks-at : (k : BrokenKind) (cell : Cell) → is_of_trees k ≡ true → cell.model ≡ model → BreaksAs models t k cell → Circle (record { kind = k; cell = cell }) ⊎ Deep (record { kind = k; cell = cell })
        breaks-at kind.Tree cell such m h =
            let least = at_parent (IsCircled models t) cell.model cell.field cell.id m h in
            inl (found kind.Tree circled cell m least.0 (least-from t model ids all IsLedTo (IsCircled models t model parent) circled-to circled-from circled cell.id led led-within least.1.1 least.1.2 least.1.3))
        breaks-at kind.Depth cell such m h =
            let least = at_parent (IsTooDeep models t) cell.model cell.field cell.id m h in
            inr (found kind.Depth too_deep cell m least.0 (least-from t model ids all Leaves (IsTooDeep models t model parent) deep-to deep-from too_deep cell.id leaving leaves-within least.1.1 least.1.2 least.1.3))
        breaks-at _ cell such m h = contrary such

        pub found-in-tree : (old mid new : Findings) → Finds Circle old mid → Finds Deep mid new → Finds Breaks old new
        found-in-tree old mid new first then =
            finds-as (λ b. Circle b ⊎ Deep b) Breaks old new (λ b h. ⊎_elim (λ c. circle-breaks b c) (λ d. deep-breaks b d) h) (λ b h. breaks-at b.kind b.cell h.0 h.1 h.2) (finds-then Circle Deep old mid new first then)
