-- Steps in turn, and lists of them.
use Rattle.std.proofs.Common.{◌≡◌, ◌<◌, ◌≤◌, ◌+◌, ◌*◌, ◌⊎◌, ℕ, zero, suc, true, false, List, [], ◌∷◌, ◌++◌, map, length, take, get_or, Option, Some, None, IsSome, option_and_then, option_map}
use Rattle.std.proofs.Common.{refl, sym, ap, subst, ◌∙◌, inl, inr, ⊎_elim, arith}
use Rattle.std.specs.Prelude.{slice_get}
use Rattle.std.specs.Option.{IfSome}
use Rattle.std.proofs.Math.Nat.{mul-suc, mul-zero}
use Rattle.std.proofs.lemmas.Bool.{cases_lt}
use Rattle.std.proofs.lemmas.List.{map-append, take_more}
use Rattle.std.proofs.lemmas.Option.{none-some, slice_get-get_or, slice_get-map, slice_get_past, slice_get_within}
use Rattle.ob_base.specs.declared.id.FieldNo.{FieldNo}
use Rattle.ob_base.specs.declared.id.ModelNo.{ModelNo}
use Rattle.ob_base.specs.declared.id.RecId.{RecId}
use Rattle.ob_schema.specs.Tables.{Tables}
use Rattle.ob_tables.specs.Trees.{AreParents, AreSteps, IsLeastPlace, LeadsInside, step_of, steps_in}

module _ (f : ℕ → Option ℕ) where
  -- steps after steps
  pub steps-add : (m n p : ℕ) → steps_in f (m + n) p ≡ option_and_then (steps_in f n) (steps_in f m p)
  steps-add zero n p = ap (λ k. steps_in f k p) zero_first
    where
      zero_first : 0 + n ≡ n
      zero_first = omega arith
  steps-add (suc m) n p = ap (λ k. steps_in f k p) (suc_first m n) ∙ by (f p) (λ q. steps-add m n q)
    where
      suc_first : (m n : ℕ) → suc m + n ≡ suc (m + n)
      suc_first m n = omega arith

      by : (o : Option ℕ) → ((q : ℕ) → steps_in f (m + n) q ≡ option_and_then (steps_in f n) (steps_in f m q)) → option_and_then (steps_in f (m + n)) o ≡ option_and_then (steps_in f n) (option_and_then (steps_in f m) o)
      by None again = refl
      by (Some q) again = again q

  -- one step
  pub steps-one : (p : ℕ) → steps_in f 1 p ≡ f p
  steps-one p = by (f p)
    where
      by : (o : Option ℕ) → option_and_then (steps_in f 0) o ≡ o
      by None = refl
      by (Some q) = refl

  -- two steps
  pub steps-two : (p : ℕ) → steps_in f 2 p ≡ option_and_then f (f p)
  steps-two p = by (f p)
    where
      by : (o : Option ℕ) → option_and_then (steps_in f 1) o ≡ option_and_then f o
      by None = refl
      by (Some q) = steps-one q

-- steps that led on began by one that did
pub some-of : (o : Option ℕ) (g : ℕ → Option ℕ) (q : ℕ) → option_and_then g o ≡ Some q → (r : ℕ) × (o ≡ Some r)
some-of None g q e = absurd (none-some q e)
some-of (Some r) g q e = (r, refl)

and_then_same : (f g : ℕ → Option ℕ) → ((p : ℕ) → f p ≡ g p) → (o : Option ℕ) → option_and_then f o ≡ option_and_then g o
and_then_same f g same None = refl
and_then_same f g same (Some p) = same p

-- so many steps, twice
pub steps-doubled : (one many double : List (Option ℕ)) (n : ℕ) → AreSteps one n many → AreSteps many 2 double → AreSteps one (n + n) double
steps-doubled one many double n a b = record {
  long = b.long ∙ a.long;
  inside = b.inside;
  steps = λ p. b.steps p ∙ steps-two (step_of many) p ∙ and_then_same (step_of many) (steps_in (step_of one) n) a.steps (step_of many p) ∙ ap (option_and_then (steps_in (step_of one) n)) (a.steps p)
      ∙ sym (steps-add (step_of one) n n p);
}

pub steps-once : (one : List (Option ℕ)) → LeadsInside one → AreSteps one 1 one
steps-once one inside = record { long = refl; inside = inside; steps = λ p. sym (steps-one (step_of one) p) }

-- so many steps, so often
pub steps-times : (one many all : List (Option ℕ)) (m n : ℕ) → AreSteps one m many → AreSteps many n all → AreSteps one (m * n) all
steps-times one many all m n a b = record {
  long = b.long ∙ a.long;
  inside = b.inside;
  steps = λ p. b.steps p ∙ often n p;
}
  where
    first : (n : ℕ) → m + m * n ≡ m * suc n
    first n = sym (mul-suc m n ∙ swap (m * n) m)
      where
        swap : (a b : ℕ) → a + b ≡ b + a
        swap a b = omega arith

    often : (n p : ℕ) → steps_in (step_of many) n p ≡ steps_in (step_of one) (m * n) p
    often zero p = ap (λ k. steps_in (step_of one) k p) (sym (mul-zero m))
    often (suc n) p =
        and_then_same (steps_in (step_of many) n) (steps_in (step_of one) (m * n)) (often n) (step_of many p) ∙ ap (option_and_then (steps_in (step_of one) (m * n))) (a.steps p)
        ∙ sym (steps-add (step_of one) m (m * n) p) ∙ ap (λ k. steps_in (step_of one) k p) (first n)

flat : Option (Option ℕ) → Option ℕ
flat = option_and_then (λ step. step)

module _ (steps : List (Option ℕ)) (inside : LeadsInside steps) where
  twice : Option ℕ → Option ℕ
  twice = option_and_then (step_of steps)

  flat_map : (o : Option (Option ℕ)) → option_and_then (λ step. step) (option_map (λ step. option_and_then (step_of steps) step) o) ≡ option_and_then (step_of steps) (option_and_then (λ step. step) o)
  flat_map None = refl
  flat_map (Some step) = refl

  -- steps that are each taken twice
  pub squared-steps : (squared : List (Option ℕ)) → squared ≡ map (λ step. option_and_then (step_of steps) step) steps → AreSteps steps 2 squared
  squared-steps squared is =
      let same : (p : ℕ) → step_of squared p ≡ steps_in (step_of steps) 2 p =
      λ p. ap (λ l. step_of l p) is ∙ ap (option_and_then (λ step. step)) (slice_get-map (λ step. option_and_then (step_of steps) step) steps p) ∙ flat_map (slice_get steps p) ∙ sym (steps-two (step_of steps) p) in
      let long : length squared ≡ length steps = ap length is ∙ map_long steps in
      record {
        long = long;
        inside = λ p. subst (λ n. IfSome (step_of squared p) (λ next. next < n)) (sym long) (subst (λ o. IfSome o (λ next. next < length steps)) (sym (same p ∙ steps-two (step_of steps) p)) (again (step_of steps p)));
        steps = same;
      }
    where
      map_long : (xs : List (Option ℕ)) → length (map (λ step. option_and_then (step_of steps) step) xs) ≡ length xs
      map_long [] = refl
      map_long (x ∷ xs) = ap suc (map_long xs)

      again : (o : Option ℕ) → IfSome (option_and_then (step_of steps) o) (λ next. next < length steps)
      again None = tt
      again (Some p) = inside p

-- steps of which none leads on are their own doubles
pub idle-steps : (steps : List (Option ℕ)) → ((p : ℕ) → step_of steps p ≡ None) → AreSteps steps 2 steps
idle-steps steps none = record {
  long = refl;
  inside = λ p. subst (λ o. IfSome o (λ next. next < length steps)) (sym (none p)) tt;
  steps = λ p. none p ∙ sym (steps-two (step_of steps) p ∙ ap (option_and_then (step_of steps)) (none p));
}

-- the step at a place within
pub step-at : (steps : List (Option ℕ)) (k : ℕ) (step : Option ℕ) → slice_get steps k ≡ Some step → step_of steps k ≡ step
step-at steps k step is = ap (option_and_then (λ step. step)) is

push_old : (xs : List (Option ℕ)) (v : Option ℕ) (k : ℕ) → k < length xs → slice_get (xs ++ v ∷ []) k ≡ slice_get xs k
push_old [] v k low = absurd (omega arith)
push_old (x ∷ xs) v zero low = refl
push_old (x ∷ xs) v (suc k) low = push_old xs v k (omega arith)

push_new : (xs : List (Option ℕ)) (v : Option ℕ) → slice_get (xs ++ v ∷ []) (length xs) ≡ Some v
push_new [] v = refl
push_new (x ∷ xs) v = push_new xs v

-- one step more at the end
pub pushed-step : (xs new : List (Option ℕ)) (v : Option ℕ) (P : ℕ → Option ℕ → Type 0) → new ≡ xs ++ v ∷ [] → ((k : ℕ) → k < length xs → P k (step_of xs k)) → P (length xs) v
    → (k : ℕ) → k < length xs + 1 → P k (step_of new k)
pushed-step xs new v P is old here k low = ⊎_elim
    (λ less. subst (P k) (sym (ap (λ l. step_of l k) is ∙ ap (option_and_then (λ step. step)) (push_old xs v k less))) (old k less))
    (λ above. let e : length xs ≡ k = omega arith in subst (λ n. P n (step_of new n)) e (subst (P (length xs)) (sym (ap (λ l. step_of l (length xs)) is ∙ ap (option_and_then (λ step. step)) (push_new xs v))) here))
    (cases_lt k (length xs))

-- the least place by one more
pub least-more : (steps : List (Option ℕ)) (i : ℕ) (step : Option ℕ) (old new : Option ℕ) → slice_get steps i ≡ Some step
    → IsLeastPlace (λ place. (from : ℕ) × (from < i) × (step_of steps from ≡ Some place)) old → IsLeastPlace (λ place. (old ≡ Some place) ⊎ (step ≡ Some place)) new
    → IsLeastPlace (λ place. (from : ℕ) × (from < i + 1) × (step_of steps from ≡ Some place)) new
least-more steps i step old new is before both = by new both
  where
    last : (n : ℕ) → n < i + 1 → (n < i) ⊎ (n ≡ i)
    last n low = ⊎_elim (λ less. inl less) (λ above. inr (omega arith)) (cases_lt n i)

    to : (o : Option ℕ) → IsLeastPlace (λ place. (from : ℕ) × (from < i) × (step_of steps from ≡ Some place)) o → (place : ℕ) → (o ≡ Some place) ⊎ (step ≡ Some place)
        → (from : ℕ) × (from < i + 1) × (step_of steps from ≡ Some place)
    to None h place which = ⊎_elim (λ e. absurd (none-some place e)) (λ e. (i, omega arith, step-at steps i step is ∙ e)) which
    to (Some p) h place which = ⊎_elim (λ e. let at = h.0 in let low = at.1 in (at.0, omega arith, at.2 ∙ e)) (λ e. (i, omega arith, step-at steps i step is ∙ e)) which

    reach : (o : Option ℕ) → IsLeastPlace (λ place. (from : ℕ) × (from < i) × (step_of steps from ≡ Some place)) o → (place from : ℕ) → from < i → step_of steps from ≡ Some place
        → (p : ℕ) × (o ≡ Some p) × (p ≤ place)
    reach None h place from low e = absurd (h place (from, low, e))
    reach (Some p) h place from low e = (p, refl, h.1 place (from, low, e))

    below : (least : ℕ) → ((place : ℕ) → (old ≡ Some place) ⊎ (step ≡ Some place) → least ≤ place) → (place from : ℕ) → from < i + 1 → step_of steps from ≡ Some place → least ≤ place
    below least h place from low e = ⊎_elim
        (λ less. let r = reach old before place from less e in let a = h r.0 (inl r.1) in let b = r.2 in omega arith)
        (λ same. h place (inr (sym (step-at steps i step is) ∙ ap (step_of steps) (sym same) ∙ e)))
        (last from low)

    by : (o : Option ℕ) → IsLeastPlace (λ place. (old ≡ Some place) ⊎ (step ≡ Some place)) o → IsLeastPlace (λ place. (from : ℕ) × (from < i + 1) × (step_of steps from ≡ Some place)) o
    by None h = λ place at. ⊎_elim
        (λ less. let r = reach old before place at.0 less at.2 in h r.0 (inl r.1))
        (λ same. h place (inr (sym (step-at steps i step is) ∙ ap (step_of steps) (sym same) ∙ at.2)))
        (last at.0 at.1)
    by (Some least) h = (to old before least h.0, λ place at. below least h.1 place at.0 at.1 at.2)

-- and of all
pub least-all : (steps : List (Option ℕ)) (i : ℕ) (o : Option ℕ) → length steps ≤ i → IsLeastPlace (λ place. (from : ℕ) × (from < i) × (step_of steps from ≡ Some place)) o
    → IsLeastPlace (λ place. (from : ℕ) × (step_of steps from ≡ Some place)) o
least-all steps i None all h = λ place at. h place (at.0, within steps i at.0 place all at.1, at.1)
  where
    within : (steps : List (Option ℕ)) (i from place : ℕ) → length steps ≤ i → step_of steps from ≡ Some place → from < i
    within steps i from place all e = ⊎_elim (λ less. less) (λ above. absurd (none-some place (sym (ap (option_and_then (λ step. step)) (slice_get_past steps from (omega arith))) ∙ e))) (cases_lt from i)
least-all steps i (Some least) all h = (let at = h.0 in (at.0, at.2), λ place at. h.1 place (at.0, within steps i at.0 place all at.1, at.1))
  where
    within : (steps : List (Option ℕ)) (i from place : ℕ) → length steps ≤ i → step_of steps from ≡ Some place → from < i
    within steps i from place all e = ⊎_elim (λ less. less) (λ above. absurd (none-some place (sym (ap (option_and_then (λ step. step)) (slice_get_past steps from (omega arith))) ∙ e))) (cases_lt from i)

-- the step at a place, as an item of the list
pub step-get : (steps : List (Option ℕ)) (k : ℕ) → step_of steps k ≡ get_or steps k None
step-get [] k = refl
step-get (x ∷ steps) zero = refl
step-get (x ∷ steps) (suc k) = step-get steps k

-- one step more is taken twice
pub squared-more : (steps squared new : List (Option ℕ)) (i : ℕ) (next : Option ℕ) → i < length steps → new ≡ squared ++ next ∷ [] → squared ≡ map (λ step. option_and_then (step_of steps) step) (take i steps)
    → next ≡ option_and_then (step_of steps) (get_or steps i None) → new ≡ map (λ step. option_and_then (step_of steps) step) (take (i + 1) steps)
squared-more steps squared new i next low is before one =
    is ∙ ap (λ l. l ++ next ∷ []) before ∙ ap (λ n. map (λ step. option_and_then (step_of steps) step) (take i steps) ++ n ∷ []) one
    ∙ sym (map-append (λ step. option_and_then (step_of steps) step) (take i steps) (get_or steps i None ∷ [])) ∙ ap (map (λ step. option_and_then (step_of steps) step)) (sym (take_more steps i None low))

-- a step leads on from a place within alone
pub step-within : (steps : List (Option ℕ)) (place next : ℕ) → step_of steps place ≡ Some next → place < length steps
step-within steps place next e = ⊎_elim (λ less. less) (λ above. absurd (none-some next (sym (ap (option_and_then (λ step. step)) (slice_get_past steps place above)) ∙ e))) (cases_lt place (length steps))

pub some-within : (steps : List (Option ℕ)) (place : ℕ) → IsSome (step_of steps place) → place < length steps
some-within steps place h = by (step_of steps place) refl h
  where
    by : (o : Option ℕ) → step_of steps place ≡ o → IsSome o → place < length steps
    by None e some = let wrong : false ≡ true = some in cc
    by (Some next) e some = step-within steps place next e

-- steps to parents lead to rows that are there
pub parents-inside : (t : Tables) (model : ModelNo) (field : FieldNo) (ids : List RecId) (steps : List (Option ℕ)) → AreParents t model field ids steps → LeadsInside steps
parents-inside t model field ids steps a place = by (step_of steps place) refl
  where
    by : (o : Option ℕ) → step_of steps place ≡ o → IfSome o (λ next. next < length steps)
    by None e = tt
    by (Some next) e =
        let low = step-within steps place next e in
        let long = a.long in
        let here : slice_get ids place ≡ Some (get_or ids place (record { 0 = 0 })) = slice_get-get_or ids place (record { 0 = 0 }) (omega arith) in
        let found = (a.up place (get_or ids place (record { 0 = 0 })) here next).0 e in
        let inside = slice_get_within ids next found.0 found.1 in
        omega arith
