-- The place of the first quant that passes a test, and an index of such places by spot.
use Rattle.std.proofs.Common.{◌≡◌, ℕ, zero, suc, ◌<◌, ◌+◌, List, [], ◌∷◌, ◌++◌, length, get_or, set, Option, Some, None, Bool, true, false, cond, refl, sym, ◌∙◌, ap, arith}
use Rattle.std.specs.List.{find}
use Rattle.std.specs.Prelude.{is_some}
use Rattle.std.specs.Option.{option_map, option_or}
use Rattle.std.specs.Cmp.{IsTotalOrder, IsEquivalence}
use Rattle.std.specs.Cmp.Lexicographic.{options_total}
use Rattle.std.specs.Ordering.{eq_by_cmp}
use Rattle.std.specs.BTreeMap as tree
use Rattle.std.proofs.lemmas.Cmp.{then_total, on_total, nat_cmp_total, eq_by_cmp_equiv}
use Rattle.std.proofs.lemmas.Option.{same_Some}
use Rattle.ob_base.specs.declared.id.RecId.{RecId}
use Rattle.wh_quant.specs.declared.quant.Quant.{Quant}
use Rattle.wh_quant.specs.declared.spot.Spot.{Spot}
use Rattle.wh_quant.specs.Spots.{spot_of, spot_cmp, is_at}
use Rattle.wh_quant.specs.Moves.{Holdings, quants_with, with_quant}
use Rattle.wh_quant.specs.Indexed.{first_place, AreFirstPlaces}

-- ---- one test

module _ (p : Quant → Bool) where
  -- what the place of the first that passes says
  abbrev pub AtPlace : List Quant → ℕ → Type 0
  AtPlace qs i = (i < length qs) × ((d : Quant) → (p (get_or qs i d) ≡ true) × (find p qs ≡ Some (get_or qs i d)))

  at_cons : (q : Quant) (qs : List Quant) (i : ℕ) (b : Bool) (o : Option ℕ) → p q ≡ b → first_place p qs ≡ o → ((j : ℕ) → first_place p qs ≡ Some j → AtPlace qs j) →
      cond b (Some 0) (option_map (λ n. suc n) o) ≡ Some i → AtPlace (q ∷ qs) i
  at_cons q qs i true o is at rest h =
      let here : i ≡ zero = sym (same_Some zero i h) in
      rw here (omega arith, λ d. (is, rw is refl))
  at_cons q qs i false None is at rest h = absurd (cc h)
  at_cons q qs i false (Some j) is at rest h =
      let later : i ≡ suc j = sym (same_Some (suc j) i h) in
      let found = rest j at in
      rw later (omega (arith, found.0), λ d. ((found.1 d).0, rw is (found.1 d).1))

  pub at_first : (qs : List Quant) (i : ℕ) → first_place p qs ≡ Some i → AtPlace qs i
  at_first [] i h = absurd (cc h)
  at_first (q ∷ qs) i h = at_cons q qs i (p q) (first_place p qs) refl refl (λ j e. at_first qs j e) h

  none_cons : (q : Quant) (qs : List Quant) (b : Bool) (o : Option ℕ) → p q ≡ b → first_place p qs ≡ o → (first_place p qs ≡ None → find p qs ≡ None) →
      cond b (Some 0) (option_map (λ n. suc n) o) ≡ None → find p (q ∷ qs) ≡ None
  none_cons q qs true o is at rest h = absurd (cc h)
  none_cons q qs false None is at rest h = rw is (rest at)
  none_cons q qs false (Some j) is at rest h = absurd (cc h)

  pub none_first : (qs : List Quant) → first_place p qs ≡ None → find p qs ≡ None
  none_first [] h = refl
  none_first (q ∷ qs) h = none_cons q qs (p q) (first_place p qs) refl refl (none_first qs) h

  push_cons : (b : Bool) (o x : Option ℕ) → cond b (Some 0) (option_map (λ n. suc n) (option_or o x)) ≡ option_or (cond b (Some 0) (option_map (λ n. suc n) o)) (option_map (λ n. suc n) x)
  push_cons true o x = refl
  push_cons false None x = refl
  push_cons false (Some j) x = refl

  later_place : (b : Bool) (n : ℕ) → option_map (λ n. suc n) (cond b (Some n) None) ≡ cond b (Some (suc n)) None
  later_place true n = refl
  later_place false n = refl

  -- one more at the end
  pub first_place-push : (qs : List Quant) (q : Quant) → first_place p (qs ++ q ∷ []) ≡ option_or (first_place p qs) (cond (p q) (Some (length qs)) None)
  first_place-push [] q = refl
  first_place-push (x ∷ qs) q = rw (first_place-push qs q, ← later_place (p q) (length qs)) (push_cons (p x) (first_place p qs) (cond (p q) (Some (length qs)) None))

  -- another in place of one, alike by the test
  pub first_place-set : (qs : List Quant) (i : ℕ) (q d : Quant) → p q ≡ p (get_or qs i d) → i < length qs → first_place p (set qs i q) ≡ first_place p qs
  first_place-set [] i q d alike within = absurd (omega arith)
  first_place-set (x ∷ qs) zero q d alike within = ap (λ b. cond b (Some 0) (option_map (λ n. suc n) (first_place p qs))) alike
  first_place-set (x ∷ qs) (suc i) q d alike within = ap (λ o. cond (p x) (Some 0) (option_map (λ n. suc n) o)) (first_place-set qs i q d alike (omega arith))

-- tests that agree have one first place
pub first_place-same : (p r : Quant → Bool) → ((q : Quant) → p q ≡ r q) → (qs : List Quant) → first_place p qs ≡ first_place r qs
first_place-same p r alike [] = refl
first_place-same p r alike (q ∷ qs) = rw (alike q, first_place-same p r alike qs) refl

-- ---- a quant that is put in

first_cons : (new q : Quant) (qs : List Quant) (i : ℕ) (b : Bool) (o : Option ℕ) → is_at (spot_of new) q ≡ b → first_place (is_at (spot_of new)) qs ≡ o →
    ((j : ℕ) → first_place (is_at (spot_of new)) qs ≡ Some j → quants_with new qs ≡ set qs j new) → cond b (Some 0) (option_map (λ n. suc n) o) ≡ Some i →
    quants_with new (q ∷ qs) ≡ set (q ∷ qs) i new
first_cons new q qs i true o is at rest h = rw (sym (same_Some 0 i h), is) refl
first_cons new q qs i false None is at rest h = absurd (cc h)
first_cons new q qs i false (Some j) is at rest h = rw (sym (same_Some (suc j) i h), is) (ap (λ t. q ∷ t) (rest j at))

-- it takes the place of the first of its spot
pub quants_with_first : (new : Quant) (qs : List Quant) (i : ℕ) → first_place (is_at (spot_of new)) qs ≡ Some i → quants_with new qs ≡ set qs i new
quants_with_first new [] i h = absurd (cc h)
quants_with_first new (q ∷ qs) i h = first_cons new q qs i (is_at (spot_of new) q) (first_place (is_at (spot_of new)) qs) refl refl (quants_with_first new qs) h

last_cons : (new q : Quant) (qs : List Quant) (b : Bool) (o : Option ℕ) → is_at (spot_of new) q ≡ b → first_place (is_at (spot_of new)) qs ≡ o →
    (first_place (is_at (spot_of new)) qs ≡ None → quants_with new qs ≡ qs ++ new ∷ []) → cond b (Some 0) (option_map (λ n. suc n) o) ≡ None → quants_with new (q ∷ qs) ≡ (q ∷ qs) ++ new ∷ []
last_cons new q qs true o is at rest h = absurd (cc h)
last_cons new q qs false None is at rest h = rw is (ap (λ t. q ∷ t) (rest at))
last_cons new q qs false (Some j) is at rest h = absurd (cc h)

-- or the end, where its spot has none
pub quants_with_last : (new : Quant) (qs : List Quant) → first_place (is_at (spot_of new)) qs ≡ None → quants_with new qs ≡ qs ++ new ∷ []
quants_with_last new [] h = refl
quants_with_last new (q ∷ qs) h = last_cons new q qs (is_at (spot_of new) q) (first_place (is_at (spot_of new)) qs) refl refl (quants_with_last new qs) h

-- ---- an index by spot

pub spot_cmp_total : IsTotalOrder spot_cmp
spot_cmp_total =
    then_total (on_total (λ (s : Spot). s.product.0) nat_cmp_total)
    (then_total (on_total (λ (s : Spot). s.place.0) nat_cmp_total)
    (on_total (λ (s : Spot). s.lot) (options_total (on_total (λ (id : RecId). id.0) nat_cmp_total))))

pub spots_alike : IsEquivalence (eq_by_cmp spot_cmp)
spots_alike = eq_by_cmp_equiv spot_cmp_total

-- what one spot finds another that is the same finds
alike_at : (a b : Spot) → eq_by_cmp spot_cmp a b ≡ true → (q : Quant) → is_at a q ≡ is_at b q
alike_at a b e q = spots_alike.congr a b (spot_of q) e

-- a quant that takes the place of the first of its spot
pub indexed_set : (places : tree.BTreeMap Spot ℕ) (qs : List Quant) (q : Quant) (i : ℕ) → AreFirstPlaces places qs → tree.get spot_cmp places (spot_of q) ≡ Some i → AreFirstPlaces places (set qs i q)
indexed_set places qs q i index h = λ spot.
    let at = at_first (is_at (spot_of q)) qs i (sym (index (spot_of q)) ∙ h) in
    let old = get_or qs i q in
    let alike : is_at spot q ≡ is_at spot (get_or qs i q) = spots_alike.symm spot (spot_of q) ∙ spots_alike.congr (spot_of q) (spot_of old) spot (at.1 q).0 ∙ spots_alike.symm (spot_of old) spot in
    index spot ∙ sym (first_place-set (is_at spot) qs i q q alike at.0)

or_none : (o : Option ℕ) → option_or o None ≡ o
or_none None = refl
or_none (Some i) = refl

-- a quant of a spot that has one already, at the end
pub indexed_skip : (places : tree.BTreeMap Spot ℕ) (qs : List Quant) (q : Quant) (i : ℕ) → AreFirstPlaces places qs → tree.get spot_cmp places (spot_of q) ≡ Some i →
    AreFirstPlaces places (qs ++ q ∷ [])
indexed_skip places qs q i index h = λ spot.
    let had : first_place (is_at (spot_of q)) qs ≡ Some i = sym (index (spot_of q)) ∙ h in
    let go : (b : Bool) → is_at spot q ≡ b → first_place (is_at spot) qs ≡ option_or (first_place (is_at spot) qs) (cond b (Some (length qs)) None) =
    λ b. elim b as (λ v. is_at spot q ≡ v → first_place (is_at spot) qs ≡ option_or (first_place (is_at spot) qs) (cond v (Some (length qs)) None)) [
      | true ↦ λ e. let same : first_place (is_at spot) qs ≡ Some i = first_place-same (is_at spot) (is_at (spot_of q)) (alike_at spot (spot_of q) e) qs ∙ had in rw same refl
      | false ↦ λ e. sym (or_none (first_place (is_at spot) qs))
    ] in
    index spot ∙ go (is_at spot q) refl ∙ sym (first_place-push (is_at spot) qs q)

-- a quant of a new spot, at the end
pub indexed_push : (places more : tree.BTreeMap Spot ℕ) (qs : List Quant) (q : Quant) → AreFirstPlaces places qs → tree.get spot_cmp places (spot_of q) ≡ None →
    ((spot : Spot) → tree.get spot_cmp more spot ≡ cond (eq_by_cmp spot_cmp (spot_of q) spot) (Some (length qs)) (tree.get spot_cmp places spot)) →
    AreFirstPlaces more (qs ++ q ∷ [])
indexed_push places more qs q index h updates = λ spot.
    let had : first_place (is_at (spot_of q)) qs ≡ None = sym (index (spot_of q)) ∙ h in
    let go : (b : Bool) → is_at spot q ≡ b → cond b (Some (length qs)) (first_place (is_at spot) qs) ≡ option_or (first_place (is_at spot) qs) (cond b (Some (length qs)) None) =
    λ b. elim b as (λ v. is_at spot q ≡ v → cond v (Some (length qs)) (first_place (is_at spot) qs) ≡ option_or (first_place (is_at spot) qs) (cond v (Some (length qs)) None)) [
      | true ↦ λ e. let none : first_place (is_at spot) qs ≡ None = first_place-same (is_at spot) (is_at (spot_of q)) (alike_at spot (spot_of q) e) qs ∙ had in rw none refl
      | false ↦ λ e. sym (or_none (first_place (is_at spot) qs))
    ] in
    updates spot ∙ ap (λ b. cond b (Some (length qs)) (tree.get spot_cmp places spot)) (spots_alike.symm (spot_of q) spot)
    ∙ ap (cond (is_at spot q) (Some (length qs))) (index spot) ∙ go (is_at spot q) refl ∙ sym (first_place-push (is_at spot) qs q)

none_from_test : (o : Option ℕ) → is_some o ≡ false → o ≡ None
none_from_test None h = refl
none_from_test (Some i) h = cc

some_from_test : (o : Option ℕ) → is_some o ≡ true → (i : ℕ) × (o ≡ Some i)
some_from_test None h = absurd (cc h)
some_from_test (Some i) h = (i, refl)

-- the same two steps, by what a test told and a call did
pub indexed_skip_tested : (places : tree.BTreeMap Spot ℕ) (qs : List Quant) (q : Quant) (s : Spot) (b : Bool) → AreFirstPlaces places qs → s ≡ spot_of q →
    b ≡ is_some (tree.get spot_cmp places s) → b ≡ true → AreFirstPlaces places (qs ++ q ∷ [])
indexed_skip_tested places qs q s b index at is h =
    let found = some_from_test (tree.get spot_cmp places s) (sym is ∙ h) in
    indexed_skip places qs q found.0 index (ap (tree.get spot_cmp places) (sym at) ∙ found.1)

pub indexed_push_tested : (places more : tree.BTreeMap Spot ℕ) (qs : List Quant) (q : Quant) (s t : Spot) (n : ℕ) (b : Bool) → AreFirstPlaces places qs → s ≡ spot_of q →
    t ≡ spot_of q → n ≡ length qs → b ≡ is_some (tree.get spot_cmp places s) → b ≡ false →
    ((spot : Spot) → tree.get spot_cmp more spot ≡ cond (eq_by_cmp spot_cmp t spot) (Some n) (tree.get spot_cmp places spot)) → AreFirstPlaces more (qs ++ q ∷ [])
indexed_push_tested places more qs q s t n b index at key end is h updates =
    indexed_push places more qs q index
    (ap (tree.get spot_cmp places) (sym at) ∙ none_from_test (tree.get spot_cmp places s) (sym is ∙ h))
    (λ spot. updates spot ∙ rw (key, end) refl)

-- ---- holdings with a quant put in

pub put_first : (stock : Holdings) (q : Quant) (i : ℕ) → first_place (is_at (spot_of q)) stock.quants ≡ Some i →
    ◌≡◌ {A = Holdings} (record { quants = set stock.quants i q; next = stock.next }) (with_quant q stock)
put_first stock q i h =
    let found = ((at_first (is_at (spot_of q)) stock.quants i h).1 q).1 in
    rw (quants_with_first q stock.quants i h, found) refl

pub put_last : (stock : Holdings) (q : Quant) → first_place (is_at (spot_of q)) stock.quants ≡ None →
    ◌≡◌ {A = Holdings} (record { quants = stock.quants ++ q ∷ []; next = stock.next + 1 }) (with_quant q stock)
put_last stock q h = rw (quants_with_last q stock.quants h, none_first (is_at (spot_of q)) stock.quants h) refl
