-- Fields in byte order of their names: each name once, and each field at the count of the names below its own.
use Rattle.std.proofs.Common.{◌≡◌, ◌≢◌, ℕ, zero, suc, ◌<◌, ◌≤◌, inl, inr, Bool, true, false, cond, ltb, Option, Some, None, option_map, Ordering}
use Rattle.std.proofs.Common.{List, [], ◌∷◌, length, get_or, refl, sym, ap, subst, ◌∙◌, arith}
use Rattle.std.specs.Prelude.{Contains, count_by, IsPermutation, slice_get}
use Rattle.std.specs.List.{AllPairs, position_or_len}
use Rattle.std.specs.Cmp.Lexicographic.{slice_cmp}
use Rattle.std.specs.Ordering.{is_lt, nat_cmp, ordering_reverse}
use Rattle.std.specs.Str.{bytes_eq}
use Rattle.std.specs.declared.cmp.Ordering.TheVariants.{Less, Equal, Greater}
use Rattle.std.proofs.lemmas.Bool.{cases_lt, false≢true}
use Rattle.std.proofs.lemmas.Bool.Decides.{nat_tests}
use Rattle.std.proofs.lemmas.Cmp.{nat_list_cmp_total, tied_itself}
use Rattle.std.proofs.lemmas.List.{get_or_read}
use Rattle.std.proofs.lemmas.List.Folds.{find_at}
use Rattle.std.proofs.lemmas.List.Sorted.{Contains-permutation, IsPermutation-map, IsPermutation-sym, sum_by-IsPermutation}
use Rattle.std.proofs.lemmas.List.Sums.{position_or_len_is}
use Rattle.std.proofs.lemmas.Option.{slice_get-get_or, slice_get_cases}
use Rattle.std.proofs.lemmas.Slice.Eq.{bytes_eq-Decides}
use Rattle.ob_base.specs.declared.id.FieldNo.{FieldNo}
use Rattle.ob_definition.specs.Members.{AreInNameOrder, Member, count_below, named, names_of}
use Rattle.ob_registry.specs.ModelFields.{number_in}
use Rattle.ob_registry.proofs.Counting.{count-cons, count-map, none_if, one_if}

-- ---- counts

-- a test that the first elements pass, and no other, counts them
count_first : {X : Type 0} (p : X → Bool) (xs : List X) (j : ℕ) → j ≤ length xs
    → ((i : ℕ) (d : X) → i < j → p (get_or xs i d) ≡ true) → ((i : ℕ) (d : X) → j ≤ i → i < length xs → p (get_or xs i d) ≡ false) → count_by p xs ≡ j
count_first p [] j low below above = let none : count_by p [] ≡ 0 = refl in omega arith
count_first p (x ∷ xs) zero low below above =
    let c = count-cons p x xs in
    let first = none_if (p x) (above 0 x (omega arith) (omega arith)) in
    let rest = count_first p xs zero (omega arith) (λ i d lt. absurd (omega arith)) (λ i d le lt. above (suc i) d (omega arith) (omega arith)) in
    omega arith
count_first p (x ∷ xs) (suc j) low below above =
    let c = count-cons p x xs in
    let first = one_if (p x) (below 0 x (omega arith)) in
    let rest = count_first p xs j (omega arith) (λ i d lt. below (suc i) d (omega arith)) (λ i d le lt. above (suc i) d (omega arith) (omega arith)) in
    omega arith

-- ---- in order

not_below : (o : Ordering) → is_lt (ordering_reverse o) ≡ true → is_lt o ≡ false
not_below Less e = absurd (false≢true e)
not_below Equal e = refl
not_below Greater e = refl

abbrev below : List ℕ → List ℕ → Bool
below name other = is_lt (slice_cmp nat_cmp other name)

not_itself : (name : List ℕ) → below name name ≡ false
not_itself name = ap is_lt (tied_itself nat_list_cmp_total name)

-- the names are distinct
pub in_order-distinct : (members : List Member) → AreInNameOrder members → AllPairs (λ a b. a.def.name ≢ b.def.name) members
in_order-distinct members ordered = λ i j d lt within same.
    let less : slice_cmp nat_cmp (get_or members i d).def.name (get_or members j d).def.name ≡ Less = ordered i j d lt within in
    let tied : slice_cmp nat_cmp (get_or members i d).def.name (get_or members j d).def.name ≡ Equal =
    ap (λ (n : List ℕ). slice_cmp nat_cmp n (get_or members j d).def.name) same ∙ tied_itself nat_list_cmp_total (get_or members j d).def.name in
    let clash : ◌≡◌ {A = Ordering} Less Equal = sym less ∙ tied in
    cc

-- as many names are below a field's as stand before it
pub rank_in_order : (members : List Member) → AreInNameOrder members → (m : Member) (here : Contains members m) → count_below (names_of members) m.def.name ≡ here.0
rank_in_order members ordered m (j, inside, at) =
    count-map (below m.def.name) (λ (x : Member). x.def.name) members ∙ count_first (λ (x : Member). below m.def.name x.def.name) members j (omega arith) before after
  where
    is : (d : Member) → m ≡ get_or members j d
    is d = get_or_read members j m inside (sym at) d

    before : (i : ℕ) (d : Member) → i < j → below m.def.name (get_or members i d).def.name ≡ true
    before i d lt = ap (λ (x : Member). below x.def.name (get_or members i d).def.name) (is d) ∙ ap is_lt (ordered i j d lt inside)

    after : (i : ℕ) (d : Member) → j ≤ i → i < length members → below m.def.name (get_or members i d).def.name ≡ false
    after i d le within = elim (cases_lt j i) [
      | inl past ↦
          (let other = (get_or members i d).def.name in
          let less : slice_cmp nat_cmp m.def.name other ≡ Less = ap (λ (x : Member). slice_cmp nat_cmp x.def.name other) (is d) ∙ ordered j i d past within in
          not_below (slice_cmp nat_cmp other m.def.name) (ap is_lt (sym (nat_list_cmp_total.antisymm m.def.name other) ∙ less)))
      | inr here ↦
          (let same : i ≡ j = omega arith in
          ap (λ (k : ℕ). below m.def.name (get_or members k d).def.name) same
          ∙ ap (λ (x : Member). below m.def.name x.def.name) (sym (is d))
          ∙ not_itself m.def.name)
    ]

-- ---- the field of a name

-- what is found is there, and has the name
pub named_found : (members : List Member) (name : List ℕ) (m : Member) → named members name ≡ Some m → Contains members m × (m.def.name ≡ name)
named_found [] name m found = absurd (let e : ◌≡◌ {A = Option Member} None (Some m) = found in cc)
named_found (x ∷ members) name m found = by (bytes_eq x.def.name name) refl found (λ rest. named_found members name m rest)
  where
    by : (b : Bool) → bytes_eq x.def.name name ≡ b → cond b (Some x) (named members name) ≡ Some m → (named members name ≡ Some m → Contains members m × (m.def.name ≡ name))
        → Contains (x ∷ members) m × (m.def.name ≡ name)
    by true e f rest =
        let same : x ≡ m = let s : ◌≡◌ {A = Option Member} (Some x) (Some m) = f in cc in
        subst (λ (y : Member). Contains (x ∷ members) y × (y.def.name ≡ name)) same ((0, omega arith, refl), (bytes_eq-Decides x.def.name name).0 e)
    by false e f rest =
        let found = rest f in
        let k = found.0.0 in
        let low : k < length members = found.0.1 in
        ((suc k, omega arith, found.0.2), found.1)

-- where none is found, no field has the name
pub named_absent : (members : List Member) (name : List ℕ) (m : Member) → named members name ≡ None → Contains members m → m.def.name ≡ name → ⊥
named_absent [] name m none (k, low, at) same = absurd (omega arith)
named_absent (x ∷ members) name m none here same = by (bytes_eq x.def.name name) refl none here (λ free there. named_absent members name m free there same)
  where
    by : (b : Bool) → bytes_eq x.def.name name ≡ b → cond b (Some x) (named members name) ≡ None → Contains (x ∷ members) m → (named members name ≡ None → Contains members m → ⊥) → ⊥
    by true e f there rest = absurd (let s : ◌≡◌ {A = Option Member} (Some x) None = f in cc)
    by false e f (zero, low, at) rest =
        let own : bytes_eq x.def.name name ≡ true = (bytes_eq-Decides x.def.name name).1 (ap (λ (y : Member). y.def.name) at ∙ same) in
        false≢true (sym e ∙ own)
    by false e f (suc k, low, at) rest = rest f (k, omega arith, at)

-- a field is found by its name
pub named_there : (members : List Member) → AllPairs (λ a b. a.def.name ≢ b.def.name) members → (m : Member) → Contains members m → named members m.def.name ≡ Some m
named_there members distinct m (j, inside, at) =
    find_at p members ∙ ap (slice_get members) first ∙ slice_get-get_or members j m inside ∙ ap (λ (x : Member). Some x) at
  where
    p : Member → Bool
    p x = bytes_eq x.def.name m.def.name

    test : (b : Bool) (x : Member) → bytes_eq x.def.name m.def.name ≡ b → (x.def.name ≡ m.def.name → ⊥) → b ≡ false
    test true x e apart = absurd (apart ((bytes_eq-Decides x.def.name m.def.name).0 e))
    test false x e apart = refl

    before : (k : ℕ) → k < j → p (get_or members k m) ≡ false
    before k lt = test (p (get_or members k m)) (get_or members k m) refl (λ same. distinct k j m lt inside (same ∙ ap (λ (x : Member). x.def.name) (sym at)))

    first : position_or_len p members ≡ j
    first = position_or_len_is p members j m (omega arith) before (λ low. (bytes_eq-Decides (get_or members j m).def.name m.def.name).1 (ap (λ (x : Member). x.def.name) at))

-- the same fields in another order
module _ (members sorted : List Member) (moved : IsPermutation members sorted) where
  -- as many names are below a name
  pub count_below-permutation : (name : List ℕ) → count_below (names_of members) name ≡ count_below (names_of sorted) name
  count_below-permutation name =
      sym (sum_by-IsPermutation (λ n. cond (below name n) 1 0) (names_of members) (names_of sorted) (IsPermutation-map (λ (m : Member). m.def.name) members sorted moved))

  -- a name has the same field
  pub named-permutation : AllPairs (λ a b. a.def.name ≢ b.def.name) sorted → (name : List ℕ) → named sorted name ≡ named members name
  named-permutation distinct name = by (named members name) refl
    where
      none : (o : Option Member) → named sorted name ≡ o → named members name ≡ None → o ≡ None
      none None e f = refl
      none (Some m) e f =
          let found = named_found sorted name m e in
          absurd (named_absent members name m f (Contains-permutation sorted members m (IsPermutation-sym members sorted moved) found.0) found.1)

      by : (o : Option Member) → named members name ≡ o → named sorted name ≡ o
      by None e = none (named sorted name) refl e
      by (Some m) e =
          let found = named_found members name m e in
          ap (named sorted) (sym found.1) ∙ named_there sorted distinct m (Contains-permutation members sorted m moved found.0)

-- the number of a place
abbrev pub number_at : ℕ → FieldNo
number_at i = record { 0 = suc i }

-- the number of the field of a name is that of the names below
pub number_in_order : (members : List Member) → AreInNameOrder members → (name : List ℕ)
    → number_in members name ≡ option_map (λ m. number_at (count_below (names_of members) m.def.name)) (named members name)
number_in_order members ordered name = elim (slice_get_cases members (position_or_len p members)).1 [
  | inl found ↦
      (let x = found.0 in
      let low : ltb (position_or_len p members) (length members) ≡ true = let within : position_or_len p members < length members = found.1 in grind (arith, nat_tests) in
      ap (λ (b : Bool). option_map number_at (cond b (Some (position_or_len p members)) None)) low
      ∙ ap (λ (i : ℕ). Some (number_at i)) (sym (rank_in_order members ordered x (position_or_len p members, found.1, found.3)))
      ∙ ap (option_map numbered) (sym (find_at p members ∙ found.2)))
  | inr past ↦
      (let high : ltb (position_or_len p members) (length members) ≡ false = let beyond : length members ≤ position_or_len p members = past.0 in grind (arith, nat_tests) in
      ap (λ (b : Bool). option_map number_at (cond b (Some (position_or_len p members)) None)) high
      ∙ ap (option_map numbered) (sym (find_at p members ∙ past.1)))
]
  where
    p : Member → Bool
    p x = bytes_eq x.def.name name

    numbered : Member → FieldNo
    numbered m = number_at (count_below (names_of members) m.def.name)
