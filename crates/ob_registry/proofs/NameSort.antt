-- The fields of a model by name: each name once, and so each above all before it.
use Rattle.std.proofs.Common.{◌≡◌, ◌≢◌, ℕ, ◌<◌, ◌≤◌, false, cond, List, [], ◌∷◌, map, length, get_or, refl, sym, ap, subst, ◌∙◌, Ordering, arith}
use Rattle.std.specs.Prelude.{count_by}
use Rattle.std.specs.List.{AllPairs}
use Rattle.std.specs.List.Sorted.{IsPermutation, IsSortedByKey}
use Rattle.std.specs.Cmp.Lexicographic.{slice_cmp}
use Rattle.std.specs.FinMap.{nat_cmp-IsAntisymmetric, slice_cmp-IsAntisymmetric}
use Rattle.std.specs.Ordering.{is_lt, nat_cmp, ordering_reverse}
use Rattle.std.specs.Str.{bytes_eq}
use Rattle.std.specs.declared.cmp.Ordering.TheVariants.{Less, Equal, Greater}
use Rattle.std.proofs.lemmas.Bool.{false≢true}
use Rattle.std.proofs.lemmas.Cmp.{nat_list_cmp_total}
use Rattle.std.proofs.lemmas.List.{get_or-map, length-map}
use Rattle.std.proofs.lemmas.List.Sorted.{IsPermutation-map, ranks_by, sorted_far, sum_by-IsPermutation}
use Rattle.std.proofs.lemmas.Slice.Eq.{bytes_eq-Decides}
use Rattle.ob_definition.specs.Members.{AreInNameOrder, Member}
use Rattle.ob_registry.specs.declared.model.Member.{Member as KeptMember}
use Rattle.ob_registry.specs.ModelFields.{member_of, members_in}
use Rattle.ob_registry.proofs.Distinct.{apart_once, count_two, has, once_apart, times}
use Rattle.ob_registry.proofs.Counting.{count-map}

not_back : (o : Ordering) → is_lt (ordering_reverse o) ≡ false → (o ≡ Equal → ⊥) → o ≡ Less
not_back Less e other = refl
not_back Equal e other = absurd (other refl)
not_back Greater e other = absurd (false≢true (sym e))

-- sorted, and each name once
in_order : {X : Type 0} (name : X → List ℕ) (xs : List X) → IsSortedByKey name (slice_cmp nat_cmp) xs → ((x : List ℕ) → count_by (λ a. bytes_eq (name a) x) xs ≤ 1) → AllPairs (λ a b. slice_cmp nat_cmp (name a) (name b) ≡ Less) xs
in_order {X} name xs sorted once = λ i j d lt low.
    let a = name (get_or xs i d) in
    let b = name (get_or xs j d) in
    let far : is_lt (slice_cmp nat_cmp b a) ≡ false = sorted_far (λ (x y : X). is_lt (slice_cmp nat_cmp (name x) (name y))) (ranks_by nat_list_cmp_total name) xs sorted i j d (omega arith) low in
    let back : is_lt (ordering_reverse (slice_cmp nat_cmp a b)) ≡ false = sym (ap is_lt (nat_list_cmp_total.antisymm b a)) ∙ far in
    let apart : slice_cmp nat_cmp a b ≡ Equal → ⊥ = λ tie.
    let same : a ≡ b = slice_cmp-IsAntisymmetric nat_cmp-IsAntisymmetric a b tie in
    let two : 2 ≤ count_by (λ c. bytes_eq (name c) b) xs = count_two (λ c. bytes_eq (name c) b) xs i j d lt low ((bytes_eq-Decides a b).1 same) ((bytes_eq-Decides b b).1 refl) in
    let one : count_by (λ c. bytes_eq (name c) b) xs ≤ 1 = once b in
    omega arith in
    not_back (slice_cmp nat_cmp a b) back apart

any_of : {X : Type 0} (xs : List X) (i : ℕ) → i < length xs → X
any_of [] i low = absurd (omega arith)
any_of (x ∷ xs) i low = x

-- pairs of what a list is mapped to
AllPairs-map : {X Y : Type 0} (f : X → Y) (R : Y → Y → Type 0) (xs : List X) → AllPairs (λ a b. R (f a) (f b)) xs → AllPairs R (map f xs)
AllPairs-map {X} {Y} f R xs pairs = λ i j d lt low.
    let size : length (map f xs) ≡ length xs = length-map xs f in
    let within : j < length xs = omega arith in
    let first : i < length xs = omega arith in
    let e = any_of xs j within in
    subst (λ (u : Y). R u (get_or (map f xs) j d)) (sym (get_or-map f xs i e d first)) (subst (λ (u : Y). R (f (get_or xs i e)) u) (sym (get_or-map f xs j e d within)) (pairs i j e lt within))

-- a name is counted as often in another order
pub times-moved : (x : List ℕ) (xs ys : List Member) → IsPermutation xs ys → times x ys ≡ times x xs
times-moved x xs ys moved = sum_by-IsPermutation (λ m. cond (has x m) 1 0) xs ys moved

-- distinct names stay distinct in another order
pub apart-moved : (xs ys : List Member) → IsPermutation xs ys → ((x : List ℕ) → times x xs ≤ 1) → AllPairs (λ a b. a.def.name ≢ b.def.name) ys
apart-moved xs ys moved once = apart_once (λ (m : Member). m.def.name) ys (λ x. let same = times-moved x xs ys moved in let one : times x xs ≤ 1 = once x in omega arith)

-- what a sort by name leaves
pub AreInNameOrder-from_sort : (xs ys : List KeptMember) → AllPairs (λ a b. a.def.name ≢ b.def.name) (members_in xs) → IsPermutation xs ys
    → IsSortedByKey (λ (m : KeptMember). m.def.now.name) (slice_cmp nat_cmp) ys → AreInNameOrder (members_in ys)
AreInNameOrder-from_sort xs ys distinct moved sorted =
    let name = λ (m : KeptMember). m.def.now.name in
    let once = λ (x : List ℕ).
    (let same : times x (members_in ys) ≡ times x (members_in xs) = times-moved x (members_in xs) (members_in ys) (IsPermutation-map member_of xs ys moved) in
    let one : times x (members_in xs) ≤ 1 = once_apart (λ (m : Member). m.def.name) x (members_in xs) distinct in
    let kept : times x (members_in ys) ≡ count_by (λ a. bytes_eq (name a) x) ys = count-map (has x) member_of ys in
    let few : count_by (λ a. bytes_eq (name a) x) ys ≤ 1 = omega arith in few) in
    AllPairs-map member_of (λ a b. slice_cmp nat_cmp a.def.name b.def.name ≡ Less) ys (in_order name ys sorted once)
