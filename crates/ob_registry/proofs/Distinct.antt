-- Each name is that of one field of a model: an automatic one, a declared one, the path, a link, or one that a parent delegates.
use Rattle.std.proofs.Common.{◌≡◌, ◌≢◌, ℕ, zero, suc, ◌+◌, ◌<◌, ◌≤◌, ◌||◌, ◌&&◌, Bool, true, false, cond, not, is_some, Some, List, [], ◌∷◌, ◌++◌, map, length, get_or, refl, sym, ap, ◌∙◌, arith}
use Rattle.std.specs.Prelude.{codes, count_by}
use Rattle.std.specs.List.{AllPairs, filter, list_any}
use Rattle.std.specs.Str.{bytes_eq}
use Rattle.std.proofs.lemmas.Bool.{and_parts, false_from_ne_true, false≢true, not-true, or_parts, or_right}
use Rattle.std.proofs.lemmas.List.Sums.{sum_by-append}
use Rattle.std.proofs.lemmas.Slice.Eq.{bytes_eq-Decides}
use Rattle.ob_definition.specs.Definitions.{is_automatic, is_one_of}
use Rattle.ob_definition.specs.Members.{Member, automatic_defs, named, names_of, own_member}
use Rattle.ob_registry.proofs.Counting.{count-cons, none_if, one_if}

-- ---- counts

-- what no element passes counts none
pub count_none : {X : Type 0} (p : X → Bool) (xs : List X) → ((k : ℕ) (d : X) → k < length xs → p (get_or xs k d) ≡ false) → count_by p xs ≡ 0
count_none p [] none = refl
count_none p (x ∷ xs) none =
    let c = count-cons p x xs in
    let h = none_if (p x) (none 0 x (omega arith)) in
    let r = count_none p xs (λ k d lt. none (suc k) d (omega arith)) in
    omega arith

count_head : {X : Type 0} (p : X → Bool) (x : X) (xs : List X) (b : Bool) → p x ≡ b → (b ≡ true → count_by p xs ≡ 0) → count_by p xs ≤ 1 → count_by p (x ∷ xs) ≤ 1
count_head p x xs true e alone few =
    let c = count-cons p x xs in
    let h = one_if (p x) e in
    let r = alone refl in
    omega arith
count_head p x xs false e alone few =
    let c = count-cons p x xs in
    let h = none_if (p x) e in
    omega arith

-- what no two elements pass counts at most one
count_apart : {X : Type 0} (p : X → Bool) (xs : List X) → ((i j : ℕ) (d : X) → i < j → j < length xs → p (get_or xs i d) ≡ true → p (get_or xs j d) ≡ true → ⊥) → count_by p xs ≤ 1
count_apart p [] apart = let none : count_by p [] ≡ 0 = refl in omega arith
count_apart p (x ∷ xs) apart =
    count_head p x xs (p x) refl (λ e. count_none p xs (λ k d lt. false_from_ne_true (p (get_or xs k d)) (λ f. apart 0 (suc k) d (omega arith) (omega arith) e f)))
    (count_apart p xs (λ i j d a b. apart (suc i) (suc j) d (omega arith) (omega arith)))

-- an element that passes is counted
count_one : {X : Type 0} (p : X → Bool) (xs : List X) (j : ℕ) (d : X) → j < length xs → p (get_or xs j d) ≡ true → 1 ≤ count_by p xs
count_one p [] j d low e = absurd (omega arith)
count_one p (x ∷ xs) zero d low e = let c = count-cons p x xs in let h = one_if (p x) e in omega arith
count_one p (x ∷ xs) (suc j) d low e = let c = count-cons p x xs in let h = count_one p xs j d (omega arith) e in omega arith

-- two are counted as two
pub count_two : {X : Type 0} (p : X → Bool) (xs : List X) (i j : ℕ) (d : X) → i < j → j < length xs → p (get_or xs i d) ≡ true → p (get_or xs j d) ≡ true → 2 ≤ count_by p xs
count_two p [] i j d lt low e f = absurd (omega arith)
count_two p (x ∷ xs) i zero d lt low e f = absurd (omega arith)
count_two p (x ∷ xs) zero (suc j) d lt low e f = let c = count-cons p x xs in let h = one_if (p x) e in let g = count_one p xs j d (omega arith) f in omega arith
count_two p (x ∷ xs) (suc i) (suc j) d lt low e f = let c = count-cons p x xs in let h = count_two p xs i j d (omega arith) (omega arith) e f in omega arith

-- distinct names are counted once each, and what is counted once is distinct
pub once_apart : {X : Type 0} (name : X → List ℕ) (x : List ℕ) (xs : List X) → AllPairs (λ a b. name a ≢ name b) xs → count_by (λ a. bytes_eq (name a) x) xs ≤ 1
once_apart name x xs apart = count_apart (λ a. bytes_eq (name a) x) xs (λ i j d lt low e f. apart i j d lt low ((bytes_eq-Decides (name (get_or xs i d)) x).0 e ∙ sym ((bytes_eq-Decides (name (get_or xs j d)) x).0 f)))

pub apart_once : {X : Type 0} (name : X → List ℕ) (xs : List X) → ((x : List ℕ) → count_by (λ a. bytes_eq (name a) x) xs ≤ 1) → AllPairs (λ a b. name a ≢ name b) xs
apart_once name xs once = λ i j d lt low same.
    let x = name (get_or xs j d) in
    let two : 2 ≤ count_by (λ a. bytes_eq (name a) x) xs = count_two (λ a. bytes_eq (name a) x) xs i j d lt low ((bytes_eq-Decides (name (get_or xs i d)) x).1 same) ((bytes_eq-Decides x x).1 refl) in
    let one : count_by (λ a. bytes_eq (name a) x) xs ≤ 1 = once x in
    omega arith

-- what a filter takes away isn't counted
filter_step : {X : Type 0} (p : X → Bool) (x : X) (xs fs : List X) (b : Bool) → count_by p fs ≤ count_by p xs → count_by p (cond b (x ∷ fs) fs) ≤ count_by p (x ∷ xs)
filter_step p x xs fs true rest = let a = count-cons p x xs in let b = count-cons p x fs in omega arith
filter_step p x xs fs false rest = let a = count-cons p x xs in omega arith

pub count-filter : {X : Type 0} (p t : X → Bool) (xs : List X) → count_by p (filter t xs) ≤ count_by p xs
count-filter p t [] = let none : count_by p [] ≡ 0 = refl in omega arith
count-filter p t (x ∷ xs) = filter_step p x xs (filter t xs) (t x) (count-filter p t xs)

filter_none_step : {X : Type 0} (p : X → Bool) (x : X) (fs : List X) (b : Bool) → (b ≡ true → p x ≡ false) → count_by p fs ≡ 0 → count_by p (cond b (x ∷ fs) fs) ≡ 0
filter_none_step p x fs true other rest = let a = count-cons p x fs in let n = none_if (p x) (other refl) in omega arith
filter_none_step p x fs false other rest = rest

pub count-filter_none : {X : Type 0} (p t : X → Bool) (xs : List X) → ((x : X) → p x ≡ true → t x ≡ false) → count_by p (filter t xs) ≡ 0
count-filter_none p t [] fails = refl
count-filter_none p t (x ∷ xs) fails =
    filter_none_step p x (filter t xs) (t x) (λ e. false_from_ne_true (p x) (λ f. false≢true (sym (fails x f) ∙ e))) (count-filter_none p t xs fails)

pub any_none : {X : Type 0} (p : X → Bool) (xs : List X) → list_any p xs ≡ false → count_by p xs ≡ 0
any_none p [] e = refl
any_none p (x ∷ xs) e =
    let parts = or_parts (p x) (list_any p xs) e in
    let a = count-cons p x xs in
    let n = none_if (p x) parts.0 in
    let r = any_none p xs parts.1 in
    omega arith

-- ---- fields of a name

abbrev pub has : List ℕ → Member → Bool
has x m = bytes_eq m.def.name x

-- how many of some fields have this name
abbrev pub times : List ℕ → List Member → ℕ
times x members = count_by (has x) members

pub times-append : (x : List ℕ) (xs ys : List Member) → times x (xs ++ ys) ≡ times x xs + times x ys
times-append x xs ys = sum_by-append (λ m. cond (has x m) 1 0) xs ys

-- one that is counted is found, and no other
found_step : (x : List ℕ) (m : Member) (ms : List Member) (b : Bool) → has x m ≡ b → (0 < times x ms → is_some (named ms x) ≡ true) → 0 < times x (m ∷ ms) → is_some (cond b (Some m) (named ms x)) ≡ true
found_step x m ms true e rest some = refl
found_step x m ms false e rest some = let a = count-cons (has x) m ms in let n = none_if (has x m) e in rest (omega arith)

pub times_found : (x : List ℕ) (ms : List Member) → 0 < times x ms → is_some (named ms x) ≡ true
times_found x [] some = absurd (let none : times x [] ≡ 0 = refl in omega arith)
times_found x (m ∷ ms) some = found_step x m ms (has x m) refl (times_found x ms) some

unfound_step : (x : List ℕ) (m : Member) (ms : List Member) (b : Bool) → has x m ≡ b → (times x ms ≡ 0 → is_some (named ms x) ≡ false) → times x (m ∷ ms) ≡ 0 → is_some (cond b (Some m) (named ms x)) ≡ false
unfound_step x m ms true e rest none = absurd (let a = count-cons (has x) m ms in let n = one_if (has x m) e in omega arith)
unfound_step x m ms false e rest none = let a = count-cons (has x) m ms in let n = none_if (has x m) e in rest (omega arith)

pub times_unfound : (x : List ℕ) (ms : List Member) → times x ms ≡ 0 → is_some (named ms x) ≡ false
times_unfound x [] none = refl
times_unfound x (m ∷ ms) none = unfound_step x m ms (has x m) refl (times_unfound x ms) none

pub bytes_eq-flip : (a b : List ℕ) → bytes_eq a b ≡ true → bytes_eq b a ≡ true
bytes_eq-flip a b e = (bytes_eq-Decides b a).1 (sym ((bytes_eq-Decides a b).0 e))

taken_step : (x : List ℕ) (m : Member) (ms : List Member) (b : Bool) → has x m ≡ b → (0 < times x ms → is_one_of (names_of ms) x ≡ true) → 0 < times x (m ∷ ms) → is_one_of (names_of (m ∷ ms)) x ≡ true
taken_step x m ms true e rest some = ap (λ (t : Bool). t || is_one_of (names_of ms) x) (bytes_eq-flip m.def.name x e)
taken_step x m ms false e rest some = let a = count-cons (has x) m ms in let n = none_if (has x m) e in or_right (bytes_eq x m.def.name) (is_one_of (names_of ms) x) (rest (omega arith))

pub times_taken : (x : List ℕ) (ms : List Member) → 0 < times x ms → is_one_of (names_of ms) x ≡ true
times_taken x [] some = absurd (let none : times x [] ≡ 0 = refl in omega arith)
times_taken x (m ∷ ms) some = taken_step x m ms (has x m) refl (times_taken x ms) some

-- ---- the automatic fields

-- no name stands among these twice
abbrev are_apart : List (List ℕ) → Bool
are_apart [] = true
are_apart (name ∷ more) = not (is_one_of more name) && are_apart more

once_step : (x : List ℕ) (m : Member) (ms : List Member) (b : Bool) → has x m ≡ b → is_one_of (names_of ms) m.def.name ≡ false → times x ms ≤ 1 → times x (m ∷ ms) ≤ 1
once_step x m ms true e free few =
    let alone : times x ms ≡ 0 = none (times x ms) refl in
    let a = count-cons (has x) m ms in
    let n = one_if (has x m) e in
    omega arith
  where
    same : m.def.name ≡ x
    same = (bytes_eq-Decides m.def.name x).0 e

    none : (n : ℕ) → times x ms ≡ n → n ≡ 0
    none zero is = refl
    none (suc n) is = absurd (false≢true (sym free ∙ ap (is_one_of (names_of ms)) same ∙ times_taken x ms (omega arith)))
once_step x m ms false e free few = let a = count-cons (has x) m ms in let n = none_if (has x m) e in omega arith

times_once : (x : List ℕ) (ms : List Member) → are_apart (names_of ms) ≡ true → times x ms ≤ 1
times_once x [] apart = let none : times x [] ≡ 0 = refl in omega arith
times_once x (m ∷ ms) apart =
    let parts = and_parts (not (is_one_of (names_of ms) m.def.name)) (are_apart (names_of ms)) apart in
    once_step x m ms (has x m) refl (not-true (is_one_of (names_of ms) m.def.name) parts.0) (times_once x ms parts.1)

pub automatic_count : (n : ℕ) (x : List ℕ) → times x (map (own_member n) automatic_defs) ≤ 1
automatic_count n x = times_once x (map (own_member n) automatic_defs) refl

pub automatic_counted : (n : ℕ) (x : List ℕ) → 0 < times x (map (own_member n) automatic_defs) → is_automatic x ≡ true
automatic_counted n x some = times_taken x (map (own_member n) automatic_defs) some
