-- How many elements pass a test.
use Rattle.std.proofs.Common.{◌≡◌, ℕ, zero, suc, ◌+◌, ◌<◌, ◌≤◌, Bool, true, false, cond, List, [], ◌∷◌, map, length, refl, ap, ◌∙◌, arith}
use Rattle.std.specs.Prelude.{Contains, count_by}
use Rattle.std.proofs.lemmas.Bool.{false≢true}
use Rattle.std.proofs.lemmas.List.Sums.{sum_by-cons}

pub count-cons : {X : Type 0} (p : X → Bool) (x : X) (xs : List X) → count_by p (x ∷ xs) ≡ cond (p x) 1 0 + count_by p xs
count-cons p x xs = sum_by-cons (λ y. cond (p y) 1 0) x xs

pub one_if : (b : Bool) → b ≡ true → ◌≡◌ {A = ℕ} (cond b 1 0) 1
one_if b e = ap (λ (c : Bool). cond {A = ℕ} c 1 0) e

pub none_if : (b : Bool) → b ≡ false → ◌≡◌ {A = ℕ} (cond b 1 0) 0
none_if b e = ap (λ (c : Bool). cond {A = ℕ} c 1 0) e

pub count-map : {X Y : Type 0} (p : Y → Bool) (f : X → Y) (xs : List X) → count_by p (map f xs) ≡ count_by (λ x. p (f x)) xs
count-map p f [] = refl
count-map p f (x ∷ xs) = let a = count-cons p (f x) (map f xs) in let b = count-cons (λ y. p (f y)) x xs in let r = count-map p f xs in omega arith

pub one_more : (a b : Bool) → (a ≡ true → b ≡ true) → cond {A = ℕ} a 1 0 ≤ cond {A = ℕ} b 1 0
one_more true true on = omega arith
one_more true false on = absurd (false≢true (on refl))
one_more false true on = omega arith
one_more false false on = omega arith

-- a test that passes wherever another does counts no fewer
pub count-weaker : {X : Type 0} (p q : X → Bool) → ((x : X) → p x ≡ true → q x ≡ true) → (xs : List X) → count_by p xs ≤ count_by q xs
count-weaker p q weaker [] = let none : count_by p [] ≡ 0 = refl in omega arith
count-weaker p q weaker (x ∷ xs) =
    let a = count-cons p x xs in let b = count-cons q x xs in let one = one_more (p x) (q x) (weaker x) in let rest = count-weaker p q weaker xs in omega arith

one-most : (b : Bool) → cond {A = ℕ} b 1 0 ≤ 1
one-most true = omega arith
one-most false = omega arith

pub count-most : {X : Type 0} (p : X → Bool) (xs : List X) → count_by p xs ≤ length xs
count-most p [] = let none : count_by p [] ≡ 0 = refl in omega arith
count-most p (x ∷ xs) = let c = count-cons p x xs in let one = one-most (p x) in let rest = count-most p xs in omega arith

-- a test that one element fails counts fewer than there are
pub count-fewer : {X : Type 0} (p : X → Bool) (xs : List X) (x : X) → Contains xs x → p x ≡ false → count_by p xs < length xs
count-fewer p [] x (k, lt, is) fails = absurd (omega (arith, lt))
count-fewer p (y ∷ xs) x (zero, lt, is) fails =
    let c = count-cons p y xs in
    let none : cond {A = ℕ} (p y) 1 0 ≡ 0 = ap (λ (b : Bool). cond {A = ℕ} b 1 0) (ap p is ∙ fails) in
    let rest = count-most p xs in omega arith
count-fewer p (y ∷ xs) x (suc k, lt, is) fails =
    let c = count-cons p y xs in let one = one-most (p y) in let rest = count-fewer p xs x (k, omega (arith, lt), is) fails in omega arith
