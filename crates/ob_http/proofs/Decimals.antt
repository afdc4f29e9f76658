-- Decimal numbers in however many digits: two are the same exactly where their digits are, but for zeros before them.
use Rattle.std.proofs.Common.{◌≡◌, ℕ, zero, suc, ◌+◌, ◌-◌, ◌*◌, ◌^◌, ◌<◌, ◌≤◌, Bool, true, false, cond, refl, sym, ap, ◌∙◌, ◌⊎◌, inl, inr, arith, add-one, subst, eqb-true, eq-eqb, lit<}
use Rattle.std.proofs.Common.{List, [], ◌∷◌, ◌++◌, length, take, drop, get_or, length-append}
use Rattle.std.proofs.Math.ListN.{replicate}
use Rattle.std.proofs.Math.Nat.{pow-le-pow_right, pow-suc, mul-le-mul_right}
use Rattle.std.proofs.lemmas.List.{length-replicate}
use Rattle.std.specs.Bool.{◌==◌, IsTrue, one_answer}
use Rattle.std.specs.Char.{is_ascii_digit, digit_value}
use Rattle.std.specs.List.{All, prefix_len}
use Rattle.std.proofs.lemmas.List.Elements.{All-head, All-tail}
use Rattle.std.specs.Str.{bytes_eq}
use Rattle.std.specs.Str.Parse.{AllDigits, digits_value, digits_value_after}
use Rattle.std.proofs.lemmas.Bool.{cases_lt}
use Rattle.std.proofs.lemmas.Grind.{common_steps}
use Rattle.std.proofs.lemmas.Slice.Eq.{bytes_eq-Decides}
use Rattle.std.proofs.lemmas.Int.Digits.{digits_value_more}
use Rattle.std.proofs.lemmas.Str.{digit_value_digit}
use Rattle.std.proofs.lemmas.Str.Parse.{digit_from_value}
use Rattle.ob_http.specs.Message.{without_zeros}

-- the byte of a zero
abbrev pub is_zero : ℕ → Bool
is_zero byte = byte == 48

-- the same digit has the same byte
same_digit : (x y : ℕ) → digit_value x < 10 → digit_value y < 10 → digit_value x ≡ digit_value y → x ≡ y
same_digit x y hx hy e = sym (digit_value_digit x (digit_from_value x hx)) ∙ ap (λ v. v + 48) e ∙ digit_value_digit y (digit_from_value y hy)

-- in as many digits a number is written one way
same_after : (a b : List ℕ) (n m : ℕ) → AllDigits 10 a → AllDigits 10 b → length a ≡ length b
    → digits_value_after 10 n a ≡ digits_value_after 10 m b → (n ≡ m) × (a ≡ b)
same_after [] [] n m da db l e = (e, refl)
same_after [] (y ∷ b) n m da db l e = absurd (omega arith)
same_after (x ∷ a) [] n m da db l e = absurd (omega arith)
same_after (x ∷ a) (y ∷ b) n m da db l e =
    let rest = same_after a b (n * 10 + digit_value x) (m * 10 + digit_value y) da.1 db.1 (omega arith) e in
    let below_x : digit_value x < 10 = da.0 in
    let below_y : digit_value y < 10 = db.0 in
    let sum : n * 10 + digit_value x ≡ m * 10 + digit_value y = rest.0 in
    let same : n ≡ m = omega arith in
    let first : digit_value x ≡ digit_value y = omega arith in
    (same, ap (λ d. d ∷ a) (same_digit x y da.0 db.0 first) ∙ ap (λ l. y ∷ l) rest.1)

-- zeros before the digits change nothing
zeros_before : (k : ℕ) (a : List ℕ) → digits_value 10 (replicate k 48 ++ a) ≡ digits_value 10 a
zeros_before zero a = refl
zeros_before (suc k) a = zeros_before k a

digits_with_zeros : (k : ℕ) (a : List ℕ) → AllDigits 10 a → AllDigits 10 (replicate k 48 ++ a)
digits_with_zeros zero a d = d
digits_with_zeros (suc k) a d = (omega arith, digits_with_zeros k a d)

-- a zero stands before these digits
zero_first : (a b : List ℕ) → 48 ∷ a ≡ b → prefix_len is_zero b ≡ 0 → ⊥
zero_first a b e none = let counted : 1 + prefix_len is_zero a ≡ 0 = ap (prefix_len is_zero) e ∙ none in omega arith

-- a number has no more digits than another that has no zero before it
in_more_digits : (k : ℕ) (a b : List ℕ) → AllDigits 10 a → AllDigits 10 b → prefix_len is_zero b ≡ 0 → k + length a ≡ length b
    → digits_value 10 a ≡ digits_value 10 b → a ≡ b
in_more_digits zero a b da db none l e = (same_after a b 0 0 da db (omega arith) e).1
in_more_digits (suc k) a b da db none l e =
    let long : length (replicate (suc k) 48 ++ a) ≡ length b = length-append (replicate (suc k) 48) a ∙ ap (λ n. n + length a) (length-replicate (suc k) 48) ∙ l in
    let same = same_after (replicate (suc k) 48 ++ a) b 0 0 (digits_with_zeros (suc k) a da) db long (zeros_before (suc k) a ∙ e) in
    absurd (zero_first (replicate k 48 ++ a) b same.1 none)

-- without a zero before them digits write a number in one way
pub one_way : (a b : List ℕ) → AllDigits 10 a → AllDigits 10 b → prefix_len is_zero a ≡ 0 → prefix_len is_zero b ≡ 0
    → digits_value 10 a ≡ digits_value 10 b → a ≡ b
one_way a b da db na nb e =
    elim (shorter (length a) (length b)) [
      | inl k ↦ in_more_digits k.0 a b da db nb k.1 e
      | inr k ↦ sym (in_more_digits k.0 b a db da na k.1 (sym e))
    ]
  where
    shorter : (n m : ℕ) → ((k : ℕ) × (k + n ≡ m)) ⊎ ((k : ℕ) × (k + m ≡ n))
    shorter n m = elim (cases_lt n m) [ inl h ↦ inl (m - n, omega arith) | inr h ↦ inr (n - m, omega arith) ]

-- the zeros before digits, one after another
without_zeros-zero : (x : ℕ) (ds : List ℕ) → is_zero x ≡ true → without_zeros (x ∷ ds) ≡ without_zeros ds
without_zeros-zero x ds e = ap (λ t. drop (cond t (1 + prefix_len is_zero ds) 0) (x ∷ ds)) e ∙ grind (arith, common_steps)

without_zeros-other : (x : ℕ) (ds : List ℕ) → is_zero x ≡ false → without_zeros (x ∷ ds) ≡ x ∷ ds
without_zeros-other x ds e = ap (λ t. drop (cond t (1 + prefix_len is_zero ds) 0) (x ∷ ds)) e

pub value-without_zeros : (ds : List ℕ) → digits_value 10 (without_zeros ds) ≡ digits_value 10 ds
value-without_zeros [] = refl
value-without_zeros (x ∷ ds) = at (value-without_zeros ds) (is_zero x) refl
  where
    at : digits_value 10 (without_zeros ds) ≡ digits_value 10 ds → (b : Bool) → is_zero x ≡ b → digits_value 10 (without_zeros (x ∷ ds)) ≡ digits_value 10 (x ∷ ds)
    at rest true e = let same : x ≡ 48 = eqb-true x 48 e in
        ap (digits_value 10) (without_zeros-zero x ds e) ∙ rest ∙ ap (λ d. digits_value 10 (d ∷ ds)) (sym same)
    at rest false e = ap (digits_value 10) (without_zeros-other x ds e)

pub no_zeros_left : (ds : List ℕ) → prefix_len is_zero (without_zeros ds) ≡ 0
no_zeros_left [] = refl
no_zeros_left (x ∷ ds) = at (no_zeros_left ds) (is_zero x) refl
  where
    at : prefix_len is_zero (without_zeros ds) ≡ 0 → (b : Bool) → is_zero x ≡ b → prefix_len is_zero (without_zeros (x ∷ ds)) ≡ 0
    at rest true e = ap (prefix_len is_zero) (without_zeros-zero x ds e) ∙ rest
    at rest false e = ap (prefix_len is_zero) (without_zeros-other x ds e) ∙ ap (λ t. cond t (1 + prefix_len is_zero ds) 0) e

pub without_zeros-twice : (ds : List ℕ) → without_zeros (without_zeros ds) ≡ without_zeros ds
without_zeros-twice ds = ap (λ n. drop n (without_zeros ds)) (no_zeros_left ds)

digits-without_zeros : (ds : List ℕ) → AllDigits 10 ds → AllDigits 10 (without_zeros ds)
digits-without_zeros [] d = d
digits-without_zeros (x ∷ ds) d = at (digits-without_zeros ds d.1) (is_zero x) refl
  where
    at : AllDigits 10 (without_zeros ds) → (b : Bool) → is_zero x ≡ b → AllDigits 10 (without_zeros (x ∷ ds))
    at rest true e = subst (AllDigits 10) (sym (without_zeros-zero x ds e)) rest
    at rest false e = subst (AllDigits 10) (sym (without_zeros-other x ds e)) d

-- the digits that a test finds
digit_tested : (x : ℕ) → is_ascii_digit x ≡ true → digit_value x < 10
digit_tested x e = grind (arith, common_steps)

pub digits_tested : (ds : List ℕ) → All (λ x. IsTrue (is_ascii_digit x)) ds → AllDigits 10 ds
digits_tested [] all = tt
digits_tested (x ∷ ds) all = (digit_tested x (All-head (λ x. IsTrue (is_ascii_digit x)) x ds all), digits_tested ds (All-tail (λ x. IsTrue (is_ascii_digit x)) x ds all))

-- two decimals are the same number exactly where their digits without zeros before them are
pub same_numbers : (a b : List ℕ) → AllDigits 10 a → AllDigits 10 b
    → bytes_eq (without_zeros a) (without_zeros b) ≡ (digits_value 10 b == digits_value 10 a)
same_numbers a b da db =
    one_answer {P = without_zeros a ≡ without_zeros b} (bytes_eq (without_zeros a) (without_zeros b)) (digits_value 10 b == digits_value 10 a)
    (bytes_eq-Decides (without_zeros a) (without_zeros b)) (
      (λ e. let same : digits_value 10 b ≡ digits_value 10 a = eqb-true (digits_value 10 b) (digits_value 10 a) e in
          one_way (without_zeros a) (without_zeros b) (digits-without_zeros a da) (digits-without_zeros b db) (no_zeros_left a) (no_zeros_left b)
          (value-without_zeros a ∙ sym same ∙ sym (value-without_zeros b))),
      (λ e. eq-eqb (digits_value 10 b) (digits_value 10 a) (sym (value-without_zeros b) ∙ ap (digits_value 10) (sym e) ∙ value-without_zeros a)),
    )

-- each further digit makes ten times as much
at_least : (n : ℕ) (ds : List ℕ) → n * 10 ^ length ds ≤ digits_value_after 10 n ds
at_least n [] = let one : 10 ^ 0 ≡ 1 = refl in omega (arith, one)
at_least n (x ∷ ds) =
    let rest = at_least (n * 10 + digit_value x) ds in
    let power : 10 ^ suc (length ds) ≡ 10 ^ length ds * 10 = pow-suc 10 (length ds) in
    grown n (digit_value x) (10 ^ length ds) (10 ^ suc (length ds)) (digits_value_after 10 (n * 10 + digit_value x) ds) power rest
  where
    grown : (n d p q v : ℕ) → q ≡ p * 10 → (n * 10 + d) * p ≤ v → n * q ≤ v
    grown n d p q v power rest = let whole : n * q ≡ n * (p * 10) = ap (λ t. n * t) power in grind arith

zero_or : (n : ℕ) → (n ≡ 0) ⊎ (1 ≤ n)
zero_or zero = inl refl
zero_or (suc n) = inr (omega arith)

-- so many digits without a zero before them write at least as much
pub many_digits : (ds : List ℕ) (k : ℕ) → AllDigits 10 ds → without_zeros ds ≡ ds → k < length ds → 10 ^ k ≤ digits_value 10 ds
many_digits [] k d same l = absurd (omega arith)
many_digits (x ∷ ds) k d same l =
    let least = at_least (0 * 10 + digit_value x) ds in
    let power : 10 ^ k ≤ 10 ^ length ds = pow-le-pow_right (lit< tt) (omega arith) in
    let some : 1 ≤ digit_value x = first x ds d.0 (ap (prefix_len is_zero) (sym same) ∙ no_zeros_left (x ∷ ds)) in
    grown (digit_value x) (10 ^ k) (10 ^ length ds) (digits_value 10 (x ∷ ds)) some power least
  where
    grown : (n p q v : ℕ) → 1 ≤ n → p ≤ q → (0 * 10 + n) * q ≤ v → p ≤ v
    grown n p q v some power least = let more : 1 * q ≤ n * q = mul-le-mul_right q some in omega arith

    first : (x : ℕ) (ds : List ℕ) → digit_value x < 10 → prefix_len is_zero (x ∷ ds) ≡ 0 → 1 ≤ digit_value x
    first x ds d none =
        let value = digit_value_digit x (digit_from_value x d) in
        elim (zero_or (digit_value x)) [
          | inl e ↦ absurd (zero_first ds (x ∷ ds) (ap (λ y. y ∷ ds) (ap (λ v. v + 48) (sym e) ∙ value)) none)
          | inr h ↦ h
        ]

-- one digit more
pub next_digit : (ds : List ℕ) (i n : ℕ) → All (λ x. IsTrue (is_ascii_digit x)) ds → i < length ds → n ≡ digits_value 10 (take i ds) → n < 10 ^ i
    → (n * 10 + (get_or ds i 0 - 48) ≡ digits_value 10 (take (i + 1) ds)) × (n * 10 + (get_or ds i 0 - 48) < 10 ^ (i + 1))
next_digit ds i n all inside is below =
    let x = get_or ds i 0 in
    let small : digit_value x < 10 = digit_tested x (all i 0 inside) in
    let value : digit_value x + 48 ≡ x = digit_value_digit x (digit_from_value x small) in
    let more : digits_value 10 (take (i + 1) ds) ≡ digits_value 10 (take i ds) * 10 + digit_value x = digits_value_more 10 ds i inside in
    let power : 10 ^ suc i ≡ 10 ^ i * 10 = pow-suc 10 i in
    let next : 10 ^ (i + 1) ≡ 10 ^ suc i = ap (λ k. 10 ^ k) (add-one i) in
    grown n (digits_value 10 (take i ds)) (digit_value x) x (digits_value 10 (take (i + 1) ds)) (10 ^ i) (10 ^ suc i) (10 ^ (i + 1)) is below small value more power next
  where
    grown : (n m d x v p q r : ℕ) → n ≡ m → n < p → d < 10 → d + 48 ≡ x → v ≡ m * 10 + d → q ≡ p * 10 → r ≡ q
        → (n * 10 + (x - 48) ≡ v) × (n * 10 + (x - 48) < r)
    grown n m d x v p q r is below small value more power next = (omega arith, omega arith)
