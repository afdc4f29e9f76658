-- Numbers in words: digits that are tested are what the host's reading takes.
use Rattle.std.proofs.Common.{◌≡◌, ℕ, ◌^◌, ◌<◌, ◌≤◌, Bool, true, false, cond, List, [], ◌∷◌, length, drop, refl, sym, ap, ◌∙◌, subst, arith, Some, Result, Ok, Err}
use Rattle.std.specs.Prelude.{◌&&◌, ◌==◌, nat_le, nat_lt}
use Rattle.std.specs.Char.{digit_value, is_ascii_digit}
use Rattle.std.specs.List.{list_all}
use Rattle.std.specs.Result.{result_ok}
use Rattle.std.specs.Str.Parse.{AllDigits, IsNumeral, ParsesUnsigned, digits_value, without_leading_plus}
use Rattle.std.proofs.lemmas.Bool.{ltb-true}
use Rattle.std.proofs.lemmas.Grind.{common_steps}
use Rattle.ob_words.specs.Values.{is_number, number_of}

-- both of two tests that hold together
both : (a b : Bool) → (a && b) ≡ true → (a ≡ true) × (b ≡ true)
both true true e = (refl, refl)
both true false e = absurd (let h : ⊥ = cc in h)
both false b e = absurd (let h : ⊥ = cc in h)

-- the digit that a test finds
digit_tested : (x : ℕ) → is_ascii_digit x ≡ true → digit_value x < 10
digit_tested x e = grind (arith, common_steps)

digits_tested : (ds : List ℕ) → list_all is_ascii_digit ds ≡ true → AllDigits 10 ds
digits_tested [] all = tt
digits_tested (x ∷ ds) all = let parts = both (is_ascii_digit x) (list_all is_ascii_digit ds) all in (digit_tested x parts.0, digits_tested ds parts.1)

-- it is no plus
no_plus : (x : ℕ) → is_ascii_digit x ≡ true → (x == 43) ≡ false
no_plus x e = grind (arith, common_steps)

no_sign : (ds : List ℕ) → list_all is_ascii_digit ds ≡ true → without_leading_plus ds ≡ ds
no_sign [] all = refl
no_sign (x ∷ ds) all =
    let plus = no_plus x (both (is_ascii_digit x) (list_all is_ascii_digit ds) all).0 in
    ap (λ (b : Bool). drop (cond b 1 0) (x ∷ ds)) plus

-- a number is a numeral
is_numeral : (digits : ℕ) (text : List ℕ) → is_number digits text ≡ true → IsNumeral 10 text × (without_leading_plus text ≡ text)
is_numeral digits text is =
    let parts = both (nat_lt 0 (length text) && nat_le (length text) digits) (list_all is_ascii_digit text) is in
    let some = both (nat_lt 0 (length text)) (nat_le (length text) digits) parts.0 in
    ((ltb-true 0 (length text) some.0, digits_tested text parts.1), no_sign text parts.1)

-- no number lies below 0
none_below : (n : ℕ) → nat_le 0 n ≡ true
none_below n = grind (arith, common_steps)

-- what the host reads of a number of 32 bits is its value, where that has as many
pub read_number : {E : Type 0} (digits : ℕ) (text : List ℕ) (read : Result ℕ E) → is_number digits text ≡ true → ParsesUnsigned 32 10 text read
    → result_ok read ≡ number_of digits 0 4294967295 text
read_number digits text (Ok n) is reads =
    let numeral = is_numeral digits text is in
    let value : n ≡ digits_value 10 text = reads.1 ∙ ap (digits_value 10) numeral.1 in
    let below : digits_value 10 text < 2 ^ 32 = subst (λ (ds : List ℕ). digits_value 10 ds < 2 ^ 32) numeral.1 reads.0.1 in
    let within : nat_le (digits_value 10 text) 4294967295 ≡ true = grind (arith, common_steps, below) in
    ap Some value ∙ rw (is, none_below (digits_value 10 text), within) refl
read_number digits text (Err error) is reads =
    let numeral = is_numeral digits text is in
    let written = subst (λ (ds : List ℕ). IsNumeral 10 ds) (sym numeral.1) numeral.0 in
    let above : 2 ^ 32 ≤ digits_value 10 text = subst (λ (ds : List ℕ). 2 ^ 32 ≤ digits_value 10 ds) numeral.1 (past (digits_value 10 (without_leading_plus text)) (2 ^ 32) (λ below. reads (written, below))) in
    let without : nat_le (digits_value 10 text) 4294967295 ≡ false = grind (arith, common_steps, above) in
    rw (is, none_below (digits_value 10 text), without) refl
  where
    past : (a b : ℕ) → (a < b → ⊥) → b ≤ a
    past a b not_below = omega arith
