-- The bytes and the digits of a text, by their places.
use Rattle.std.proofs.Common.{◌≡◌, ◌≢◌, ℕ, zero, suc, ◌+◌, ◌-◌, ◌*◌, ◌/◌, ◌%◌, ◌^◌, ◌<◌, ◌≤◌, cond, List, [], ◌∷◌, ◌++◌, length, get_or, take, drop, refl, sym, ap, subst, ◌∙◌, arith, add-one}
use Rattle.std.specs.Prelude.{replicate}
use Rattle.std.specs.Char.{digit_value, is_ascii_digit}
use Rattle.std.specs.Int.{IsInRange}
use Rattle.std.specs.Str.Parse.{digits_value}
use Rattle.std.proofs.Math.Nat.{pow-succ'}
use Rattle.std.proofs.Math.Seq.{drop-cons}
use Rattle.std.proofs.lemmas.Int.Digits.{digits_value_more}
use Rattle.std.proofs.Math.ListN as math
use Rattle.std.proofs.lemmas.Bool.Decides.{nat_tests}
use Rattle.std.proofs.lemmas.List.{get_or-drop, get_or-take, get_or-replicate, take-append-drop, drop-drop, length-map}
use Rattle.std.proofs.lemmas.Str.{digit_value_digit}
use Rattle.ob_dates.specs.Digits.{HasDigits}
use Rattle.ob_dates.specs.Texts.{shape_of, number_in}

-- a byte, and 0's byte in place of each digit
abbrev pub zeroed : ℕ → ℕ
zeroed b = cond (is_ascii_digit b) 48 b

pub digit_from_zeroed : (b : ℕ) → zeroed b ≡ 48 → IsInRange 48 57 b
digit_from_zeroed b h = grind (arith, nat_tests)

pub same_from_zeroed : (b c : ℕ) → zeroed b ≡ c → c ≢ 48 → b ≡ c
same_from_zeroed b c h other = grind (arith, nat_tests)

pub zeroed-digit : (d : ℕ) → d < 10 → zeroed (48 + d) ≡ 48
zeroed-digit d h = grind (arith, nat_tests)

pub digit_value-digit : (d : ℕ) → d < 10 → digit_value (48 + d) ≡ d
digit_value-digit d h = grind (arith, nat_tests)

-- ---- what the shape says of a place

pub zeroed-get_or : (text shape : List ℕ) (k : ℕ) → shape_of text ≡ shape → zeroed (get_or text k 0) ≡ get_or shape k 0
zeroed-get_or text shape k e = sym (math.get_or-map zeroed text k 0) ∙ ap (λ (s : List ℕ). get_or s k 0) e

pub length_from_shape : (text shape : List ℕ) → shape_of text ≡ shape → length text ≡ length shape
length_from_shape text shape e = sym (length-map text zeroed) ∙ ap length e

zero_in_shape : (shape : List ℕ) (start len k : ℕ) → take len (drop start shape) ≡ replicate len 48 → start ≤ k → k < start + len → get_or shape k 0 ≡ 48
zero_in_shape shape start len k e low high =
    let here : start + (k - start) ≡ k = omega arith in
    let within : k - start < len = omega arith in
    sym (ap (λ (i : ℕ). get_or shape i 0) here) ∙ sym (get_or-drop start shape (k - start) 0)
    ∙ sym (get_or-take len (drop start shape) (k - start) 0 within)
    ∙ ap (λ (s : List ℕ). get_or s (k - start) 0) e ∙ get_or-replicate len (k - start) 48 0 within

pub digits_from_shape : (text shape : List ℕ) (start len : ℕ) → shape_of text ≡ shape → start + len ≤ length shape → take len (drop start shape) ≡ replicate len 48 → HasDigits text start len
digits_from_shape text shape start len e room zeros = record {
  within = omega (arith, length_from_shape text shape e);
  digits = λ k low high. digit_from_zeroed (get_or text k 0) (zeroed-get_or text shape k e ∙ zero_in_shape shape start len k zeros low high);
}

pub byte_from_shape : (text shape : List ℕ) (k c : ℕ) → shape_of text ≡ shape → get_or shape k 0 ≡ c → c ≢ 48 → get_or text k 0 ≡ c
byte_from_shape text shape k c e at other = same_from_zeroed (get_or text k 0) c (zeroed-get_or text shape k e ∙ at) other

-- ---- the number of the digits so far

-- a digit of a part of the text
pub digit_of_part : (text : List ℕ) (start len i : ℕ) → HasDigits text start len → i < len → IsInRange 48 57 (get_or (take (start + len - start) (drop start text)) i 0)
digit_of_part text start len i h lt =
    let within : i < start + len - start = omega arith in
    let same = get_or-take (start + len - start) (drop start text) i 0 within ∙ get_or-drop start text i 0 in
    subst (IsInRange 48 57) (sym same) (h.digits (start + i) (omega arith) (omega arith))

-- three digits write less than a thousand
pub below_thousand : (i n : ℕ) → i < 4 → n < 10 ^ i → n < 1000
below_thousand zero n lt h = omega arith
below_thousand (suc zero) n lt h = omega arith
below_thousand (suc (suc zero)) n lt h = omega arith
below_thousand (suc (suc (suc zero))) n lt h = omega arith
below_thousand (suc (suc (suc (suc i)))) n lt h = absurd (omega arith)

-- one more digit
pub digits_value-push : (digits : List ℕ) (i n more : ℕ) → i < length digits → n ≡ digits_value 10 (take i digits) → n < 10 ^ i → IsInRange 48 57 (get_or digits i 0) → more + 48 ≡ get_or digits i 0
    → (n * 10 + more ≡ digits_value 10 (take (i + 1) digits)) × (n * 10 + more < 10 ^ (i + 1))
digits_value-push digits i n more lt e small digit is =
    let value : digit_value (get_or digits i 0) ≡ more = omega (arith, digit_value_digit (get_or digits i 0) digit) in
    let power : 10 ^ (i + 1) ≡ 10 * 10 ^ i = rw add-one (pow-succ' 10 i) in (
      ap (λ (k : ℕ). k * 10 + more) e ∙ ap (λ (k : ℕ). digits_value 10 (take i digits) * 10 + k) (sym value) ∙ sym (digits_value_more 10 digits i lt),
      omega (arith, digit.1),
    )

-- ---- two digits and four

-- a number below a hundred in two digits
abbrev pub two : ℕ → List ℕ
two n = (48 + n / 10) ∷ (48 + n % 10) ∷ []

-- a number below ten thousand in four
abbrev pub four : ℕ → List ℕ
four n = (48 + n / 10 / 10 / 10) ∷ (48 + n / 10 / 10 % 10) ∷ (48 + n / 10 % 10) ∷ (48 + n % 10) ∷ []

pub digits_value-two : (n : ℕ) → n < 100 → digits_value 10 (two n) ≡ n
digits_value-two n h =
    omega (arith, digit_value-digit (n / 10) (omega arith), digit_value-digit (n % 10) (omega arith))

pub digits_value-four : (n : ℕ) → n < 10000 → digits_value 10 (four n) ≡ n
digits_value-four n h =
    omega (arith, digit_value-digit (n / 10 / 10 / 10) (omega arith), digit_value-digit (n / 10 / 10 % 10) (omega arith), digit_value-digit (n / 10 % 10) (omega arith), digit_value-digit (n % 10) (omega arith))

two_same : (b c : ℕ) → IsInRange 48 57 b → IsInRange 48 57 c → two (digits_value 10 (b ∷ c ∷ [])) ≡ b ∷ c ∷ []
two_same b c hb hc =
    let n = digits_value 10 (b ∷ c ∷ []) in
    let first : 48 + n / 10 ≡ b = omega (arith, digit_value_digit b hb, digit_value_digit c hc) in
    let last : 48 + n % 10 ≡ c = omega (arith, digit_value_digit b hb, digit_value_digit c hc) in
    rw (first, last)

-- ---- the text from a place on

pub one_front : (text : List ℕ) (k c : ℕ) → k < length text → get_or text k 0 ≡ c → drop k text ≡ c ∷ drop (suc k) text
one_front text k c h e = drop-cons text k 0 h ∙ ap (λ (b : ℕ). b ∷ drop (suc k) text) e

front_split : (text : List ℕ) (start len : ℕ) → drop start text ≡ take len (drop start text) ++ drop (start + len) text
front_split text start len =
    sym (take-append-drop len (drop start text)) ∙ ap (λ (t : List ℕ). take len (drop start text) ++ t) (drop-drop len start text)

two_taken : (text : List ℕ) (start : ℕ) → start + 2 ≤ length text → take 2 (drop start text) ≡ get_or text start 0 ∷ get_or text (suc start) 0 ∷ []
two_taken text start h =
    let l0 : start < length text = omega arith in
    let l1 : suc start < length text = omega arith in
    rw (drop-cons text start 0 l0, drop-cons text (suc start) 0 l1) refl

pub two_front : (text : List ℕ) (start : ℕ) → HasDigits text start 2 → drop start text ≡ two (number_in text start 2) ++ drop (start + 2) text
two_front text start h =
    let taken = two_taken text start h.within in
    let written : two (digits_value 10 (take 2 (drop start text))) ≡ take 2 (drop start text) =
    rw taken (two_same (get_or text start 0) (get_or text (suc start) 0) (h.digits start (omega arith) (omega arith)) (h.digits (suc start) (omega arith) (omega arith))) in
    front_split text start 2 ∙ ap (λ (t : List ℕ). t ++ drop (start + 2) text) (sym written)

four_same : (a b c d : ℕ) → IsInRange 48 57 a → IsInRange 48 57 b → IsInRange 48 57 c → IsInRange 48 57 d → four (digits_value 10 (a ∷ b ∷ c ∷ d ∷ [])) ≡ a ∷ b ∷ c ∷ d ∷ []
four_same a b c d ha hb hc hd =
    let n = digits_value 10 (a ∷ b ∷ c ∷ d ∷ []) in
    let va : digit_value a + 48 ≡ a = digit_value_digit a ha in
    let vb : digit_value b + 48 ≡ b = digit_value_digit b hb in
    let vc : digit_value c + 48 ≡ c = digit_value_digit c hc in
    let vd : digit_value d + 48 ≡ d = digit_value_digit d hd in
    let e1 : n / 10 ≡ (digit_value a * 10 + digit_value b) * 10 + digit_value c = omega arith in
    let e2 : n / 10 / 10 ≡ digit_value a * 10 + digit_value b = omega arith in
    let e3 : n / 10 / 10 / 10 ≡ digit_value a = omega arith in
    let d1 : 48 + n / 10 / 10 / 10 ≡ a = omega arith in
    let d2 : 48 + n / 10 / 10 % 10 ≡ b = omega arith in
    let d3 : 48 + n / 10 % 10 ≡ c = omega arith in
    let d4 : 48 + n % 10 ≡ d = omega arith in
    rw (d1, d2, d3, d4)

four_taken : (text : List ℕ) (start : ℕ) → start + 4 ≤ length text → take 4 (drop start text) ≡ get_or text start 0 ∷ get_or text (suc start) 0 ∷ get_or text (suc (suc start)) 0 ∷ get_or text (suc (suc (suc start))) 0 ∷ []
four_taken text start h =
    let l0 : start < length text = omega arith in
    let l1 : suc start < length text = omega arith in
    let l2 : suc (suc start) < length text = omega arith in
    let l3 : suc (suc (suc start)) < length text = omega arith in
    rw (drop-cons text start 0 l0, drop-cons text (suc start) 0 l1, drop-cons text (suc (suc start)) 0 l2, drop-cons text (suc (suc (suc start))) 0 l3) refl

pub four_front : (text : List ℕ) (start : ℕ) → HasDigits text start 4 → drop start text ≡ four (number_in text start 4) ++ drop (start + 4) text
four_front text start h =
    let taken = four_taken text start h.within in
    let written : four (digits_value 10 (take 4 (drop start text))) ≡ take 4 (drop start text) =
    rw taken (four_same (get_or text start 0) (get_or text (suc start) 0) (get_or text (suc (suc start)) 0) (get_or text (suc (suc (suc start))) 0)
    (h.digits start (omega arith) (omega arith)) (h.digits (suc start) (omega arith) (omega arith))
    (h.digits (suc (suc start)) (omega arith) (omega arith)) (h.digits (suc (suc (suc start))) (omega arith) (omega arith))) in
    front_split text start 4 ∙ ap (λ (t : List ℕ). t ++ drop (start + 4) text) (sym written)
