-- What stands at the front of a text, and what is left of its tokens behind it.
use Rattle.std.proofs.Common.{◌≡◌, ℕ, zero, suc, add-zero, add-one, ◌+◌, ◌-◌, ◌^◌, ◌<◌, ◌≤◌, Bool, false, true, List, [], ◌∷◌, length, take, drop, get_or, nat_lt, inl, inr, refl, ap, sym, ◌∙◌, arith, length-drop, length-take, get_or-take}
use Rattle.std.proofs.lemmas.Bool.{cases_lt, lt-leb}
use Rattle.std.proofs.lemmas.Bool.Decides.{nat_tests}
use Rattle.std.proofs.lemmas.List.{get_or-drop, drop-drop}
use Rattle.std.proofs.lemmas.List.Sums.{prefix_len_passes, prefix_len_stops}
use Rattle.std.proofs.lemmas.Str.{IsCharBoundary-after_ascii}
use Rattle.std.proofs.lemmas.Str.Parse.{IsNumeralModel, numerals_by_value, tells_by_index}
use Rattle.std.proofs.Math.Seq.{drop-cons, take-length}
use Rattle.std.specs.Int.{IsInRange}
use Rattle.std.specs.List.{prefix_len, slice_range, take_while}
use Rattle.std.specs.Str.{IsCharBoundary, IsUtf8}
use Rattle.std.specs.Str.Parse.{digits_value}
use Rattle.ob_base.specs.NameBytes.{is_letter, is_digit, is_name_byte}
use Rattle.ob_syntax.specs.Lexemes.{Cut, Lexeme, other, front_cut, is_separator, is_quote, lexemes_from, number_lexeme, symbol_cut, text_cut, word_lexeme}

-- what the token before took is skipped
pub lexemes_from-taken : (at : ℕ) (bytes : List ℕ) (taken : ℕ) → lexemes_from taken at bytes ≡ lexemes_from 0 (at + taken) (drop taken bytes)
lexemes_from-taken at [] zero = refl
lexemes_from-taken at [] (suc n) = refl
lexemes_from-taken at (b ∷ bytes) zero = rw add-zero refl
lexemes_from-taken at (b ∷ bytes) (suc n) =
    let sum : at + suc n ≡ at + 1 + n = omega arith in
    rw sum (lexemes_from-taken (at + 1) bytes n)

-- what a run at the front says of its first byte
prefix_len-some : (p : ℕ → Bool) (b : ℕ) (bytes : List ℕ) (n : ℕ) → prefix_len p (b ∷ bytes) ≡ suc n → (p b ≡ true) × (prefix_len p bytes ≡ n)
prefix_len-some p b bytes n some = (grind arith, grind arith)

-- blanks at the front give nothing
pub lexemes_from-blanks : (at : ℕ) (bytes : List ℕ) (n : ℕ) → prefix_len is_separator bytes ≡ n → lexemes_from 0 at bytes ≡ lexemes_from 0 (at + n) (drop n bytes)
lexemes_from-blanks at [] zero len = refl
lexemes_from-blanks at [] (suc n) len = refl
lexemes_from-blanks at (b ∷ bytes) zero len = rw add-zero refl
lexemes_from-blanks at (b ∷ bytes) (suc n) len =
    let some = prefix_len-some is_separator b bytes n len in
    let sum : at + suc n ≡ at + 1 + n = omega arith in
    rw (some.0, sum) (lexemes_from-blanks (at + 1) bytes n some.1)

drop-some : (n : ℕ) (b : ℕ) (bytes : List ℕ) → 1 ≤ n → drop (n - 1) bytes ≡ drop n (b ∷ bytes)
drop-some zero b bytes some = absurd (omega arith)
drop-some (suc n) b bytes some = let less : suc n - 1 ≡ n = omega arith in rw less refl

-- the token at the front, and those behind it
pub lexemes_from-front : (at : ℕ) (b : ℕ) (bytes : List ℕ) (cut : Cut) → is_separator b ≡ false → front_cut b bytes at ≡ cut → 1 ≤ cut.len
    → lexemes_from 0 at (b ∷ bytes) ≡ cut.lexeme ∷ lexemes_from 0 (at + cut.len) (drop cut.len (b ∷ bytes))
lexemes_from-front at b bytes cut no_blank front some =
    let sum : at + 1 + (cut.len - 1) ≡ at + cut.len = omega arith in
    let rest : drop (cut.len - 1) bytes ≡ drop cut.len (b ∷ bytes) = drop-some cut.len b bytes some in
    rw (no_blank, front, lexemes_from-taken (at + 1) bytes (cut.len - 1), sum, rest) refl

-- what stands from an offset on, as `&text[at..]` has it
pub take-rest : (text : List ℕ) (at : ℕ) → take (length text - at) (drop at text) ≡ drop at text
take-rest text at = rw (← length-drop at text) (take-length (drop at text))

-- the byte at an offset, and what stands behind it
pub rest-cons : (text : List ℕ) (at : ℕ) → at < length text → drop at text ≡ get_or text at 0 ∷ drop (at + 1) text
rest-cons text at inside = rw (add-one at) (drop-cons text at 0 inside)

-- the blanks at an offset, the token at an offset
pub lexemes_from-blanks_at : (text : List ℕ) (at n : ℕ) → n ≡ prefix_len is_separator (drop at text) → lexemes_from 0 at (drop at text) ≡ lexemes_from 0 (at + n) (drop (at + n) text)
lexemes_from-blanks_at text at n len = rw (← drop-drop n at text) (lexemes_from-blanks at (drop at text) n (sym len))

pub lexemes_from-at : (text : List ℕ) (at : ℕ) (cut : Cut) → at < length text → is_separator (get_or text at 0) ≡ false → front_cut (get_or text at 0) (drop (at + 1) text) at ≡ cut → 1 ≤ cut.len
    → lexemes_from 0 at (drop at text) ≡ cut.lexeme ∷ lexemes_from 0 (at + cut.len) (drop (at + cut.len) text)
lexemes_from-at text at cut inside no_blank front some =
    let parts = rest-cons text at inside in
    let here = lexemes_from-front at (get_or text at 0) (drop (at + 1) text) cut no_blank front some in
    let there : lexemes_from 0 at (drop at text) ≡ cut.lexeme ∷ lexemes_from 0 (at + cut.len) (drop cut.len (drop at text)) = rw parts here in
    rw (← drop-drop cut.len at text) there

-- behind the blanks stands no blank
pub is_separator-behind : (text : List ℕ) (at n : ℕ) → n ≡ prefix_len is_separator (drop at text) → at + n < length text → is_separator (get_or text (at + n) 0) ≡ false
is_separator-behind text at n len inside =
    let within : prefix_len is_separator (drop at text) < length (drop at text) = omega (arith, length-drop at text) in
    rw (sym (get_or-drop at text n 0), len) (prefix_len_stops is_separator (drop at text) 0 within)

-- the bytes of a run at an offset
module _ (p : ℕ → Bool) (text : List ℕ) (at n : ℕ) (len : n ≡ prefix_len p (drop at text)) (inside : at < length text) where
  pub run-bytes : take_while p (get_or text at 0 ∷ drop (at + 1) text) ≡ slice_range text at (at + n)
  run-bytes =
      let size : at + n - at ≡ n = omega arith in
      ap (take_while p) (sym (rest-cons text at inside)) ∙ ap (λ (k : ℕ). take k (drop at text)) (sym len ∙ sym size)

  pub run-len : n ≤ length (drop at text) → length (take_while p (get_or text at 0 ∷ drop (at + 1) text)) ≡ n
  run-len within =
      let short : length (take n (drop at text)) ≡ n = omega (arith, length-take n (drop at text)) in
      ap (λ (l : List ℕ). length (take_while p l)) (sym (rest-cons text at inside)) ∙ ap (λ (k : ℕ). length (take k (drop at text))) (sym len) ∙ short

  pub run-some : p (get_or text at 0) ≡ true → 0 < n
  run-some passes =
      let parts : prefix_len p (drop at text) ≡ prefix_len p (get_or text at 0 ∷ drop (at + 1) text) = ap (prefix_len p) (rest-cons text at inside) in
      let more : prefix_len p (get_or text at 0 ∷ drop (at + 1) text) ≡ 1 + prefix_len p (drop (at + 1) text) = rw passes refl in
      omega arith

  -- behind a run of characters of one byte each stands a character of its own
  pub run-boundary : ((b : ℕ) → p b ≡ true → b < 128) → IsUtf8 text → 0 < n → n ≤ length (drop at text) → IsCharBoundary text (at + n)
  run-boundary ascii utf8 some within =
      let last : ℕ = at + (n - 1) in
      let before : n - 1 < prefix_len p (drop at text) = omega arith in
      let passes : p (get_or (drop at text) (n - 1) 0) ≡ true = prefix_len_passes p (drop at text) (n - 1) 0 before in
      let small : get_or text last 0 < 128 = ascii (get_or text last 0) (rw (get_or-drop at text (n - 1) 0) at passes) in
      let next : at + n ≡ last + 1 = omega arith in
      let end : last < length text = omega (arith, length-drop at text) in
      rw next (IsCharBoundary-after_ascii text last utf8 end small)

  pub run-passes : (k d : ℕ) → k < length (slice_range text at (at + n)) → p (get_or (slice_range text at (at + n)) k d) ≡ true
  run-passes k d below =
      let size : at + n - at ≡ n = omega arith in
      let under : k < n = omega (arith, length-take (at + n - at) (drop at text)) in
      let before : k < prefix_len p (drop at text) = omega arith in
      rw (size, get_or-take n (drop at text) k d under) (prefix_len_passes p (drop at text) k d before)

pub letter_is_name_byte : (b : ℕ) → is_letter b ≡ true → is_name_byte b ≡ true
unfolding is_name_byte
letter_is_name_byte b letter = rw letter refl

pub name_byte_is_ascii : (b : ℕ) → is_name_byte b ≡ true → b < 128
unfolding is_name_byte
name_byte_is_ascii b in_name = grind (arith, nat_tests)

pub digit_is_ascii : (b : ℕ) → is_digit b ≡ true → b < 128
digit_is_ascii b digit = grind (arith, nat_tests)

pub digit_in_range : (b : ℕ) → is_digit b ≡ true → IsInRange 48 57 b
digit_in_range b digit = (grind (arith, nat_tests), grind (arith, nat_tests))

pub quote_is_ascii : (b : ℕ) → is_quote b ≡ true → b < 128
quote_is_ascii b quote = grind (arith, nat_tests)

abbrev cut_of : Lexeme → ℕ → Cut
cut_of lexeme len = record { lexeme = lexeme; len = len }

-- the token at the front, by its first byte
pub front-letter : (b : ℕ) (bytes : List ℕ) (at : ℕ) → is_letter b ≡ true
    → front_cut b bytes at ≡ record { lexeme = word_lexeme (take_while is_name_byte (b ∷ bytes)) at; len = length (take_while is_name_byte (b ∷ bytes)) }
unfolding front_cut
front-letter b bytes at letter = rw letter refl

pub front-digit : (b : ℕ) (bytes : List ℕ) (at : ℕ) → is_letter b ≡ false → is_digit b ≡ true
    → front_cut b bytes at ≡ record { lexeme = number_lexeme (take_while is_digit (b ∷ bytes)) at; len = length (take_while is_digit (b ∷ bytes)) }
unfolding front_cut
front-digit b bytes at letter digit = rw (letter, digit) refl

pub front-quote : (b : ℕ) (bytes : List ℕ) (at : ℕ) → is_letter b ≡ false → is_digit b ≡ false → is_quote b ≡ true → front_cut b bytes at ≡ text_cut b bytes at
unfolding front_cut
front-quote b bytes at letter digit quote = rw (letter, digit, quote) refl

pub front-symbol : (b : ℕ) (bytes : List ℕ) (at : ℕ) → is_letter b ≡ false → is_digit b ≡ false → is_quote b ≡ false → front_cut b bytes at ≡ symbol_cut b bytes at
unfolding front_cut
front-symbol b bytes at letter digit quote = rw (letter, digit, quote) refl

-- digits past 64 bits with a sign are no number
pub number_lexeme-past : (run : List ℕ) (at : ℕ) → ¬ ((0 < length run) × (digits_value 10 run < 2 ^ 63)) → 0 < length run → number_lexeme run at ≡ other at
unfolding number_lexeme
number_lexeme-past run at past some = elim (cases_lt (digits_value 10 run) (2 ^ 63)) [
  | inl fits ↦ absurd (past (some, fits))
  | inr above ↦
      let over : 2 ^ 63 < suc (digits_value 10 run) = omega arith in
      let test : nat_lt (digits_value 10 run) (2 ^ 63) ≡ false = lt-leb (suc (digits_value 10 run)) (2 ^ 63) over in
      rw test refl
]

pub digits_model : IsNumeralModel (λ ds. (i : ℕ) → i < length ds → IsInRange 48 57 (get_or ds i 0)) (digits_value 10)
digits_model = numerals_by_value _ tells_by_index

-- the same as the code has them, by the bytes of the text
module _ (bytes text : List ℕ) (at : ℕ) (is : bytes ≡ text) where
  pub rest-is : take (length bytes - at) (drop at bytes) ≡ drop at text
  rest-is = rw is (take-rest text at)

  pub test-at : (f : ℕ → Bool) (b : Bool) → b ≡ f (get_or (take (length bytes - at) (drop at bytes)) 0 0) → f (get_or text at 0) ≡ b
  test-at f b test =
      let first : get_or (take (length bytes - at) (drop at bytes)) 0 0 ≡ get_or text at 0 = rw (rest-is, get_or-drop at text 0 0, add-zero) refl in
      sym (rw first at test)

  pub len-at : (p : ℕ → Bool) (n : ℕ) → n ≡ prefix_len p (take (length bytes - at) (drop at bytes)) → n ≡ prefix_len p (drop at text)
  len-at p n len = rw rest-is at len

  pub within-at : (n : ℕ) → n ≤ length (take (length bytes - at) (drop at bytes)) → n ≤ length (drop at text)
  within-at n within = rw rest-is at within

  pub symbol-at : (cut : Cut) → symbol_cut (get_or (take (length bytes - at) (drop at bytes)) 0 0) (drop 1 (take (length bytes - at) (drop at bytes))) at ≡ cut
      → symbol_cut (get_or text at 0) (drop (at + 1) text) at ≡ cut
  symbol-at cut symbol =
      let first : get_or (take (length bytes - at) (drop at bytes)) 0 0 ≡ get_or text at 0 = rw (rest-is, get_or-drop at text 0 0, add-zero) refl in
      let rest : drop 1 (take (length bytes - at) (drop at bytes)) ≡ drop (at + 1) text = ap (drop 1) rest-is ∙ drop-drop 1 at text in
      ap (λ (b : ℕ). symbol_cut b (drop (at + 1) text) at) (sym first) ∙ ap (λ (l : List ℕ). symbol_cut (get_or (take (length bytes - at) (drop at bytes)) 0 0) l at) (sym rest) ∙ symbol

-- the token of a run at an offset
module _ (text : List ℕ) (at n : ℕ) where
  pub word-at : n ≡ prefix_len is_name_byte (drop at text) → at < length text → n ≤ length (drop at text) → is_letter (get_or text at 0) ≡ true
      → (lexeme : Lexeme) → lexeme ≡ word_lexeme (slice_range text at (at + n)) at → front_cut (get_or text at 0) (drop (at + 1) text) at ≡ record { lexeme = lexeme; len = n }
  word-at len inside within letter lexeme is =
      let bytes = run-bytes is_name_byte text at n len inside in
      let size = run-len is_name_byte text at n len inside within in
      let same : word_lexeme (take_while is_name_byte (get_or text at 0 ∷ drop (at + 1) text)) at ≡ lexeme = ap (λ (run : List ℕ). word_lexeme run at) bytes ∙ sym is in
      front-letter (get_or text at 0) (drop (at + 1) text) at letter
      ∙ ap (λ (l : Lexeme). cut_of l (length (take_while is_name_byte (get_or text at 0 ∷ drop (at + 1) text)))) same ∙ ap (λ (k : ℕ). cut_of lexeme k) size

  pub number-at : n ≡ prefix_len is_digit (drop at text) → at < length text → n ≤ length (drop at text) → is_letter (get_or text at 0) ≡ false → is_digit (get_or text at 0) ≡ true
      → (lexeme : Lexeme) → lexeme ≡ number_lexeme (slice_range text at (at + n)) at → front_cut (get_or text at 0) (drop (at + 1) text) at ≡ record { lexeme = lexeme; len = n }
  number-at len inside within letter digit lexeme is =
      let bytes = run-bytes is_digit text at n len inside in
      let size = run-len is_digit text at n len inside within in
      let same : number_lexeme (take_while is_digit (get_or text at 0 ∷ drop (at + 1) text)) at ≡ lexeme = ap (λ (run : List ℕ). number_lexeme run at) bytes ∙ sym is in
      front-digit (get_or text at 0) (drop (at + 1) text) at letter digit
      ∙ ap (λ (l : Lexeme). cut_of l (length (take_while is_digit (get_or text at 0 ∷ drop (at + 1) text)))) same ∙ ap (λ (k : ℕ). cut_of lexeme k) size
