-- The slice_split of a text, and the words between spaces.
use Rattle.std.proofs.Common.{◌≡◌, ℕ, zero, suc, ◌+◌, ◌-◌, ◌<◌, ◌≤◌, Bool, true, false, not, cond, List, [], ◌∷◌, length, take, drop, get_or, inl, inr, refl, ap, sym, ◌∙◌, arith, length-drop, drop_of_length-le}
use Rattle.std.specs.Prelude.{filter}
use Rattle.std.proofs.lemmas.Bool.{cases_lt}
use Rattle.std.proofs.lemmas.Bool.Decides.{nat_tests}
use Rattle.std.proofs.lemmas.List.{get_or-drop, drop-drop}
use Rattle.std.proofs.lemmas.List.Sums.{prefix_len_passes, prefix_len_stops, prefix_len-le-length}
use Rattle.std.proofs.lemmas.Str.{IsCharBoundary-after_ascii, IsCharBoundary-before_ascii, IsCharBoundary-end, IsCharBoundary-start}
use Rattle.std.proofs.Math.Seq.{take-length}
use Rattle.std.specs.List.{prefix_len, slice_split, onto_first, slice_range}
use Rattle.std.specs.Str.{IsCharBoundary, IsUtf8}
use Rattle.ob_definition.specs.Orders.{is_space_or_tab, is_empty_piece, words}

abbrev pub is_in_word : ℕ → Bool
is_in_word b = not (is_space_or_tab b)

-- what the length of a run at the front says of its first byte
prefix_len-some : (p : ℕ → Bool) (b : ℕ) (bytes : List ℕ) (n : ℕ) → suc n ≡ prefix_len p (b ∷ bytes) → (p b ≡ true) × (n ≡ prefix_len p bytes)
prefix_len-some p b bytes n some = (grind arith, grind arith)

prefix_len-none : (p : ℕ → Bool) (b : ℕ) (bytes : List ℕ) → zero ≡ prefix_len p (b ∷ bytes) → p b ≡ false
prefix_len-none p b bytes none = grind arith

yes : (t : Bool) → not t ≡ false → t ≡ true
yes true e = refl
yes false e = sym e

no : (t : Bool) → not t ≡ true → t ≡ false
no true e = sym e
no false e = refl

-- a space at the front is in no word
words-space : (b : ℕ) (bytes : List ℕ) → is_space_or_tab b ≡ true → words (b ∷ bytes) ≡ words bytes
words-space b bytes space = ap (λ (t : Bool). filter (λ piece. not (is_empty_piece piece)) (cond t ([] ∷ slice_split is_space_or_tab bytes) (onto_first b (slice_split is_space_or_tab bytes)))) space

-- nor are all that stand there
pub words-spaces : (bytes : List ℕ) (n : ℕ) → n ≡ prefix_len is_space_or_tab bytes → words bytes ≡ words (drop n bytes)
words-spaces [] zero len = refl
words-spaces [] (suc n) len = refl
words-spaces (b ∷ bytes) zero len = refl
words-spaces (b ∷ bytes) (suc n) len =
    let some = prefix_len-some is_space_or_tab b bytes n len in
    words-space b bytes some.0 ∙ words-spaces bytes n some.1

-- the slice_split behind the first, where that is empty
abbrev pub behind : List ℕ → List (List ℕ)
behind [] = []
behind (b ∷ bytes) = slice_split is_space_or_tab bytes

-- the first piece is the run at the front
pieces-run : (bytes : List ℕ) (n : ℕ) → n ≡ prefix_len is_in_word bytes → slice_split is_space_or_tab bytes ≡ take n bytes ∷ behind (drop n bytes)
pieces-run [] zero len = refl
pieces-run [] (suc n) len = refl
pieces-run (b ∷ bytes) zero len =
    let space = yes (is_space_or_tab b) (prefix_len-none is_in_word b bytes len) in
    ap (λ (t : Bool). cond t ([] ∷ slice_split is_space_or_tab bytes) (onto_first b (slice_split is_space_or_tab bytes))) space
pieces-run (b ∷ bytes) (suc n) len =
    let some = prefix_len-some is_in_word b bytes n len in
    ap (λ (t : Bool). cond t ([] ∷ slice_split is_space_or_tab bytes) (onto_first b (slice_split is_space_or_tab bytes))) (no (is_space_or_tab b) some.0)
    ∙ ap (onto_first b) (pieces-run bytes n some.1)

-- behind a run there are the words of what is left
words-behind : (bytes : List ℕ) → zero ≡ prefix_len is_in_word bytes → words bytes ≡ filter (λ piece. not (is_empty_piece piece)) (behind bytes)
words-behind [] none = refl
words-behind (b ∷ bytes) none = words-space b bytes (yes (is_space_or_tab b) (prefix_len-none is_in_word b bytes none))

run_stops : (bytes : List ℕ) (n : ℕ) → n ≡ prefix_len is_in_word bytes → zero ≡ prefix_len is_in_word (drop n bytes)
run_stops [] zero len = refl
run_stops [] (suc n) len = refl
run_stops (b ∷ bytes) zero len = len
run_stops (b ∷ bytes) (suc n) len = run_stops bytes n (prefix_len-some is_in_word b bytes n len).1

-- a run at the front is the first word
pub words-run : (bytes : List ℕ) (n : ℕ) → n ≡ prefix_len is_in_word bytes → 0 < n → words bytes ≡ take n bytes ∷ words (drop n bytes)
words-run bytes zero len some = absurd (omega arith)
words-run [] (suc n) len some = absurd (cc)
words-run (b ∷ bytes) (suc n) len some =
    ap (filter (λ piece. not (is_empty_piece piece))) (pieces-run (b ∷ bytes) (suc n) len)
    ∙ ap (λ (more : List (List ℕ)). take (suc n) (b ∷ bytes) ∷ more) (sym (words-behind (drop n bytes) (run_stops (b ∷ bytes) (suc n) len)))

-- behind the spaces a word begins, where the text doesn't end
pub word_begins : (bytes : List ℕ) (n : ℕ) → n ≡ prefix_len is_space_or_tab bytes → n < length bytes → 0 < prefix_len is_in_word (drop n bytes)
word_begins [] n len inside = absurd (omega arith)
word_begins (b ∷ bytes) zero len inside =
    let not_space = prefix_len-none is_space_or_tab b bytes len in
    grind arith
word_begins (b ∷ bytes) (suc n) len inside = word_begins bytes n (prefix_len-some is_space_or_tab b bytes n len).1 (omega arith)

space_is_ascii : (b : ℕ) → is_space_or_tab b ≡ true → b < 128
space_is_ascii b space = grind (arith, nat_tests)

-- where the spaces end, a character begins
pub IsCharBoundary-behind_spaces : (text : List ℕ) (n : ℕ) → IsUtf8 text → n ≡ prefix_len is_space_or_tab text → IsCharBoundary text n
IsCharBoundary-behind_spaces text zero utf8 len = IsCharBoundary-start text utf8
IsCharBoundary-behind_spaces text (suc n) utf8 len =
    let passes : is_space_or_tab (get_or text n 0) ≡ true = prefix_len_passes is_space_or_tab text n 0 (omega arith) in
    let ascii : get_or text n 0 < 128 = space_is_ascii (get_or text n 0) passes in
    let inside : n < length text = omega (arith, prefix_len-le-length is_space_or_tab text) in
    let next : suc n ≡ n + 1 = omega arith in
    rw next (IsCharBoundary-after_ascii text n utf8 inside ascii)

-- and where a word ends
pub IsCharBoundary-behind_word : (text : List ℕ) (at n : ℕ) → n ≡ prefix_len is_in_word (drop at text) → at ≤ length text → IsCharBoundary text (at + n)
IsCharBoundary-behind_word text at n len within =
    elim (cases_lt (at + n) (length text)) [
      | inl inside ↦
          (let before : prefix_len is_in_word (drop at text) < length (drop at text) = omega (arith, length-drop at text) in
          let stops : is_in_word (get_or (drop at text) n 0) ≡ false = rw len (prefix_len_stops is_in_word (drop at text) 0 before) in
          let space : is_space_or_tab (get_or text (at + n) 0) ≡ true = yes (is_space_or_tab (get_or text (at + n) 0)) (rw (get_or-drop at text n 0) at stops) in
          IsCharBoundary-before_ascii text (at + n) inside (space_is_ascii (get_or text (at + n) 0) space))
      | inr past ↦
          (let end : at + n ≡ length text = omega (arith, length-drop at text, prefix_len-le-length is_in_word (drop at text)) in
          rw end (IsCharBoundary-end text))
    ]

-- what stands from an offset on, as `&text[at..]` has it
pub take-rest : (text : List ℕ) (at : ℕ) → take (length text - at) (drop at text) ≡ drop at text
take-rest text at = rw (← length-drop at text) (take-length (drop at text))

-- the first word, and the rest behind it
pub words-first : (text : List ℕ) (start n : ℕ) → start ≡ prefix_len is_space_or_tab text → n ≡ prefix_len is_in_word (drop start text) → start < length text
    → words text ≡ slice_range text start (start + n) ∷ words (drop (start + n) text)
words-first text start n spaces len inside =
    let begins = word_begins text start spaces inside in
    let some : 0 < n = omega arith in
    let size : start + n - start ≡ n = omega arith in
    rw (← drop-drop n start text, size) (words-spaces text start spaces ∙ words-run (drop start text) n len some)

-- only spaces are no words
pub words-none : (text : List ℕ) (start : ℕ) → start ≡ prefix_len is_space_or_tab text → start ≡ length text → words text ≡ []
words-none text start spaces end =
    words-spaces text start spaces ∙ ap words (drop_of_length-le text (omega arith))
