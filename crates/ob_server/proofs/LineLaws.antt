-- Laws of lines, for those who read them one by one.
use Rattle.std.proofs.Common.{◌≡◌, ◌≢◌, ℕ, suc, ◌+◌, ◌<◌, ◌≤◌, Bool, true, false, cond, eqb, List, [], ◌∷◌, ◌++◌, length}
use Rattle.std.proofs.Common.{get_or, refl, ap, sym, ◌∙◌, arith, rules, tests, cond, Some, None, Option, length-append, eq-eqb, ltb, add_assoc, inl, inr}
use Rattle.std.specs.Prelude.{All, not, unwrap_or}
use Rattle.std.specs.List.{position_or_len, flat_map, onto_first}
use Rattle.std.proofs.Math.Seq.{take-append-add, drop-append-add}
use Rattle.std.proofs.lemmas.List.{append_assoc, append-nil, take_all, drop_all, take-append-le, drop-append-le, length-take, length-drop}
use Rattle.std.proofs.lemmas.List.Sums.{position_or_len_is, fails_before_first, prefix_len-le-length}
use Rattle.std.proofs.lemmas.List.Folds.{prefix_len-append}
use Rattle.std.proofs.lemmas.Bool.{cases_lt}
use Rattle.std.proofs.lemmas.Bool.Decides.{nat_tests}
use Rattle.memchr.specs.Find.{IsFirstByte, is_byte}
use Rattle.ob_server.specs.Lines.{is_line_feed, lines_of, line_front, line_back, line_size}

-- where the first line feed stands, or how many bytes there are where none does
abbrev pub feed_at : List ℕ → ℕ
feed_at bytes = position_or_len is_line_feed bytes

pub feed_at-le-length : (bytes : List ℕ) → feed_at bytes ≤ length bytes
feed_at-le-length bytes = prefix_len-le-length (λ b. not (is_line_feed b)) bytes

fails_from_not : (t : Bool) → (t ≡ true → ⊥) → t ≡ false
fails_from_not true h = absurd (h refl)
fails_from_not false h = refl

pub feed_at-from_first : (bytes : List ℕ) (found : Option ℕ) → IsFirstByte (is_byte 10) bytes found → unwrap_or found (length bytes) ≡ feed_at bytes
feed_at-from_first bytes None h =
    sym (position_or_len_is is_line_feed bytes (length bytes) 0 (omega arith) (λ k l. fails_from_not _ (h k (omega arith) l)) (λ l. absurd (omega arith)))
feed_at-from_first bytes (Some k) h =
    let low : k < length bytes = h.0.high in
    sym (position_or_len_is is_line_feed bytes k 0 (omega arith) (λ j l. fails_from_not _ (h.0.before j (omega arith) l)) (λ l. h.1))

-- bytes without a line feed

pub open_from_all : (bytes : List ℕ) → All (λ byte. byte ≢ 10) bytes → feed_at bytes ≡ length bytes
open_from_all bytes h =
    position_or_len_is is_line_feed bytes (length bytes) 0 (omega arith) (λ k l. let other : get_or bytes k 0 ≢ 10 = h k 0 l in search (rules, tests)) (λ l. absurd (omega arith))

pub all_from_open : (bytes : List ℕ) → feed_at bytes ≡ length bytes → All (λ byte. byte ≢ 10) bytes
all_from_open bytes h k d l e =
    let fails : eqb (get_or bytes k d) 10 ≡ false = fails_before_first is_line_feed bytes k d (omega arith) in
    let passes : eqb (get_or bytes k d) 10 ≡ true = eq-eqb _ _ e in
    cc

pub feed_at-open : (xs ys : List ℕ) → feed_at xs ≡ length xs → feed_at (xs ++ ys) ≡ length xs + feed_at ys
feed_at-open xs ys h = grind (arith, prefix_len-append, nat_tests)

pub feed_at-whole : (xs ys : List ℕ) → feed_at xs < length xs → feed_at (xs ++ ys) ≡ feed_at xs
feed_at-whole xs ys h = grind (arith, prefix_len-append, nat_tests)

pub length-line_front : (bytes : List ℕ) → length (line_front bytes) ≡ feed_at bytes
length-line_front bytes = omega (arith, length-take (feed_at bytes) bytes, feed_at-le-length bytes)

pub line_size-is : (bytes : List ℕ) → line_size bytes ≡ feed_at bytes + cond (ltb (feed_at bytes) (length bytes)) 1 0
line_size-is bytes =
    let front = length-line_front bytes in
    let below = feed_at-le-length bytes in
    rw front (grind (arith, nat_tests))

pub line_front-open : (xs ys : List ℕ) → feed_at xs ≡ length xs → line_front (xs ++ ys) ≡ xs ++ line_front ys
line_front-open xs ys h = rw feed_at-open (take-append-add xs ys (feed_at ys))

pub line_back-open : (xs ys : List ℕ) → feed_at xs ≡ length xs → line_back (xs ++ ys) ≡ line_back ys
line_back-open xs ys h = rw (feed_at-open, add_assoc) (drop-append-add xs ys (feed_at ys + 1))

pub line_front-whole : (xs ys : List ℕ) → feed_at xs < length xs → line_front (xs ++ ys) ≡ line_front xs
line_front-whole xs ys h = rw feed_at-whole (take-append-le (feed_at xs) xs ys (omega arith))

pub line_back-whole : (xs ys : List ℕ) → feed_at xs < length xs → line_back (xs ++ ys) ≡ line_back xs ++ ys
line_back-whole xs ys h = rw feed_at-whole (drop-append-le (feed_at xs + 1) xs ys (omega arith))

pub line_size-open : (xs ys : List ℕ) → feed_at xs ≡ length xs → line_size (xs ++ ys) ≡ length xs + line_size ys
line_size-open xs ys h =
    let fits = feed_at-le-length ys in
    rw (line_size-is (xs ++ ys), line_size-is ys, feed_at-open xs ys h, length-append xs ys) (grind (arith, nat_tests))

pub line_size-whole : (xs ys : List ℕ) → feed_at xs < length xs → line_size (xs ++ ys) ≡ feed_at xs + 1
line_size-whole xs ys h =
    rw (line_size-is (xs ++ ys), feed_at-whole xs ys h, length-append xs ys) (grind (arith, nat_tests))

-- more bytes make no first line shorter
pub line_grows : (xs ys : List ℕ) → (feed_at xs ≤ feed_at (xs ++ ys)) × (line_size xs ≤ line_size (xs ++ ys))
line_grows xs ys =
    let fits = feed_at-le-length xs in
    elim (cases_lt (feed_at xs) (length xs)) [
      | inl less ↦ (omega (arith, feed_at-whole xs ys less), omega (arith, line_size-whole xs ys less, length-line_front xs))
      | inr past ↦ let all : feed_at xs ≡ length xs = omega arith in
          (omega (arith, feed_at-open xs ys all), omega (arith, line_size-open xs ys all))
    ]

pub line_size-line_back : (stream : List ℕ) → line_size stream + length (line_back stream) ≡ length stream
line_size-line_back stream =
    omega (arith, length-line_front stream, length-drop (feed_at stream + 1) stream, feed_at-le-length stream)

-- the lines of a stream, one by one

same_line : (front front' : List ℕ) (back back' : List ℕ) → front ≡ front' → back ≡ back' → front ∷ lines_of back ≡ front' ∷ lines_of back'
same_line front front' back back' f b = cc

lines_of-step : (byte : ℕ) (bytes : List ℕ) (ends : Bool) → is_line_feed byte ≡ ends → (bytes ≢ [] → lines_of bytes ≡ line_front bytes ∷ lines_of (line_back bytes))
    → lines_of (byte ∷ bytes) ≡ line_front (byte ∷ bytes) ∷ lines_of (line_back (byte ∷ bytes))
lines_of-step byte bytes true e h = rw e refl
lines_of-step byte [] false e h = rw e refl
lines_of-step byte (next ∷ bytes) false e h =
    let rest = next ∷ bytes in
    let no_feed : feed_at (byte ∷ []) ≡ 1 = rw e refl in
    let lines : lines_of (byte ∷ rest) ≡ onto_first byte (lines_of rest) = rw e refl in
    lines ∙ ap (onto_first byte) (h (λ q. cc)) ∙ sym (same_line _ _ _ _ (line_front-open (byte ∷ []) rest no_feed) (line_back-open (byte ∷ []) rest no_feed))

pub lines_of-front : (stream : List ℕ) → stream ≢ [] → lines_of stream ≡ line_front stream ∷ lines_of (line_back stream)
lines_of-front [] some = absurd (some refl)
lines_of-front (byte ∷ bytes) some = lines_of-step byte bytes (is_line_feed byte) refl (lines_of-front bytes)

-- a last line without a line feed
pub lines_of-open : (line : List ℕ) → line ≢ [] → feed_at line ≡ length line → lines_of line ≡ line ∷ []
lines_of-open line some no_feed =
    let front : line_front line ≡ line = take_all (feed_at line) line (omega arith) in
    let back : line_back line ≡ [] = drop_all (feed_at line + 1) line (omega arith) in
    lines_of-front line some ∙ same_line (line_front line) line (line_back line) [] front back

-- a line with its line feed comes before the lines of what follows
pub lines_of-line : (line rest : List ℕ) → feed_at line ≡ length line → lines_of (line ++ 10 ∷ rest) ≡ line ∷ lines_of rest
lines_of-line line rest no_feed =
    let some : line ++ 10 ∷ rest ≢ [] = λ e. absurd (omega (arith, length-append line (10 ∷ rest), ap length e)) in
    lines_of-front (line ++ 10 ∷ rest) some ∙ same_line _ line _ rest (line_front-open line (10 ∷ rest) no_feed ∙ append-nil line) (line_back-open line (10 ∷ rest) no_feed)

-- whole lines come before the lines of what follows them
pub lines_of-whole : (whole : List (List ℕ)) (rest : List ℕ) → All (λ line. feed_at line ≡ length line) whole → lines_of (flat_map (λ line. line ++ 10 ∷ []) whole ++ rest) ≡ whole ++ lines_of rest
lines_of-whole [] rest no_feed = refl
lines_of-whole (line ∷ whole) rest no_feed =
    let later = flat_map (λ line. line ++ 10 ∷ []) whole ++ rest in
    let open_here : feed_at line ≡ length line = no_feed 0 [] (omega arith) in
    let open_later : All (λ line. feed_at line ≡ length line) whole = λ k d l. no_feed (suc k) d (omega arith) in
    let joined : ((line ++ 10 ∷ []) ++ flat_map (λ line. line ++ 10 ∷ []) whole) ++ rest ≡ line ++ 10 ∷ later = simp append_assoc in
    rw joined (lines_of-line line later open_here ∙ ap (λ lines. line ∷ lines) (lines_of-whole whole rest open_later))
