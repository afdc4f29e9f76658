-- What was read of a stream goes on by one line.
use Rattle.std.proofs.Common.{◌≡◌, ◌≢◌, ◌+◌, ◌-◌, ℕ, zero, suc, ◌<◌, ◌≤◌, true, false, ltb, List, [], ◌∷◌, ◌++◌, length, get_or, refl, ap, sym, ◌∙◌, arith, inl, inr, Option, Some, None, subst, append_assoc, length-append, get_or-take}
use Rattle.std.specs.Prelude.{All, option_map, IfSome}
use Rattle.std.proofs.lemmas.Bool.{cases_lt, eqb-true, lt-ltb, le-ltb}
use Rattle.std.proofs.lemmas.List.{append-nil, take_all, drop_all, nil_from_length}
use Rattle.std.proofs.lemmas.List.Concat.{flat_map-append}
use Rattle.std.proofs.lemmas.List.Sums.{split_at_first, position_or_len_is, fails_before_first, passes_at_first}
use Rattle.std.proofs.lemmas.List.Elements.{All-push}
use Rattle.ob_base.specs.Limits.{max_line_bytes, max_input_bytes}
use Rattle.ob_server.specs.Lines.{is_line_feed, lines_of, line_front, line_back, line_size, Reading, stream_of, ReadsLine, IsTooLong}
use Rattle.ob_server.specs.Session.{after_lines, lines_size}
use Rattle.ob_server.specs.SessionSteps.{whole_lines, HasRead, HasReadAll, HasReadTo}
use Rattle.ob_server.proofs.LineLaws.{feed_at, feed_at-le-length, length-line_front, line_back-open, line_size-open, line_size-line_back, open_from_all, all_from_open, lines_of-open, lines_of-whole}

-- lines with their line feeds, one more

pub whole_lines-append : (lines : List (List ℕ)) (line : List ℕ) → whole_lines (lines ++ line ∷ []) ≡ whole_lines lines ++ (line ++ 10 ∷ [])
whole_lines-append lines line =
    flat_map-append (λ (l : List ℕ). l ++ 10 ∷ []) lines (line ∷ []) ∙ ap (λ x. whole_lines lines ++ x) (append-nil (line ++ 10 ∷ []))

-- the first line of a stream

pub first_open : (stream : List ℕ) → feed_at (line_front stream) ≡ length (line_front stream)
first_open stream =
    let front = line_front stream in
    position_or_len_is is_line_feed front (length front) 0 (omega arith)
    (λ k l. let below : k < feed_at stream = omega (arith, length-line_front stream) in rw get_or-take (fails_before_first is_line_feed stream k 0 below))
    (λ l. absurd (omega arith))

pub first_whole : (stream : List ℕ) → feed_at stream < length stream → stream ≡ line_front stream ++ 10 ∷ line_back stream
first_whole stream less =
    let feed : get_or stream (feed_at stream) 0 ≡ 10 = eqb-true _ _ (passes_at_first is_line_feed stream 0 less) in
    split_at_first is_line_feed stream 0 less ∙ ap (λ byte. line_front stream ++ byte ∷ line_back stream) feed

line_back-first : (line rest : List ℕ) → feed_at line ≡ length line → line_back (line ++ 10 ∷ rest) ≡ rest
line_back-first line rest no_feed = line_back-open line (10 ∷ rest) no_feed

line_size-first : (line rest : List ℕ) → feed_at line ≡ length line → line_size (line ++ 10 ∷ rest) ≡ length line + 1
line_size-first line rest no_feed =
    let one : line_size (10 ∷ rest) ≡ 1 = omega arith in
    omega (arith, line_size-open line (10 ∷ rest) no_feed)

-- the lines that come before a rest

pub open_lines : (lines : List (List ℕ)) → All (All (λ byte. byte ≢ 10)) lines → All (λ line. feed_at line ≡ length line) lines
open_lines lines h k d l = open_from_all (get_or lines k d) (h k d l)

pub lines_of-read : (lines : List (List ℕ)) (rest : List ℕ) → All (All (λ byte. byte ≢ 10)) lines → lines_of (whole_lines lines ++ rest) ≡ lines ++ lines_of rest
lines_of-read lines rest no_feeds = lines_of-whole lines rest (open_lines lines no_feeds)

pub joined : (line : List ℕ) (lines : List (List ℕ)) (rest : List ℕ) → whole_lines (line ∷ lines) ++ rest ≡ line ++ 10 ∷ (whole_lines lines ++ rest)
joined line lines rest = simp append_assoc

pub after_lines-read : (lines : List (List ℕ)) (rest : List ℕ) → All (All (λ byte. byte ≢ 10)) lines → after_lines (length lines) (whole_lines lines ++ rest) ≡ rest
after_lines-read [] rest no_feeds = refl
after_lines-read (line ∷ lines) rest no_feeds =
    let open_here : feed_at line ≡ length line = open_from_all line (no_feeds 0 [] (omega arith)) in
    let open_later : All (All (λ byte. byte ≢ 10)) lines = λ k d l. no_feeds (suc k) d (omega arith) in
    ap (λ s. after_lines (length lines) (line_back s)) (joined line lines rest)
    ∙ ap (after_lines (length lines)) (line_back-first line (whole_lines lines ++ rest) open_here)
    ∙ after_lines-read lines rest open_later

pub lines_size-read : (lines : List (List ℕ)) (rest : List ℕ) → All (All (λ byte. byte ≢ 10)) lines → lines_size (length lines) (whole_lines lines ++ rest) ≡ length (whole_lines lines)
lines_size-read [] rest no_feeds = refl
lines_size-read (line ∷ lines) rest no_feeds =
    let open_here : feed_at line ≡ length line = open_from_all line (no_feeds 0 [] (omega arith)) in
    let open_later : All (All (λ byte. byte ≢ 10)) lines = λ k d l. no_feeds (suc k) d (omega arith) in
    let here = line_size-first line (whole_lines lines ++ rest) open_here in
    let later = lines_size-read lines rest open_later in
    ap (λ s. line_size s + lines_size (length lines) (line_back s)) (joined line lines rest)
    ∙ ap (λ s. line_size (line ++ 10 ∷ (whole_lines lines ++ rest)) + lines_size (length lines) s) (line_back-first line (whole_lines lines ++ rest) open_here)
    ∙ omega (arith, here, later, length-append (line ++ 10 ∷ []) (whole_lines lines), length-append line (10 ∷ []))

-- lines take no more bytes than the stream has
pub lines_fit : (count : ℕ) (stream : List ℕ) → lines_size count stream ≤ length stream
lines_fit zero stream = omega arith
lines_fit (suc count) stream = omega (arith, lines_fit count (line_back stream), line_size-line_back stream)

-- a line more

regroup : (front line rest : List ℕ) → front ++ (line ++ 10 ∷ rest) ≡ (front ++ (line ++ 10 ∷ [])) ++ rest
regroup front line rest = simp append_assoc

told_nil : (held : List ℕ) (after : Option (List ℕ)) → option_map (λ rest. held ++ rest) after ≡ Some [] → after ≡ Some []
told_nil held None e = absurd (cc)
told_nil held (Some rest) e =
    let none : held ++ rest ≡ [] = cc in
    ap Some (nil_from_length rest (omega (arith, ap length none, length-append held rest)))

not_too_long : (consumed : ℕ) (rest : List ℕ) → length (line_front rest) ≤ max_line_bytes → consumed + line_size rest ≤ max_input_bytes → IsTooLong consumed rest → ⊥
not_too_long consumed rest short few (inl long) = omega arith
not_too_long consumed rest short few (inr long) = omega arith

-- the line that was read, in terms of what was still to come of the stream
record TakesLine (old new : Reading) (after : Option (List ℕ)) (rest : List ℕ) : Type 0 where
  some : rest ≢ []
  line : new.line ≡ line_front rest
  coming : stream_of new after ≡ Some (line_back rest)
  lines : new.lines ≡ old.lines + 1
  consumed : new.consumed ≡ old.consumed + line_size rest

takes_line : {old new : Reading} {before after : Option (List ℕ)} (rest : List ℕ) → stream_of old before ≡ Some rest → ReadsLine old new before after → TakesLine old new after rest
takes_line {old} {new} {before} {after} rest e r = record {
  some = subst (λ s. IfSome s (λ stream. stream ≢ [])) e r.some;
  line = subst (λ s. IfSome s (λ stream. new.line ≡ line_front stream)) e r.line;
  coming = r.rest ∙ ap (option_map line_back) e;
  lines = r.lines;
  consumed = subst (λ s. IfSome s (λ stream. new.consumed ≡ old.consumed + line_size stream)) e r.consumed;
}

-- where the stream goes on after the lines that were read
pub rest_after : {stream : List ℕ} {reader : Reading} {left : Option (List ℕ)} {lines : List (List ℕ)} (h : HasRead stream reader left lines) → after_lines (length lines) stream ≡ h.rest
rest_after {stream} {reader} {left} {lines} h =
    ap (after_lines (length lines)) h.stream_is ∙ after_lines-read lines h.rest h.no_feeds

pub size_before : {stream : List ℕ} {reader : Reading} {left : Option (List ℕ)} {lines : List (List ℕ)} (h : HasRead stream reader left lines) → lines_size (length lines) stream ≡ reader.consumed
size_before {stream} {reader} {left} {lines} h =
    ap (lines_size (length lines)) h.stream_is ∙ lines_size-read lines h.rest h.no_feeds ∙ sym h.consumed

pub lines_of-stream : {stream : List ℕ} {reader : Reading} {left : Option (List ℕ)} {lines : List (List ℕ)} (h : HasRead stream reader left lines) → lines_of stream ≡ lines ++ lines_of h.rest
lines_of-stream {stream} {reader} {left} {lines} h =
    ap lines_of h.stream_is ∙ lines_of-read lines h.rest h.no_feeds

none_longer : {stream : List ℕ} {reader : Reading} {left : Option (List ℕ)} {lines : List (List ℕ)} (h : HasRead stream reader left lines) → (IsTooLong reader.consumed h.rest → ⊥) → (k : ℕ)
    → k < length lines + 1 → IsTooLong (lines_size k stream) (after_lines k stream) → ⊥
none_longer {stream} {reader} {left} {lines} h fits k below long =
    elim (cases_lt k (length lines)) [
      | inl less ↦ h.none_too_long k less long
      | inr past ↦ let last : k ≡ length lines = omega arith in
          let at = subst (λ n. IsTooLong (lines_size n stream) (after_lines n stream)) last long in
          fits (rw (size_before h, rest_after h) at at)
    ]

reads_whole_line : (stream : List ℕ) (lines : List (List ℕ)) {old new : Reading} {before after : Option (List ℕ)} (h : HasRead stream old before lines) → TakesLine old new after h.rest
    → length new.line ≤ max_line_bytes → new.consumed ≤ max_input_bytes → feed_at h.rest < length h.rest → HasRead stream new after (lines ++ new.line ∷ [])
reads_whole_line stream lines {old} {new} {before} {after} h t short few less =
    let size : line_size h.rest ≡ feed_at h.rest + 1 = omega (arith, length-line_front h.rest) in
    let first : h.rest ≡ new.line ++ 10 ∷ line_back h.rest = rw t.line (first_whole h.rest less) in
    let more : length (lines ++ new.line ∷ []) ≡ length lines + 1 = length-append lines (new.line ∷ []) in
    let whole = whole_lines-append lines new.line in record {
      rest = line_back h.rest;
      stream_is = h.stream_is ∙ ap (λ s. whole_lines lines ++ s) first ∙ regroup (whole_lines lines) new.line (line_back h.rest) ∙ ap (λ s. s ++ line_back h.rest) (sym whole);
      no_feeds = All-push (All (λ byte. byte ≢ 10)) lines new.line h.no_feeds (all_from_open new.line (rw t.line (first_open h.rest)));
      coming = t.coming;
      count = omega (arith, h.count, t.lines, more);
      consumed = omega (arith, h.consumed, t.consumed, size, ap length whole, length-append (whole_lines lines) (new.line ++ 10 ∷ []), length-append new.line (10 ∷ []), ap length t.line, length-line_front h.rest);
      none_too_long = λ k below. none_longer h (not_too_long old.consumed h.rest (rw (← t.line) short) (omega (arith, t.consumed))) k (omega (arith, more));
    }

reads_last_line : (stream : List ℕ) (lines : List (List ℕ)) {old new : Reading} {before after : Option (List ℕ)} (h : HasRead stream old before lines) → TakesLine old new after h.rest
    → length new.line ≤ max_line_bytes → new.consumed ≤ max_input_bytes → length h.rest ≤ feed_at h.rest → HasReadAll stream after (lines ++ new.line ∷ [])
reads_last_line stream lines {old} {new} {before} {after} h t short few past =
    let more : length (lines ++ new.line ∷ []) ≡ length lines + 1 = length-append lines (new.line ∷ []) in
    let all : feed_at h.rest ≡ length h.rest = omega (arith, feed_at-le-length h.rest) in
    let line : new.line ≡ h.rest = t.line ∙ take_all (feed_at h.rest) h.rest past in
    let back : line_back h.rest ≡ [] = drop_all (feed_at h.rest + 1) h.rest (omega arith) in record {
      lines_are = lines_of-stream h ∙ ap (λ more. lines ++ more) (lines_of-open h.rest t.some all ∙ ap (λ l. l ∷ []) (sym line));
      none_left = told_nil new.held after (t.coming ∙ ap Some back);
      none_too_long = λ k below. none_longer h (not_too_long old.consumed h.rest (rw (← t.line) short) (omega (arith, t.consumed))) k (omega (arith, more));
    }

-- A line was read: whole where more bytes were consumed than it has, else the last.
pub reads_on : (stream : List ℕ) (lines : List (List ℕ)) {old new : Reading} {before after : Option (List ℕ)} → HasRead stream old before lines → ReadsLine old new before after
    → length new.line ≤ max_line_bytes → new.consumed ≤ max_input_bytes → (len now was : ℕ) → len ≡ length new.line → now ≡ new.consumed → was ≡ old.consumed
    → HasReadTo (ltb len (now - was)) stream new after (lines ++ new.line ∷ [])
reads_on stream lines {old} {new} {before} {after} h r short few len now was len_is now_is was_is =
    let t = takes_line h.rest h.coming r in
    let size : line_size h.rest ≡ now - was = omega (arith, t.consumed) in
    let long : len ≡ feed_at h.rest = omega (arith, ap length t.line, length-line_front h.rest) in
    elim (cases_lt (feed_at h.rest) (length h.rest)) [
      | inl less ↦ let whole : ltb len (now - was) ≡ true = lt-ltb _ _ (omega (arith, length-line_front h.rest)) in
          subst (λ w. HasReadTo w stream new after (lines ++ new.line ∷ [])) (sym whole) (reads_whole_line stream lines h t short few less)
      | inr past ↦ let last : ltb len (now - was) ≡ false = le-ltb _ _ (omega (arith, length-line_front h.rest)) in
          subst (λ w. HasReadTo w stream new after (lines ++ new.line ∷ [])) (sym last) (reads_last_line stream lines h t short few past)
    ]
