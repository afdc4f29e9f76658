-- The steps of reading one line, over plain variables.
use Rattle.std.proofs.Common.{◌≡◌, ◌≢◌, ℕ, ◌+◌, ◌-◌, ◌<◌, ◌≤◌, Bool, true, false, cond, ltb, List, [], ◌∷◌, ◌++◌, length, take, drop, refl, ap, sym, ◌∙◌, arith, IsTrue, Some, None, Option, length-append, inl, inr, subst}
use mir.Val.{bool_byte}
use Rattle.std.specs.Prelude.{option_map, IfSome, nat_lt}
use Rattle.std.proofs.lemmas.List.{append_assoc, append-nil, nil_from_length, length-take, drop-drop, drop-take, drop_all, take_all}
use Rattle.std.proofs.lemmas.Bool.{ltb-true, ltb-false, false≢true}
use Rattle.std.proofs.lemmas.Bool.Decides.{nat_tests}
use Rattle.ob_base.specs.Limits.{max_line_bytes, max_input_bytes}
use Rattle.ob_server.specs.Lines.{Reading, line_front, line_back, line_size, stream_of, GivesPart, ReadsLine, StopsInLine, IsTooLong}
use Rattle.ob_server.specs.LineSteps.{TakesPiece, IsPieceTooLong}
use Rattle.ob_server.proofs.LineLaws.{feed_at, feed_at-le-length, feed_at-open, all_from_open, length-line_front, line_size-is, line_front-open, line_back-open, line_front-whole, line_back-whole, line_size-open, line_size-whole, line_grows}

-- what is still held of a room once some of it is consumed
pub held_rest : (room : List ℕ) (start end taken : ℕ) → start + taken ≤ end → take (end - (start + taken)) (drop (start + taken) room) ≡ drop taken (take (end - start) (drop start room))
held_rest room start end taken fits =
    let parted : end - start ≡ taken + (end - (start + taken)) = omega arith in
    rw (parted, drop-take, drop-drop) refl

dropped_rest : (held : List ℕ) (count : ℕ) (more : Bool) → ltb count (length held) ≡ more → drop (count + cond more 1 0) held ≡ drop (count + 1) held
dropped_rest held count true e = refl
dropped_rest held count false e =
    let past : length held ≤ count = grind (arith, nat_tests) in
    drop_all (count + 0) held (omega arith) ∙ sym (drop_all (count + 1) held (omega arith))

-- a `bool` as a number, in the words of the clauses
bool_byte-is : (b : Bool) → bool_byte b ≡ cond b 1 0
bool_byte-is true = refl
bool_byte-is false = refl

pub takes_piece : (held rest line front : List ℕ) (lines lines' consumed consumed' count step : ℕ) → count ≡ feed_at held → step ≡ bool_byte (ltb count (length held)) → rest ≡ drop (count + step) held
    → front ≡ line ++ take count held → lines' ≡ lines + step → consumed' ≡ consumed + (count + step)
    → TakesPiece (record { held = held; line = line; lines = lines; consumed = consumed }) (record { held = rest; line = front; lines = lines'; consumed = consumed' }) (ltb count (length held))
takes_piece held rest line front lines lines' consumed consumed' count step at bytes rested fronted counted taken =
    let stepped = bytes ∙ bool_byte-is (ltb count (length held)) in record {
      whole = rw (at, length-line_front held) refl;
      held = rested ∙ ap (λ n. drop (count + n) held) stepped ∙ dropped_rest held count _ refl ∙ ap (λ n. drop (n + 1) held) at;
      line = rw (← at) fronted;
      lines = rw (← stepped) counted;
      consumed = rw (line_size-is held, ← at, ← stepped) taken;
    }

pub piece_too_long-by_line : (held line : List ℕ) (lines consumed count : ℕ) → count ≡ feed_at held → max_line_bytes < length line + count
    → IsPieceTooLong (record { held = held; line = line; lines = lines; consumed = consumed })
piece_too_long-by_line held line lines consumed count at long =
    inl (omega (arith, length-append line (line_front held), length-line_front held))

pub piece_too_long-by_input : (held line : List ℕ) (lines consumed count step : ℕ) → count ≡ feed_at held → step ≡ bool_byte (ltb count (length held)) → max_input_bytes < consumed + (count + step)
    → IsPieceTooLong (record { held = held; line = line; lines = lines; consumed = consumed })
piece_too_long-by_input held line lines consumed count step at bytes long =
    let stepped = bytes ∙ bool_byte-is (ltb count (length held)) in
    inr (rw (line_size-is held, ← at, ← stepped) long)

step_within : (count len : ℕ) (more : Bool) → ltb count len ≡ more → count ≤ len → count + bool_byte more ≤ len
step_within count len true e below =
    let less : count < len = ltb-true count len e in
    omega arith
step_within count len false e below = omega arith

-- what is taken from a piece of a room stays within the piece
pub taken_within : (room : List ℕ) (start end count step : ℕ) → step ≡ bool_byte (ltb count (length (take (end - start) (drop start room)))) → count ≤ length (take (end - start) (drop start room))
    → start ≤ end → start + (count + step) ≤ end
taken_within room start end count step bytes below ordered =
    let held = take (end - start) (drop start room) in
    omega (arith, bytes, step_within count (length held) _ refl below, length-take (end - start) (drop start room))

-- what the reading of one line has done when it comes to the next piece
pub record IsWithinLine (old now : Reading) (left_before left_now : Option (List ℕ)) : Type 0 where
  pub part : List ℕ
  pub given : GivesPart left_before left_now part
  pub bytes : now.line ++ now.held ≡ old.held ++ part
  pub no_feed : feed_at now.line ≡ length now.line
  pub lines : now.lines ≡ old.lines
  pub consumed : now.consumed ≡ old.consumed + length now.line

gives_nothing : (left : Option (List ℕ)) → GivesPart left left []
gives_nothing None = refl
gives_nothing (Some rest) = refl

gives_both : (before mid now : Option (List ℕ)) (part more : List ℕ) → GivesPart before mid part → GivesPart mid now more → GivesPart before now (part ++ more)
gives_both before mid None part more first second = rw (first, second) refl
gives_both before mid (Some rest) part more first second = rw (first, second, append_assoc) refl

pub within_start : (old now : Reading) (left : Option (List ℕ)) → now ≡ record old { line = [] } → IsWithinLine old now left left
within_start old now left e = record {
  part = [];
  given = gives_nothing left;
  bytes = rw (e, append-nil) refl;
  no_feed = rw e refl;
  lines = rw e refl;
  consumed = rw e (omega arith);
}

pub within_fill : {old now next : Reading} {before mid left : Option (List ℕ)} → IsWithinLine old now before mid → now.held ≡ [] → GivesPart mid left next.held → next ≡ record now { held = next.held }
    → IsWithinLine old next before left
within_fill {old} {now} {next} {before} {mid} {left} h none given e =
    let line : next.line ≡ now.line = ap (λ (r : Reading). r.line) e in
    let lines : next.lines ≡ now.lines = ap (λ (r : Reading). r.lines) e in
    let consumed : next.consumed ≡ now.consumed = ap (λ (r : Reading). r.consumed) e in
    let so_far : now.line ≡ old.held ++ h.part = sym (append-nil now.line) ∙ (rw none at h.bytes) in record {
      part = h.part ++ next.held;
      given = gives_both before mid left h.part next.held h.given given;
      bytes = rw (line, so_far) (append_assoc old.held h.part next.held);
      no_feed = rw line h.no_feed;
      lines = lines ∙ h.lines;
      consumed = rw (consumed, line) h.consumed;
    }

-- a piece without a line feed goes to the line as a whole
record AllGoes (held : List ℕ) : Type 0 where
  front : line_front held ≡ held
  back : line_back held ≡ []
  size : line_size held ≡ length held
  no_feed : feed_at held ≡ length held

goes_from_part : (held : List ℕ) → false ≡ nat_lt (length (line_front held)) (length held) → AllGoes held
goes_from_part held part =
    let within = feed_at-le-length held in
    let past : length held ≤ feed_at held = ltb-false (feed_at held) (length held) (sym (rw (length-line_front held) at part)) in record {
      front = take_all (feed_at held) held past;
      back = drop_all (feed_at held + 1) held (omega arith);
      size = omega (arith, length-line_front held);
      no_feed = omega arith;
    }

pub within_piece : {old now next : Reading} {before left : Option (List ℕ)} → IsWithinLine old now before left → TakesPiece now next false → IsWithinLine old next before left × (next.held ≡ [])
within_piece {old} {now} {next} h piece =
    let all = goes_from_part now.held piece.whole in
    let line : next.line ≡ now.line ++ now.held = rw all.front at piece.line in
    let none : next.held ≡ [] = piece.held ∙ all.back in (
      record {
        part = h.part;
        given = h.given;
        bytes = rw (none, append-nil, line) h.bytes;
        no_feed = rw line (omega (arith, feed_at-open now.line now.held h.no_feed, length-append now.line now.held, all.no_feed));
        lines = omega (arith, piece.lines, h.lines);
        consumed = rw line (omega (arith, piece.consumed, h.consumed, all.size, length-append now.line now.held));
      },
      none,
    )

-- what holds of the stream at each rest that the source may have left holds of it where it is told
told : (stream left : Option (List ℕ)) (all : List ℕ → List ℕ) (P : List ℕ → Type 0) → stream ≡ option_map all left → ((rest : List ℕ) → left ≡ Some rest → P (all rest)) → IfSome stream P
told stream None all P e h = subst (λ s. IfSome s P) (sym e) tt
told stream (Some rest) all P e h = subst (λ s. IfSome s P) (sym e) (h rest refl)

stream_joined : (before left : Option (List ℕ)) (held part line rest_held : List ℕ) → GivesPart before left part → line ++ rest_held ≡ held ++ part
    → option_map (λ rest. held ++ rest) before ≡ option_map (λ rest. line ++ (rest_held ++ rest)) left
stream_joined before None held part line rest_held given bytes = rw given refl
stream_joined before (Some rest) held part line rest_held given bytes =
    rw (given, ← append_assoc held part rest, ← bytes, append_assoc line rest_held rest) refl

-- the stream as it was is the line so far, what is held and the rest
stream-within : {old now : Reading} {before left : Option (List ℕ)} → IsWithinLine old now before left → stream_of old before ≡ option_map (λ rest. now.line ++ (now.held ++ rest)) left
stream-within {old} {now} {before} {left} h =
    stream_joined before left old.held h.part now.line now.held h.given h.bytes

-- the first line of the stream, where its line feed is held
record EndsInHeld (line held rest : List ℕ) : Type 0 where
  some : line ++ (held ++ rest) ≢ []
  front : line_front (line ++ (held ++ rest)) ≡ line ++ line_front held
  back : line_back (line ++ (held ++ rest)) ≡ line_back held ++ rest
  size : line_size (line ++ (held ++ rest)) ≡ length line + (feed_at held + 1)

ends_in_held : (line held rest : List ℕ) → feed_at line ≡ length line → feed_at held < length held → EndsInHeld line held rest
ends_in_held line held rest no_feed less = record {
  some = λ e. absurd (omega (arith, ap length e, length-append line (held ++ rest), length-append held rest));
  front = line_front-open line (held ++ rest) no_feed ∙ ap (λ xs. line ++ xs) (line_front-whole held rest less);
  back = line_back-open line (held ++ rest) no_feed ∙ line_back-whole held rest less;
  size = omega (arith, line_size-open line (held ++ rest) no_feed, line_size-whole held rest less);
}

rest_mapped : (before left : Option (List ℕ)) (all : List ℕ → List ℕ) (back : List ℕ) → before ≡ option_map all left → ((rest : List ℕ) → left ≡ Some rest → line_back (all rest) ≡ back ++ rest)
    → option_map (λ rest. back ++ rest) left ≡ option_map line_back before
rest_mapped before None all back e h = rw e refl
rest_mapped before (Some rest) all back e h = rw (e, h rest refl) refl

pub reads_whole : {old now next : Reading} {before left : Option (List ℕ)} → IsWithinLine old now before left → TakesPiece now next true → ReadsLine old next before left
reads_whole {old} {now} {next} {before} {left} h piece =
    let stream = stream-within h in
    let less : feed_at now.held < length now.held = ltb-true (feed_at now.held) (length now.held) (sym (rw (length-line_front now.held) at piece.whole)) in
    let size : line_size now.held ≡ feed_at now.held + 1 = omega (arith, length-line_front now.held) in
    let consumed : next.consumed ≡ old.consumed + (length now.line + (feed_at now.held + 1)) = omega (arith, piece.consumed, h.consumed, size) in
    let ends = λ (rest : List ℕ). ends_in_held now.line now.held rest h.no_feed less in
    let all : List ℕ → List ℕ = λ rest. now.line ++ (now.held ++ rest) in record {
      some = told _ left all (λ s. s ≢ []) stream (λ rest e. (ends rest).some);
      line = told _ left all (λ s. next.line ≡ line_front s) stream (λ rest e. piece.line ∙ sym (ends rest).front);
      rest = rw piece.held (rest_mapped _ left all (line_back now.held) stream (λ rest e. (ends rest).back));
      lines = rw piece.lines (omega (arith, h.lines));
      consumed = told _ left all (λ s. next.consumed ≡ old.consumed + line_size s) stream (λ rest e. rw (ends rest).size consumed);
      moved = omega (arith, consumed);
    }

-- the source was at its end, and gave nothing more
pub ends_still : (mid left : Option (List ℕ)) (more : List ℕ) → GivesPart mid left more → IfSome mid (λ rest. rest ≡ []) → IfSome left (λ rest. rest ≡ [])
ends_still mid None more given ends = tt
ends_still mid (Some rest) more given ends =
    let whole : more ++ rest ≡ [] = subst (λ m. IfSome m (λ r. r ≡ [])) given ends in
    nil_from_length rest (omega (arith, ap length whole, length-append more rest))

ends_at : (left : Option (List ℕ)) (rest : List ℕ) → IfSome left (λ rest. rest ≡ []) → left ≡ Some rest → rest ≡ []
ends_at left rest ends e = subst (λ m. IfSome m (λ r. r ≡ [])) e ends

-- the first line of a stream that ends without a line feed
record EndsWithInput (line rest : List ℕ) : Type 0 where
  front : line_front (line ++ ([] ++ rest)) ≡ line
  back : line_back (line ++ ([] ++ rest)) ≡ [] ++ rest
  size : line_size (line ++ ([] ++ rest)) ≡ length line
  long : length (line ++ ([] ++ rest)) ≡ length line

ends_with_input : (line rest : List ℕ) → feed_at line ≡ length line → rest ≡ [] → EndsWithInput line rest
ends_with_input line rest no_feed none = record {
  front = rw none (line_front-open line [] no_feed ∙ append-nil line);
  back = rw none (line_back-open line [] no_feed);
  size = rw none (omega (arith, line_size-open line [] no_feed));
  long = rw none (omega (arith, length-append line []));
}

pub reads_last : {old now next : Reading} {before left : Option (List ℕ)} → IsWithinLine old now before left → now.held ≡ [] → IfSome left (λ rest. rest ≡ []) → 0 < length now.line
    → next ≡ record now { lines = now.lines + 1 } → ReadsLine old next before left
reads_last {old} {now} {next} {before} {left} h none ends some e =
    let stream : stream_of old before ≡ option_map (λ rest. now.line ++ ([] ++ rest)) left = rw none at (stream-within h) in
    let held : next.held ≡ [] = ap (λ (r : Reading). r.held) e ∙ none in
    let line : next.line ≡ now.line = ap (λ (r : Reading). r.line) e in
    let lines : next.lines ≡ now.lines + 1 = ap (λ (r : Reading). r.lines) e in
    let consumed : next.consumed ≡ now.consumed = ap (λ (r : Reading). r.consumed) e in
    let last = λ (rest : List ℕ) (is : left ≡ Some rest). ends_with_input now.line rest h.no_feed (ends_at left rest ends is) in
    let all : List ℕ → List ℕ = λ rest. now.line ++ ([] ++ rest) in record {
      some = told _ left all (λ s. s ≢ []) stream (λ rest is e. absurd (omega (arith, ap length e, (last rest is).long)));
      line = told _ left all (λ s. next.line ≡ line_front s) stream (λ rest is. line ∙ sym (last rest is).front);
      rest = rw held (rest_mapped _ left all [] stream (λ rest is. (last rest is).back));
      lines = omega (arith, lines, h.lines);
      consumed = told _ left all (λ s. next.consumed ≡ old.consumed + line_size s) stream (λ rest is. rw (last rest is).size (consumed ∙ h.consumed));
      moved = omega (arith, consumed, h.consumed);
    }

pub stops_within : {old now : Reading} {before left : Option (List ℕ)} → IsWithinLine old now before left → now.held ≡ [] → StopsInLine old now before left
stops_within {old} {now} {before} {left} h none =
    let so_far : now.line ≡ old.held ++ h.part = sym (append-nil now.line) ∙ (rw none at h.bytes) in record {
      part = h.part;
      given = h.given;
      line = so_far;
      no_line_feed = rw (← so_far) (all_from_open now.line h.no_feed);
      held = none;
      lines = h.lines;
    }

too_long_at : (line held rest : List ℕ) (start consumed lines : ℕ) → feed_at line ≡ length line → consumed ≡ start + length line
    → IsPieceTooLong (record { held = held; line = line; lines = lines; consumed = consumed }) → IsTooLong start (line ++ (held ++ rest))
too_long_at line held rest start consumed lines no_feed counted (inl long) =
    inl (omega (arith, length-line_front (line ++ (held ++ rest)), feed_at-open line (held ++ rest) no_feed, (line_grows held rest).0, length-append line (line_front held), length-line_front held))
too_long_at line held rest start consumed lines no_feed counted (inr long) =
    inr (omega (arith, line_size-open line (held ++ rest) no_feed, (line_grows held rest).1))

pub too_long_within : {old now : Reading} {before left : Option (List ℕ)} → IsWithinLine old now before left → IsPieceTooLong now → IfSome (stream_of old before) (IsTooLong old.consumed)
too_long_within {old} {now} {before} {left} h long =
    told _ left (λ rest. now.line ++ (now.held ++ rest)) (IsTooLong old.consumed) (stream-within h) (λ rest e. too_long_at now.line now.held rest old.consumed now.consumed now.lines h.no_feed h.consumed long)

-- no bytes came: none are held
pub none_came : (held : List ℕ) (more : Bool) → (0 < length held → IsTrue more) → more ≡ false → held ≡ []
none_came [] more h e = refl
none_came (byte ∷ held) more h e = absurd (false≢true (sym e ∙ h (omega arith)))
