-- How a session ends whose input gives no further line.
use Rattle.std.proofs.Common.{◌≡◌, ◌≢◌, ◌+◌, ℕ, true, false, List, [], ◌∷◌, ◌++◌, length, get_or, refl, ap, sym, ◌∙◌, arith, Option, Some, None, subst, append_assoc, length-append}
use Rattle.std.specs.Prelude.{All, take, option_map, IfSome}
use Rattle.std.specs.List.{list_any}
use Rattle.std.proofs.lemmas.List.{append-nil}
use Rattle.std.proofs.lemmas.List.Folds.{list_any_none}
use Rattle.std.proofs.lemmas.Bool.Decides.{nat_tests}
use Rattle.std.proofs.Math.Seq.{take-append_seam}
use Rattle.ob_server.specs.declared.ending.Ending.{Ending}
use Rattle.ob_server.specs.declared.ending.Ending.TheVariants as ending
use Rattle.ob_server.specs.declared.lines.LineFault.{LineFault}
use Rattle.ob_server.specs.declared.lines.LineFault.TheVariants as fault
use Rattle.ob_server.specs.Lines.{is_line_feed, lines_of, bodies_of, Reading, stream_of, GivesPart, IsAtEnd, StopsInLine, IsTooLong}
use Rattle.ob_server.specs.Session.{whole_part, NoneTooLong, AreAmong, AreRead}
use Rattle.ob_server.specs.SessionSteps.{whole_lines, HasRead, StopsReading}
use Rattle.ob_server.proofs.ReadOn.{rest_after, size_before, lines_of-stream, lines_of-read, joined}

-- the stream up to its last line feed

no_feed_in : (bytes : List ℕ) → All (λ byte. byte ≢ 10) bytes → list_any is_line_feed bytes ≡ false
no_feed_in bytes h =
    list_any_none is_line_feed bytes (λ k d l. let other : get_or bytes k d ≢ 10 = h k d l in grind (arith, nat_tests))

feed_in : (line rest : List ℕ) → list_any is_line_feed (line ++ 10 ∷ rest) ≡ true
feed_in [] rest = refl
feed_in (byte ∷ line) rest = rw (feed_in line rest) (grind (arith, nat_tests))

whole_part-none : (bytes : List ℕ) → All (λ byte. byte ≢ 10) bytes → whole_part bytes ≡ []
whole_part-none [] h = refl
whole_part-none (byte ∷ bytes) h =
    let none = no_feed_in (byte ∷ bytes) h in
    rw none refl

whole_part-line : (line rest : List ℕ) → whole_part (line ++ 10 ∷ rest) ≡ line ++ 10 ∷ whole_part rest
whole_part-line [] rest = refl
whole_part-line (byte ∷ line) rest =
    let some = feed_in (byte ∷ line) rest in
    rw some (ap (λ bytes. byte ∷ bytes) (whole_part-line line rest))

regroup : (line rest : List ℕ) → line ++ 10 ∷ rest ≡ (line ++ 10 ∷ []) ++ rest
regroup line rest = simp append_assoc

whole_part-read : (lines : List (List ℕ)) (bytes : List ℕ) → All (λ byte. byte ≢ 10) bytes → whole_part (whole_lines lines ++ bytes) ≡ whole_lines lines
whole_part-read [] bytes h = whole_part-none bytes h
whole_part-read (line ∷ lines) bytes h =
    ap whole_part (joined line lines bytes) ∙ whole_part-line line (whole_lines lines ++ bytes)
    ∙ ap (λ s. line ++ 10 ∷ s) (whole_part-read lines bytes h) ∙ regroup line (whole_lines lines)

-- where a source tells what it has left, it tells it after it gave a part

told_part : (before left : Option (List ℕ)) (part rest : List ℕ) → before ≡ Some rest → GivesPart before left part → (now : List ℕ) × (left ≡ Some now) × (rest ≡ part ++ now)
told_part before None part rest told given = absurd (cc)
told_part before (Some now) part rest told given = (now, refl, cc)

pub told_before : (held : List ℕ) (before : Option (List ℕ)) (rest : List ℕ) → option_map (λ left. held ++ left) before ≡ Some rest → (left : List ℕ) × (before ≡ Some left) × (rest ≡ held ++ left)
told_before held None rest e = absurd (cc)
told_before held (Some left) rest e = (left, refl, cc)

-- what is left after a part was given, where the stream is told
told_after : {stream : List ℕ} {reader : Reading} {before left : Option (List ℕ)} {lines : List (List ℕ)} (h : HasRead stream reader before lines) (part : List ℕ) → GivesPart before left part
    → (now : List ℕ) × (left ≡ Some now) × (h.rest ≡ reader.held ++ (part ++ now))
told_after {stream} {reader} {before} {left} {lines} h part given =
    let was = told_before reader.held before h.rest h.coming in
    let now = told_part before left part was.0 was.1 given in
    (now.0, now.1, was.2 ∙ ap (λ s. reader.held ++ s) now.2)

-- the bodies of the lines that were read
pub among_read : {stream : List ℕ} {reader : Reading} {left : Option (List ℕ)} {lines : List (List ℕ)} → HasRead stream reader left lines → AreAmong (length lines) stream (bodies_of lines)
among_read {stream} {reader} {left} {lines} h = record {
  bodies_are = sym (ap (λ ls. bodies_of (take (length lines) ls)) (lines_of-stream h) ∙ ap bodies_of (take-append_seam lines (lines_of h.rest)));
  none_too_long = h.none_too_long;
}

-- these lines were read, also where more was read ahead of them
pub are_read : {stream : List ℕ} {reader : Reading} {left : Option (List ℕ)} {lines : List (List ℕ)} (h : HasRead stream reader left lines) (ahead now : List ℕ) → h.rest ≡ ahead ++ now
    → AreRead (length lines) stream now (bodies_of lines)
are_read {stream} {reader} {left} {lines} h ahead now rest = record {
  read = whole_lines lines ++ ahead;
  stream_is = h.stream_is ∙ ap (λ s. whole_lines lines ++ s) rest ∙ sym (append_assoc (whole_lines lines) ahead now);
  within = omega (arith, size_before h, h.consumed, length-append (whole_lines lines) ahead);
  among = among_read h;
}

-- the endings

pub stops_at_end : {stream : List ℕ} {old new : Reading} {before left : Option (List ℕ)} {lines : List (List ℕ)} → HasRead stream old before lines → IsAtEnd old new before left → StopsReading ending.Done stream left lines
stops_at_end {stream} {old} {new} {before} {left} {lines} h e =
    let was = told_before old.held before h.rest h.coming in
    let none : was.0 ≡ [] = subst (λ b. IfSome b (λ rest. rest ≡ [])) was.1 e.none_left in
    let rest : h.rest ≡ [] = was.2 ∙ ap (λ s. s ++ was.0) e.none_held ∙ none in
    let all : lines_of stream ≡ lines = lines_of-stream h ∙ ap (λ s. lines ++ lines_of s) rest ∙ append-nil lines in record {
      left = [];
      left_is = e.left ∙ was.1 ∙ ap Some none;
      takes_in = (sym (ap bodies_of all), refl, subst (λ (ls : List (List ℕ)). NoneTooLong (length ls) stream) (sym all) h.none_too_long);
    }

parted : (front held part now : List ℕ) → front ++ (held ++ (part ++ now)) ≡ (front ++ (held ++ part)) ++ now
parted front held part now = simp append_assoc

pub stops_failed : {stream : List ℕ} {old new : Reading} {before left : Option (List ℕ)} {lines : List (List ℕ)} → HasRead stream old before lines → StopsInLine old new before left
    → StopsReading ending.ReadFault stream left lines
stops_failed {stream} {old} {new} {before} {left} {lines} h s =
    let now = told_after h s.part s.given in
    let read = whole_lines lines ++ (old.held ++ s.part) in
    let front : whole_part read ≡ whole_lines lines = whole_part-read lines (old.held ++ s.part) s.no_line_feed in
    let lines_are : lines_of (whole_lines lines ++ []) ≡ lines ++ [] = lines_of-read lines [] h.no_feeds in
    let all : lines_of (whole_part read) ≡ lines = ap lines_of front ∙ ap lines_of (sym (append-nil (whole_lines lines))) ∙ lines_are ∙ append-nil lines in record {
      left = now.0;
      left_is = now.1;
      takes_in = (
        read,
        h.stream_is ∙ ap (λ t. whole_lines lines ++ t) now.2 ∙ parted (whole_lines lines) old.held s.part now.0,
        sym (ap bodies_of all),
        subst (λ (ls : List (List ℕ)). NoneTooLong (length ls) stream) (sym all) h.none_too_long,
      );
    }

pub stops_too_long : {stream : List ℕ} {old : Reading} {before left : Option (List ℕ)} {lines : List (List ℕ)} (number : ℕ) (part : List ℕ) → HasRead stream old before lines → number ≡ old.lines + 1
    → IfSome (stream_of old before) (IsTooLong old.consumed) → GivesPart before left part → StopsReading (ending.TooLong number) stream left lines
stops_too_long {stream} {old} {before} {left} {lines} number part h counted long given =
    let now = told_after h part given in
    let here : IsTooLong old.consumed h.rest = subst (λ s. IfSome s (IsTooLong old.consumed)) h.coming long in record {
      left = now.0;
      left_is = now.1;
      takes_in = (
        length lines,
        omega (arith, counted, h.count),
        rw (size_before h, rest_after h) here,
        are_read h (old.held ++ part) now.0 (now.2 ∙ sym (append_assoc old.held part now.0)),
      );
    }

pub stops_no_memory : {stream : List ℕ} {old : Reading} {before left : Option (List ℕ)} {lines : List (List ℕ)} (part : List ℕ) → HasRead stream old before lines → GivesPart before left part
    → StopsReading ending.NoMemory stream left lines
stops_no_memory {stream} {old} {before} {left} {lines} part h given =
    let now = told_after h part given in record {
      left = now.0;
      left_is = now.1;
      takes_in = (length lines, are_read h (old.held ++ part) now.0 (now.2 ∙ sym (append_assoc old.held part now.0)));
    }

-- by what the reader says
pub stops_by_fault : {stream : List ℕ} {old new : Reading} {before left : Option (List ℕ)} {lines : List (List ℕ)} (f : LineFault) (why : Ending) (part : List ℕ) → HasRead stream old before lines → GivesPart before left part
    → (f ≡ fault.Failed → why ≡ ending.ReadFault) → ((n : ℕ) → f ≡ fault.TooLong n → why ≡ ending.TooLong n) → (f ≡ fault.NoMemory → why ≡ ending.NoMemory)
    → (f ≡ fault.Failed → StopsInLine old new before left) → ((n : ℕ) → f ≡ fault.TooLong n → n ≡ old.lines + 1) → ((n : ℕ) → f ≡ fault.TooLong n → IfSome (stream_of old before) (IsTooLong old.consumed))
    → StopsReading why stream left lines
stops_by_fault {stream} {old} {new} {before} {left} {lines} fault.Failed why part h given failed too_long no_memory within number long =
    subst (λ w. StopsReading w stream left lines) (sym (failed refl)) (stops_failed h (within refl))
stops_by_fault {stream} {old} {new} {before} {left} {lines} (fault.TooLong n) why part h given failed too_long no_memory within number long =
    subst (λ w. StopsReading w stream left lines) (sym (too_long n refl)) (stops_too_long n part h (number n refl) (long n refl) given)
stops_by_fault {stream} {old} {new} {before} {left} {lines} fault.NoMemory why part h given failed too_long no_memory within number long =
    subst (λ w. StopsReading w stream left lines) (sym (no_memory refl)) (stops_no_memory part h given)
