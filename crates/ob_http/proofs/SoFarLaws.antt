-- One more line of a head, over plain values.
use Rattle.std.proofs.Common.{◌≡◌, ℕ, ◌+◌, ◌-◌, ◌<◌, ◌≤◌, Bool, true, false, cond, eqb, List, [], ◌∷◌, ◌++◌, length, take, drop, get_or, refl, sym, ap, ◌∙◌, subst, arith, append_assoc, length-append, inl, inr, Option, Some, None}
use Rattle.std.specs.Prelude.{All, not, slice_index}
use Rattle.std.proofs.lemmas.Bool.{eqb-true, eq-eqb, ne_eqb, cases_lt, false_from_ne_true}
use Rattle.std.proofs.lemmas.List.{append-nil, take_all, take_more, length-take, length-take-le, length-drop, length_push, drop_at, drop-append-le, take-append-le, take-append-drop, get_or-take, get_or-drop, get_or_append_left}
use Rattle.std.proofs.lemmas.List.Elements.{All-nil, All-push, All-from_get_or}
use Rattle.std.proofs.Math.Seq.{take-add}
use Rattle.memchr.specs.Find.{NoneBefore, Nowhere, Passes, is_byte}
use Rattle.ob_http.specs.Lines.{ends_line, ended_lines, line_text, is_empty_line, size_with_feeds}
use Rattle.ob_http.specs.Head.{head_in, head_of}
use Rattle.ob_http.specs.SoFar.{IsOpen, NoFeed, lines_with_feeds, HasCome, IsSoFar, IsNextFeed}
use Rattle.ob_http.specs.Front.{BeginsWithHead}
use Rattle.ob_http.specs.declared.lines.LinesSoFar.{LinesSoFar}
use Rattle.ob_http.proofs.LineLaws.{ended_whole, lines_with_feeds-append, length-lines_with_feeds}
use Rattle.ob_http.proofs.HeadLaws.{is_full_line, head_found, no_head_blank, no_head_open}

-- the text of a line

text_when : (ends : Bool) (line : List ℕ) → (length (cond ends (take (length line - 1) line) line) ≤ length line)
    × (take (length (cond ends (take (length line - 1) line) line)) line ≡ cond ends (take (length line - 1) line) line)
text_when true line =
    let count = length-take-le (length line - 1) line (omega arith) in
    (omega (arith, count), ap (λ n. take n line) count)
text_when false line = (omega arith, take_all (length line) line (omega arith))

-- the text stands at the front of its line
pub text_front : (line : List ℕ) → (length (line_text line) ≤ length line) × (take (length (line_text line)) line ≡ line_text line)
text_front line = text_when (eqb (slice_index line (length line - 1)) 13) line

pub empty_line : (line : List ℕ) → length (line_text line) ≡ 0 → is_empty_line line ≡ true
empty_line line none = eq-eqb (length (line_text line)) 0 none

pub full_line : (line : List ℕ) → 0 < length (line_text line) → is_empty_line line ≡ false
full_line line some = ne_eqb (length (line_text line)) 0 (λ e. absurd (omega arith))

-- the next line

two_parts : (a b : ℕ) → a ≤ b → b ≡ a + (b - a)
two_parts a b l = omega arith

-- the bytes of a line from its start up to its end
abbrev pub line_at : List ℕ → ℕ → ℕ → List ℕ
line_at bytes start end = take (end - start) (drop start bytes)

no_feed_through : (bytes : List ℕ) (from mid to : ℕ) → NoFeed bytes from mid → NoFeed bytes mid to → NoFeed bytes from to
no_feed_through bytes from mid to first second k low high =
    elim (cases_lt k mid) [ inl less ↦ first k low less | inr past ↦ second k past high ]

open_between : (bytes : List ℕ) (from to : ℕ) → NoFeed bytes from to → IsOpen (line_at bytes from to)
open_between bytes from to none =
    All-from_get_or (λ b. ends_line b ≡ false) (line_at bytes from to) 0 (λ i l.
    let count = length-take (to - from) (drop from bytes) in
    let at : get_or (line_at bytes from to) i 0 ≡ get_or bytes (from + i) 0 = get_or-take (to - from) (drop from bytes) i 0 (omega (arith, count)) ∙ get_or-drop from bytes i 0 in
    ap ends_line at ∙ none (from + i) (omega arith) (omega (arith, count)))

-- the lines up to and with the next one
pub record HasNext (bytes : List ℕ) (lines : List (List ℕ)) (start end : ℕ) : Type 0 where
  pub starts : length (lines_with_feeds lines) ≡ start
  pub front : take (end + 1) bytes ≡ lines_with_feeds (lines ++ line_at bytes start end ∷ [])
  pub whole : lines_with_feeds (lines ++ line_at bytes start end ∷ []) ≡ lines_with_feeds lines ++ (line_at bytes start end ++ 10 ∷ [])
  pub lines_open : All IsOpen (lines ++ line_at bytes start end ∷ [])
  pub length_is : length (line_at bytes start end) ≡ end - start

pub has_next : {bytes : List ℕ} {s : LinesSoFar} {end : ℕ} (h : IsSoFar bytes s) → IsNextFeed bytes s.searched end → HasNext bytes h.lines s.start end
has_next {bytes} {s} {end} h feed =
    let line = line_at bytes s.start end in
    let after : s.start ≤ end = omega (arith, h.start, feed.after) in
    let whole : lines_with_feeds (h.lines ++ line ∷ []) ≡ lines_with_feeds h.lines ++ (line ++ 10 ∷ []) = lines_with_feeds-append h.lines (line ∷ []) in
    let more : take (end + 1) bytes ≡ take end bytes ++ get_or bytes end 0 ∷ [] = take_more bytes end 0 feed.within in
    let split : take end bytes ≡ take s.start bytes ++ line = ap (λ n. take n bytes) (two_parts s.start end after) ∙ take-add s.start (end - s.start) bytes in
    let byte : get_or bytes end 0 ≡ 10 = eqb-true (get_or bytes end 0) 10 feed.feed in
    record {
      starts = sym (ap length h.front) ∙ length-take-le s.start bytes (omega (arith, feed.within));
      front = more ∙ ap (λ b. take end bytes ++ b ∷ []) byte ∙ ap (λ bs. bs ++ 10 ∷ []) (split ∙ ap (λ bs. bs ++ line) h.front) ∙ append_assoc (lines_with_feeds h.lines) line (10 ∷ []) ∙ sym whole;
      whole = whole;
      lines_open = All-push IsOpen h.lines line h.lines_open (open_between bytes s.start end (no_feed_through bytes s.start s.searched end h.no_feed feed.before));
      length_is = omega (arith, length-take (end - s.start) (drop s.start bytes), length-drop s.start bytes, feed.within);
    }

-- the lines with the next one have come
pub so_far_more : {bytes : List ℕ} {s : LinesSoFar} {end : ℕ} (h : IsSoFar bytes s) → IsNextFeed bytes s.searched end → (line : Option (ℕ × ℕ)) (fields : ℕ)
    → HasCome (h.lines ++ line_at bytes s.start end ∷ []) line fields → IsSoFar bytes (record { start = end + 1; searched = end + 1; line = line; fields = fields })
so_far_more {bytes} {s} {end} h feed line fields come =
    let next = has_next h feed in
    let last : end + 1 - 1 ≡ end = omega arith in record {
      lines = h.lines ++ line_at bytes s.start end ∷ [];
      lines_open = next.lines_open;
      front = next.front;
      start = omega arith;
      searched = omega (arith, feed.within);
      no_feed = λ k low high. absurd (omega arith);
      feed_before = λ some. ap (λ n. ends_line (get_or bytes n 0)) last ∙ feed.feed;
      come = come;
    }

-- what has come, with one more line

come_blank : (lines : List (List ℕ)) (line : List ℕ) (fields : ℕ) → HasCome lines None fields → length (line_text line) ≡ 0 → HasCome (lines ++ line ∷ []) None fields
come_blank lines line fields come none = (All-push (λ l. is_empty_line l ≡ true) lines line come.0 (empty_line line none), come.1)

come_first : (lines : List (List ℕ)) (line : List ℕ) (fields start len : ℕ) → HasCome lines None fields → len ≡ length (line_text line) → 0 < len → length (lines_with_feeds lines) ≡ start
    → HasCome (lines ++ line ∷ []) (Some (start, start + len)) fields
come_first lines line fields start len come count some starts =
    let text = text_front line in
    let whole : lines_with_feeds (lines ++ line ∷ []) ≡ lines_with_feeds lines ++ (line ++ 10 ∷ []) = lines_with_feeds-append lines (line ∷ []) in
    let size : length (lines_with_feeds (lines ++ line ∷ [])) ≡ start + (length line + 1) = omega (arith, ap length whole, length-append (lines_with_feeds lines) (line ++ 10 ∷ []), length-append line (10 ∷ []), starts) in
    let span : start + len - start ≡ length (line_text line) = omega arith in record {
      blank = lines;
      text = line;
      rest = [];
      lines_are = refl;
      blank_empty = come.0;
      text_full = full_line line (omega arith);
      rest_full = All-nil (λ l. is_full_line l ≡ true);
      count = sym come.1;
      begins = omega arith;
      within = omega (arith, size, text.0);
      stands = ap (λ n. take n (drop start (lines_with_feeds (lines ++ line ∷ [])))) span
          ∙ ap (take (length (line_text line))) (ap (drop start) whole ∙ drop_at (lines_with_feeds lines) (line ++ 10 ∷ []) start starts)
          ∙ take-append-le (length (line_text line)) line (10 ∷ []) text.0 ∙ text.1;
    }

-- a span stands where it stood, whatever follows
span_stays : (bytes more : List ℕ) (from to : ℕ) → from ≤ to → to ≤ length bytes → take (to - from) (drop from (bytes ++ more)) ≡ take (to - from) (drop from bytes)
span_stays bytes more from to ordered within =
    ap (take (to - from)) (drop-append-le from bytes more (omega arith)) ∙ take-append-le (to - from) (drop from bytes) more (omega (arith, length-drop from bytes))

come_field : (lines : List (List ℕ)) (line : List ℕ) (fields : ℕ) (span : ℕ × ℕ) → HasCome lines (Some span) fields → 0 < length (line_text line) → HasCome (lines ++ line ∷ []) (Some span) (fields + 1)
come_field lines line fields span come some =
    let whole : lines_with_feeds (lines ++ line ∷ []) ≡ lines_with_feeds lines ++ (line ++ 10 ∷ []) = lines_with_feeds-append lines (line ∷ []) in record {
      blank = come.blank;
      text = come.text;
      rest = come.rest ++ line ∷ [];
      lines_are = ap (λ ls. ls ++ line ∷ []) come.lines_are ∙ append_assoc come.blank (come.text ∷ come.rest) (line ∷ []);
      blank_empty = come.blank_empty;
      text_full = come.text_full;
      rest_full = All-push (λ l. is_full_line l ≡ true) come.rest line come.rest_full (ap not (full_line line some));
      count = length_push come.rest line ∙ ap (λ n. n + 1) come.count;
      begins = come.begins;
      within = omega (arith, come.within, ap length whole, length-append (lines_with_feeds lines) (line ++ 10 ∷ []));
      stands = ap (λ bs. take (span.1 - span.0) (drop span.0 bs)) whole ∙ span_stays (lines_with_feeds lines) (line ++ 10 ∷ []) span.0 span.1 come.begins come.within ∙ come.stands;
    }

-- the four steps

pub blank_line : {bytes : List ℕ} {s : LinesSoFar} {end : ℕ} → IsSoFar bytes s → IsNextFeed bytes s.searched end → s.line ≡ None → length (line_text (line_at bytes s.start end)) ≡ 0
    → IsSoFar bytes (record { start = end + 1; searched = end + 1; line = s.line; fields = s.fields })
blank_line {bytes} {s} {end} h feed none empty =
    let come : HasCome h.lines None s.fields = subst (λ o. HasCome h.lines o s.fields) none h.come in
    so_far_more h feed s.line s.fields (subst (λ o. HasCome (h.lines ++ line_at bytes s.start end ∷ []) o s.fields) (sym none) (come_blank h.lines (line_at bytes s.start end) s.fields come empty))

pub request_line : {bytes : List ℕ} {s : LinesSoFar} {end : ℕ} (len : ℕ) → IsSoFar bytes s → IsNextFeed bytes s.searched end → s.line ≡ None → len ≡ length (line_text (line_at bytes s.start end)) → 0 < len
    → IsSoFar bytes (record { start = end + 1; searched = end + 1; line = Some (s.start, s.start + len); fields = s.fields })
request_line {bytes} {s} {end} len h feed none count some =
    let come : HasCome h.lines None s.fields = subst (λ o. HasCome h.lines o s.fields) none h.come in
    so_far_more h feed (Some (s.start, s.start + len)) s.fields (come_first h.lines (line_at bytes s.start end) s.fields s.start len come count some (has_next h feed).starts)

pub field_line : {bytes : List ℕ} {s : LinesSoFar} {end : ℕ} (span : ℕ × ℕ) → IsSoFar bytes s → IsNextFeed bytes s.searched end → s.line ≡ Some span → 0 < length (line_text (line_at bytes s.start end))
    → IsSoFar bytes (record { start = end + 1; searched = end + 1; line = s.line; fields = s.fields + 1 })
field_line {bytes} {s} {end} span h feed is some =
    let come : HasCome h.lines (Some span) s.fields = subst (λ o. HasCome h.lines o s.fields) is h.come in
    so_far_more h feed s.line (s.fields + 1) (subst (λ o. HasCome (h.lines ++ line_at bytes s.start end ∷ []) o (s.fields + 1)) (sym is) (come_field h.lines (line_at bytes s.start end) s.fields span come some))

pub last_line : {bytes : List ℕ} {s : LinesSoFar} {end : ℕ} (span : ℕ × ℕ) → IsSoFar bytes s → IsNextFeed bytes s.searched end → s.line ≡ Some span → length (line_text (line_at bytes s.start end)) ≡ 0
    → BeginsWithHead bytes (record { line = span; fields = s.fields; size = end + 1 })
last_line {bytes} {s} {end} span h feed is empty =
    let come : HasCome h.lines (Some span) s.fields = subst (λ o. HasCome h.lines o s.fields) is h.come in
    let line = line_at bytes s.start end in
    let lines = h.lines ++ line ∷ [] in
    let next = has_next h feed in
    let lines_are : lines ≡ (come.blank ++ come.text ∷ come.rest) ++ line ∷ [] = ap (λ ls. ls ++ line ∷ []) come.lines_are in
    let ended : ended_lines (take (end + 1) bytes) ≡ lines = ap ended_lines (next.front ∙ sym (append-nil (lines_with_feeds lines))) ∙ ended_whole lines [] next.lines_open (All-nil (λ b. ends_line b ≡ false)) in
    let count : length (take (end + 1) bytes) ≡ end + 1 = length-take-le (end + 1) bytes (omega (arith, feed.within)) in record {
      head = record { line = line_text come.text; fields = length come.rest; size = size_with_feeds ((come.blank ++ come.text ∷ come.rest) ++ line ∷ []) };
      within = omega (arith, feed.within);
      head_is = ap head_in (ended ∙ lines_are) ∙ head_found come.blank come.rest [] come.text line come.blank_empty come.text_full come.rest_full (empty_line line empty);
      stands = record {
        begins = come.begins;
        within = omega (arith, count, come.within, next.starts, h.start, feed.after);
        line = ap (λ bs. take (span.1 - span.0) (drop span.0 bs)) (next.front ∙ next.whole) ∙ span_stays (lines_with_feeds h.lines) (line ++ 10 ∷ []) span.0 span.1 come.begins come.within ∙ come.stands;
        fields = sym come.count;
        size = sym count ∙ ap length next.front ∙ length-lines_with_feeds lines ∙ ap size_with_feeds lines_are;
      };
    }

-- lines are no more than their bytes
lines-le-whole : (lines : List (List ℕ)) → length lines ≤ length (lines_with_feeds lines)
lines-le-whole [] = omega arith
lines-le-whole (line ∷ lines) = omega (arith, lines-le-whole lines, length-append line (10 ∷ lines_with_feeds lines))

-- there are fewer fields than bytes
pub few_fields : {bytes : List ℕ} {s : LinesSoFar} {end : ℕ} (span : ℕ × ℕ) → IsSoFar bytes s → IsNextFeed bytes s.searched end → s.line ≡ Some span → s.fields + 1 ≤ end
few_fields {bytes} {s} {end} span h feed is =
    let come : HasCome h.lines (Some span) s.fields = subst (λ o. HasCome h.lines o s.fields) is h.come in
    omega (arith, come.count, ap length come.lines_are, length-append come.blank (come.text ∷ come.rest), lines-le-whole h.lines, (has_next h feed).starts, h.start, feed.after)

-- the search for the next line feed

-- a byte that the search passed by
passed_by : (bytes hay : List ℕ) (from k : ℕ) → hay ≡ drop from bytes → from ≤ k → (Passes (is_byte 10) hay (k - from) → ⊥) → ends_line (slice_index bytes k) ≡ false
passed_by bytes hay from k is low other =
    let at : get_or bytes k 0 ≡ get_or hay (k - from) 0 = ap (λ n. get_or bytes n 0) (two_parts from k low) ∙ sym (get_or-drop from bytes (k - from) 0) ∙ ap (λ bs. get_or bs (k - from) 0) (sym is) in
    ap ends_line at ∙ false_from_ne_true (ends_line (get_or hay (k - from) 0)) other

pub next_feed : (bytes hay : List ℕ) (from offset : ℕ) → hay ≡ drop from bytes → NoneBefore (Passes (is_byte 10) hay) 0 (length hay) offset → Passes (is_byte 10) hay offset → IsNextFeed bytes from (from + offset)
next_feed bytes hay from offset is none found = record {
  after = omega arith;
  within = omega (arith, none.high, ap length is, length-drop from bytes);
  feed = ap ends_line (sym (get_or-drop from bytes offset 0) ∙ ap (λ bs. get_or bs offset 0) (sym is)) ∙ found;
  before = λ k low high. passed_by bytes hay from k is low (none.before (k - from) (omega arith) (omega arith));
}

pub no_next_feed : (bytes hay : List ℕ) (from : ℕ) → hay ≡ drop from bytes → Nowhere (Passes (is_byte 10) hay) 0 (length hay) → NoFeed bytes from (length bytes)
no_next_feed bytes hay from is none k low high =
    passed_by bytes hay from k is low (none (k - from) (omega arith) (omega (arith, ap length is, length-drop from bytes)))

-- all bytes were searched
pub so_far_all : {bytes : List ℕ} {s : LinesSoFar} → IsSoFar bytes s → NoFeed bytes s.searched (length bytes) → IsSoFar bytes (record s { searched = length bytes })
so_far_all {bytes} {s} h none = record {
  lines = h.lines;
  lines_open = h.lines_open;
  front = h.front;
  start = omega (arith, h.start, h.searched);
  searched = omega arith;
  no_feed = no_feed_through bytes s.start s.searched (length bytes) h.no_feed none;
  feed_before = h.feed_before;
  come = h.come;
}

-- what is not yet a head

no_head_come : (lines : List (List ℕ)) (line : Option (ℕ × ℕ)) (fields : ℕ) → HasCome lines line fields → head_in lines ≡ None
no_head_come lines None fields come = no_head_blank lines come.0
no_head_come lines (Some span) fields come = ap head_in come.lines_are ∙ no_head_open come.blank come.rest come.text come.blank_empty come.text_full come.rest_full

-- the lines that are ended are those that have come
pub ended_so_far : {bytes : List ℕ} {s : LinesSoFar} (h : IsSoFar bytes s) → NoFeed bytes s.start (length bytes) → ended_lines bytes ≡ h.lines
ended_so_far {bytes} {s} h none =
    let rest : line_at bytes s.start (length bytes) ≡ drop s.start bytes = take_all (length bytes - s.start) (drop s.start bytes) (omega (arith, length-drop s.start bytes)) in
    let bytes_are : bytes ≡ lines_with_feeds h.lines ++ drop s.start bytes = sym (take-append-drop s.start bytes) ∙ ap (λ bs. bs ++ drop s.start bytes) h.front in
    ap ended_lines bytes_are ∙ ended_whole h.lines (drop s.start bytes) h.lines_open (subst IsOpen rest (open_between bytes s.start (length bytes) none))

pub no_head_yet : {bytes : List ℕ} {s : LinesSoFar} → IsSoFar bytes s → s.searched ≡ length bytes → head_of bytes ≡ None
no_head_yet {bytes} {s} h all =
    ap head_in (ended_so_far h (subst (NoFeed bytes s.start) all h.no_feed)) ∙ no_head_come h.lines s.line s.fields h.come

-- at the start no line has come
pub so_far_none : (bytes : List ℕ) → IsSoFar bytes (record { start = 0; searched = 0; line = None; fields = 0 })
so_far_none bytes = record {
  lines = [];
  lines_open = All-nil IsOpen;
  front = refl;
  start = omega arith;
  searched = omega arith;
  no_feed = λ k low high. absurd (omega arith);
  feed_before = λ some. absurd (omega arith);
  come = (All-nil (λ l. is_empty_line l ≡ true), refl);
}

-- more bytes leave what has come
pub so_far_longer : {bytes : List ℕ} {s : LinesSoFar} (more : List ℕ) → IsSoFar bytes s → IsSoFar (bytes ++ more) s
so_far_longer {bytes} {s} more h =
    let within : s.start ≤ length bytes = omega (arith, h.start, h.searched) in record {
      lines = h.lines;
      lines_open = h.lines_open;
      front = take-append-le s.start bytes more within ∙ h.front;
      start = h.start;
      searched = omega (arith, h.searched, length-append bytes more);
      no_feed = λ k low high. ap ends_line (get_or_append_left bytes more 0 k (omega (arith, h.searched))) ∙ h.no_feed k low high;
      feed_before = λ some. ap ends_line (get_or_append_left bytes more 0 (s.start - 1) (omega arith)) ∙ h.feed_before some;
      come = h.come;
    }
