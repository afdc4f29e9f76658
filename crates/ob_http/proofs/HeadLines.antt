-- The lines of a request: as many with text follow the first as the request has fields.
use Rattle.std.proofs.Common.{◌≡◌, ℕ, zero, suc, ◌+◌, ◌-◌, ◌≤◌, nat_lt, Bool, true, false, not, cond, IsTrue, Option, Some, None, refl, sym, ap, ◌∙◌, arith, eqb-true}
use Rattle.std.proofs.Common.{List, [], ◌∷◌, ◌++◌, map, length, take, drop, get_or, append_assoc, length-append, codes, length-take-le}
use Rattle.std.specs.Bool.{◌==◌}
use Rattle.std.specs.List.{All, slice_split, prefix_len, flat_map, slice_index}
use Rattle.std.proofs.lemmas.List.Elements.{All-head, All-tail, All-append, All-cons, All-nil, All-weaker}
use Rattle.std.proofs.lemmas.List.Sums.{AllPass-from_list_all}
use Rattle.std.proofs.lemmas.List.Splits.{slice_split_at, length-slice_split}
use Rattle.std.proofs.lemmas.List.{length-map}
use Rattle.std.proofs.Math.Seq.{drop-append_seam}
use Rattle.httparse.specs.Grammar.{AllPass, is_token_byte, is_value_byte, is_uri_byte, LineEnd, crlf, lf, print_end, print_blank, print_version, Field, IsField, print_field, print_section, RequestHead, IsRequestHead, ReadsRequest}
use Rattle.httparse.proofs.GrammarLemmas.{print_request-append}
use Rattle.ob_http.specs.Lines.{ends_line, ended_lines, line_text, is_empty_line, size_with_feeds}
use Rattle.ob_http.specs.Head.{Head, head_in, head_of}

-- no line feed is among the bytes
abbrev HasNoFeed : List ℕ → Type 0
HasNoFeed bytes = All (λ b. ends_line b ≡ false) bytes

-- a line and its line feed are the first ended line
ended_first : (line rest : List ℕ) → HasNoFeed line → ended_lines (line ++ 10 ∷ rest) ≡ line ∷ ended_lines rest
ended_first line rest none =
    let parts = slice_split ends_line rest in
    let some : suc (length parts) - 1 ≡ suc (length parts - 1) = omega (arith, length-slice_split ends_line rest) in
    ap (λ ps. take (length ps - 1) ps) (slice_split_at ends_line line 10 rest none refl) ∙ ap (λ n. take n (line ∷ parts)) some

-- bytes that pass a test that a line feed does not
no_feed : (test : ℕ → Bool) (bytes : List ℕ) → test 10 ≡ false → AllPass test bytes → HasNoFeed bytes
no_feed test bytes refuses all = All-weaker (λ b. IsTrue (test b)) (λ b. ends_line b ≡ false) (λ b pass. at b pass (ends_line b) refl) bytes all
  where
    at : (b : ℕ) → test b ≡ true → (t : Bool) → ends_line b ≡ t → ends_line b ≡ false
    at b pass true e = let same : b ≡ 10 = eqb-true b 10 e in let clash : true ≡ false = sym pass ∙ ap test same ∙ refuses in absurd (cc)
    at b pass false e = e

-- what of a line end stands before the line feed
end_text : LineEnd → List ℕ
end_text crlf = 13 ∷ []
end_text lf = []

no_feed_in_end : (end : LineEnd) → HasNoFeed (end_text end)
unfolding end_text
no_feed_in_end crlf = All-cons (λ b. ends_line b ≡ false) 13 [] refl (All-nil (λ b. ends_line b ≡ false))
no_feed_in_end lf = All-nil (λ b. ends_line b ≡ false)

end_parts : (end : LineEnd) → print_end end ≡ end_text end ++ 10 ∷ []
unfolding end_text
end_parts crlf = refl
end_parts lf = refl

-- a text and a line end are the first ended line
ended_text : (text : List ℕ) (end : LineEnd) (rest : List ℕ) → HasNoFeed text
    → ended_lines (text ++ (print_end end ++ rest)) ≡ (text ++ end_text end) ∷ ended_lines rest
ended_text text end rest none =
    let parts : text ++ (print_end end ++ rest) ≡ (text ++ end_text end) ++ 10 ∷ rest = ap (λ e. text ++ (e ++ rest)) (end_parts end) ∙ regroup text (end_text end) rest in
    ap ended_lines parts ∙ ended_first (text ++ end_text end) rest (All-append (λ b. ends_line b ≡ false) text (end_text end) none (no_feed_in_end end))
  where
    regroup : (a b r : List ℕ) → a ++ ((b ++ 10 ∷ []) ++ r) ≡ (a ++ b) ++ 10 ∷ r
    regroup a b r = ap (λ l. a ++ l) (append_assoc b (10 ∷ []) r) ∙ sym (append_assoc a b (10 ∷ r))

-- the line of a field, and of a request's first line
field_text : Field → List ℕ
field_text f = f.name ++ 58 ∷ f.raw

request_text : RequestHead → List ℕ
request_text h = h.method ++ 32 ∷ (h.target ++ 32 ∷ print_version h.minor)

feed_no_token : is_token_byte 10 ≡ false
unfolding is_token_byte
feed_no_token = refl

no_feed_in_field : (f : Field) → IsField f → HasNoFeed (field_text f)
unfolding field_text
no_feed_in_field f is =
    let P : ℕ → Type 0 = λ b. ends_line b ≡ false in
    All-append P f.name (58 ∷ f.raw) (no_feed is_token_byte f.name feed_no_token is.name.1) (All-cons P 58 f.raw refl (no_feed is_value_byte f.raw refl is.raw))

digit_no_feed : (n : ℕ) → ends_line (48 + n) ≡ false
digit_no_feed n = at (ends_line (48 + n)) refl
  where
    at : (t : Bool) → ends_line (48 + n) ≡ t → ends_line (48 + n) ≡ false
    at true e = let same = eqb-true (48 + n) 10 e in absurd (omega arith)
    at false e = e

no_feed_in_codes : Unit {0} → HasNoFeed (codes "HTTP/1.")
no_feed_in_codes u = no_feed (λ b. not (ends_line b)) (codes "HTTP/1.") refl (AllPass-from_list_all (λ b. not (ends_line b)) (codes "HTTP/1.") refl)

no_feed_in_request : (h : RequestHead) → IsRequestHead h → HasNoFeed (request_text h)
unfolding request_text
no_feed_in_request h is =
    let P : ℕ → Type 0 = λ b. ends_line b ≡ false in
    let version = All-append P (codes "HTTP/1.") ((48 + h.minor) ∷ []) (no_feed_in_codes tt) (All-cons P (48 + h.minor) [] (digit_no_feed h.minor) (All-nil P)) in
    All-append P h.method (32 ∷ (h.target ++ 32 ∷ print_version h.minor)) (no_feed is_token_byte h.method feed_no_token is.method.1)
    (All-cons P 32 (h.target ++ 32 ∷ print_version h.minor) refl
    (All-append P h.target (32 ∷ print_version h.minor) (no_feed is_uri_byte h.target refl is.target.1) (All-cons P 32 (print_version h.minor) refl version)))

not_zero : (n : ℕ) → 1 ≤ n → (n == 0) ≡ false
not_zero zero some = absurd (omega arith)
not_zero (suc n) some = at (suc n == 0) refl
  where
    at : (t : Bool) → (suc n == 0) ≡ t → (suc n == 0) ≡ false
    at true e = let same = eqb-true (suc n) 0 e in absurd (omega arith)
    at false e = e

-- a line of two bytes or more has text
has_text : (line : List ℕ) → 2 ≤ length line → is_empty_line line ≡ false
has_text line long = at (slice_index line (length line - 1) == 13)
  where
    at : (t : Bool) → (length (cond t (take (length line - 1) line) line) == 0) ≡ false
    at true = not_zero (length (take (length line - 1) line)) (omega (arith, length-take-le (length line - 1) line (omega arith)))
    at false = not_zero (length line) (omega arith)

ended_blanks : (ends : List LineEnd) (rest : List ℕ) → ended_lines (print_blank ends ++ rest) ≡ map end_text ends ++ ended_lines rest
ended_blanks [] rest = refl
ended_blanks (end ∷ ends) rest =
    ap ended_lines (append_assoc (print_end end) (print_blank ends) rest)
    ∙ ended_text [] end (print_blank ends ++ rest) (All-nil (λ b. ends_line b ≡ false))
    ∙ ap (λ lines. end_text end ∷ lines) (ended_blanks ends rest)

-- the line of a field with what of its end stands before the line feed
field_line : Field → List ℕ
field_line f = field_text f ++ end_text f.end

long_field : (f : Field) → IsField f → 2 ≤ length (field_line f)
unfolding field_line field_text
long_field f is = omega (arith, is.name.0, length-append f.name (58 ∷ f.raw), length-append (f.name ++ 58 ∷ f.raw) (end_text f.end))

long_request : (h : RequestHead) → IsRequestHead h → 2 ≤ length (request_text h ++ end_text h.line_end)
unfolding request_text
long_request h is = omega (
  arith,
  is.method.0,
  length-append h.method (32 ∷ (h.target ++ 32 ∷ print_version h.minor)),
  length-append (h.method ++ 32 ∷ (h.target ++ 32 ∷ print_version h.minor)) (end_text h.line_end),
)

ended_fields : (fields : List Field) (rest : List ℕ) → All IsField fields → ended_lines (flat_map print_field fields ++ rest) ≡ map field_line fields ++ ended_lines rest
unfolding field_line field_text
ended_fields [] rest all = refl
ended_fields (f ∷ fields) rest all =
    ap ended_lines (append_assoc (print_field f) (flat_map print_field fields) rest ∙ append_assoc (field_text f) (print_end f.end) (flat_map print_field fields ++ rest))
    ∙ ended_text (field_text f) f.end (flat_map print_field fields ++ rest) (no_feed_in_field f (All-head IsField f fields all))
    ∙ ap (λ lines. field_line f ∷ lines) (ended_fields fields rest (All-tail IsField f fields all))

-- the lines of a request
lines_of : RequestHead → List (List ℕ)
lines_of h = map end_text h.blank ++ ((request_text h ++ end_text h.line_end) ∷ (map field_line h.fields ++ (end_text h.last ∷ [])))

request_first : (h : RequestHead) (rest : List ℕ) → h.method ++ 32 ∷ (h.target ++ 32 ∷ (print_version h.minor ++ rest)) ≡ request_text h ++ rest
unfolding request_text
request_first h rest = regroup h.method h.target (print_version h.minor) rest
  where
    regroup : (a b v r : List ℕ) → a ++ 32 ∷ (b ++ 32 ∷ (v ++ r)) ≡ (a ++ 32 ∷ (b ++ 32 ∷ v)) ++ r
    regroup a b v r = sym (append_assoc a (32 ∷ (b ++ 32 ∷ v)) r ∙ ap (λ l. a ++ 32 ∷ l) (append_assoc b (32 ∷ v) r))

request_lines : (bytes : List ℕ) (h : RequestHead) → ReadsRequest bytes h [] → ended_lines bytes ≡ lines_of h
unfolding lines_of
request_lines bytes h is =
    let section = print_section h.fields h.last ++ [] in
    let first = request_text h ++ (print_end h.line_end ++ section) in
    let ended : ended_lines section ≡ map field_line h.fields ++ (end_text h.last ∷ [])
    = ap ended_lines (append_assoc (flat_map print_field h.fields) (print_end h.last) [])
    ∙ ended_fields h.fields (print_end h.last ++ []) is.0.fields
    ∙ ap (λ lines. map field_line h.fields ++ lines) (ended_text [] h.last [] (All-nil (λ b. ends_line b ≡ false))) in
    ap ended_lines (is.1 ∙ print_request-append h [] ∙ ap (λ l. print_blank h.blank ++ l) (request_first h (print_end h.line_end ++ section)))
    ∙ ended_blanks h.blank first
    ∙ ap (λ lines. map end_text h.blank ++ lines) (ended_text (request_text h) h.line_end section (no_feed_in_request h is.0) ∙ ap (λ lines. (request_text h ++ end_text h.line_end) ∷ lines) ended)

-- how many empty lines stand before a line with text
blanks_before : (ends : List LineEnd) (line : List ℕ) (rest : List (List ℕ)) → is_empty_line line ≡ false
    → prefix_len is_empty_line (map end_text ends ++ (line ∷ rest)) ≡ length ends
unfolding end_text
blanks_before [] line rest text = ap (λ t. cond t (1 + prefix_len is_empty_line rest) 0) text
blanks_before (crlf ∷ ends) line rest text = ap (λ n. 1 + n) (blanks_before ends line rest text) ∙ omega arith
blanks_before (lf ∷ ends) line rest text = ap (λ n. 1 + n) (blanks_before ends line rest text) ∙ omega arith

-- how many lines of fields stand before the empty one
fields_before : (fields : List Field) (last : LineEnd) → All IsField fields
    → prefix_len (λ line. not (is_empty_line line)) (map field_line fields ++ (end_text last ∷ [])) ≡ length fields
unfolding end_text
fields_before [] crlf all = refl
fields_before [] lf all = refl
fields_before (f ∷ fields) last all =
    let text = has_text (field_line f) (long_field f (All-head IsField f fields all)) in
    ap (λ t. cond (not t) (1 + prefix_len (λ line. not (is_empty_line line)) (map field_line fields ++ (end_text last ∷ []))) 0) text
    ∙ ap (λ n. 1 + n) (fields_before fields last (All-tail IsField f fields all)) ∙ omega arith

fields_or : ℕ → Option Head → ℕ
fields_or n None = n
fields_or n (Some head) = head.fields

-- how many lines with text stand at the front
abbrev texts_of : List (List ℕ) → ℕ
texts_of lines = prefix_len (λ line. not (is_empty_line line)) lines

-- the fields of a head are its lines with text but the first
counted : (lines : List (List ℕ)) (known : Head) → head_in lines ≡ Some known
    → known.fields ≡ texts_of (drop (prefix_len is_empty_line lines) lines) - 1
unfolding fields_or
counted lines known is = at (nat_lt (prefix_len is_empty_line lines + texts_of (drop (prefix_len is_empty_line lines) lines)) (length lines)) is
  where
    at : (b : Bool) → cond b (Some (record {
      line = line_text (get_or lines (prefix_len is_empty_line lines) []);
      fields = texts_of (drop (prefix_len is_empty_line lines) lines) - 1;
      size = size_with_feeds (take (prefix_len is_empty_line lines + texts_of (drop (prefix_len is_empty_line lines) lines) + 1) lines);
    })) None ≡ Some known → known.fields ≡ texts_of (drop (prefix_len is_empty_line lines) lines) - 1
    at true e = sym (ap (fields_or 0) e)
    at false e = absurd (cc)

pub as_many_fields : (bytes : List ℕ) (known : Head) (h : RequestHead) → head_of bytes ≡ Some known → ReadsRequest bytes h [] → length h.fields ≡ known.fields
unfolding lines_of
as_many_fields bytes known h head_is reads =
    let first = request_text h ++ end_text h.line_end in
    let rest = map field_line h.fields ++ (end_text h.last ∷ []) in
    let blanks = map end_text h.blank in
    let text : is_empty_line first ≡ false = has_text first (long_request h reads.0) in
    let lines : ended_lines bytes ≡ blanks ++ (first ∷ rest) = request_lines bytes h reads in
    let blank : prefix_len is_empty_line (blanks ++ (first ∷ rest)) ≡ length blanks = blanks_before h.blank first rest text ∙ sym (length-map h.blank end_text) in
    let later : drop (prefix_len is_empty_line (blanks ++ (first ∷ rest))) (blanks ++ (first ∷ rest)) ≡ first ∷ rest
    = ap (λ n. drop n (blanks ++ (first ∷ rest))) blank ∙ drop-append_seam blanks (first ∷ rest) in
    let texts : texts_of (first ∷ rest) ≡ 1 + length h.fields = ap (λ t. cond (not t) (1 + texts_of rest) 0) text ∙ ap (λ n. 1 + n) (fields_before h.fields h.last reads.0.fields) in
    let all : known.fields ≡ 1 + length h.fields - 1
    = counted (ended_lines bytes) known head_is ∙ ap (λ l. texts_of (drop (prefix_len is_empty_line l) l) - 1) lines ∙ ap (λ l. texts_of l - 1) later ∙ ap (λ n. n - 1) texts in
    omega arith
