-- What a request says of its message, check by check.
use Rattle.std.proofs.Common.{◌≡◌, ℕ, ◌&&◌, nat_le, not, Bool, true, false, cond, List, [], map, Option, Some, None, Result, Ok, Err, refl, sym, ap, ◌∙◌, codes}
use Rattle.std.specs.Bool.{◌==◌}
use Rattle.std.specs.List.{list_any}
use Rattle.std.specs.Str.{bytes_eq, str_eq_ignore_ascii_case}
use Rattle.httparse.specs.declared.spans.HeaderSpan.{HeaderSpan}
use Rattle.httparse.specs.Grammar.{RequestHead}
use Rattle.httparse.specs.Spans.{header_bytes, name_and_value}
use Rattle.ob_base.specs.Chain.{◌>>=◌}
use Rattle.ob_base.specs.Limits.{max_line_bytes}
use Rattle.ob_http.specs.declared.head.Message.{Message}
use Rattle.ob_http.specs.Message.{message_of, path_of, has_header, values_of, same_number, keeps_open, expects_interim, or_status, number_or, lists_word}
use Rattle.ob_http.specs.Spans.{is_header_named, values_at, length_from}
use Rattle.ob_http.proofs.FieldSpans.{has_is, values_are, named_has_values, values_have_name}

-- the length that the fields of a request give
abbrev pub length_asked : RequestHead → Result ℕ ℕ
length_asked head = length_from (has_header (codes "content-length") head && not (has_header (codes "transfer-encoding") head)) (values_of (codes "content-length") head)

-- a message of this length, and what else the request says
abbrev pub message_with : RequestHead → ℕ → Message
message_with head length = record { length = length; keep = keeps_open head; interim = expects_interim head }

-- the length by what the checks find
abbrev length_by : Bool → Option ℕ → Result ℕ ℕ
length_by l n = do
  _ ← or_status 411 l
  length ← number_or 400 n
  _ ← or_status 413 (nat_le length max_line_bytes)
  Ok length

-- the message by what the checks find
abbrev pub message_by : RequestHead → Bool → Bool → Bool → Option ℕ → Result Message ℕ
message_by head p m l n = do
  _ ← or_status 404 p
  _ ← or_status 405 m
  _ ← or_status 411 l
  length ← number_or 400 n
  _ ← or_status 413 (nat_le length max_line_bytes)
  Ok (message_with head length)

pub message_is : (head : RequestHead) → message_of head
    ≡ message_by head (bytes_eq (path_of head) (codes "/jsonrpc")) (bytes_eq head.method (codes "POST"))
    (has_header (codes "content-length") head && not (has_header (codes "transfer-encoding") head)) (same_number (values_of (codes "content-length") head))
unfolding message_of
message_is head = refl

chained : (head : RequestHead) (l : Bool) (n : Option ℕ) → message_by head true true l n ≡ (length_by l n >>= (λ length. Ok (message_with head length)))
chained head false n = refl
chained head true None = refl
chained head true (Some n) = at (nat_le n max_line_bytes)
  where
    last : Bool → Result Message ℕ
    last b = or_status 413 b >>= (λ _. Ok (message_with head n))

    whole : Bool → Result Message ℕ
    whole b = (or_status 413 b >>= (λ _. Ok n)) >>= (λ length. Ok (message_with head length))

    at : (b : Bool) → last b ≡ whole b
    at true = refl
    at false = refl

pub elsewhere : (head : RequestHead) → bytes_eq (path_of head) (codes "/jsonrpc") ≡ false → message_of head ≡ Err 404
elsewhere head other =
    message_is head ∙ ap (λ p. message_by head p (bytes_eq head.method (codes "POST"))
    (has_header (codes "content-length") head && not (has_header (codes "transfer-encoding") head)) (same_number (values_of (codes "content-length") head))) other

pub not_posted : (head : RequestHead) → bytes_eq (path_of head) (codes "/jsonrpc") ≡ true → bytes_eq head.method (codes "POST") ≡ false → message_of head ≡ Err 405
not_posted head here other =
    message_is head ∙ (λ i. message_by head (here i) (other i)
    (has_header (codes "content-length") head && not (has_header (codes "transfer-encoding") head)) (same_number (values_of (codes "content-length") head)))

by_length : (head : RequestHead) → bytes_eq (path_of head) (codes "/jsonrpc") ≡ true → bytes_eq head.method (codes "POST") ≡ true
    → message_of head ≡ (length_asked head >>= (λ length. Ok (message_with head length)))
by_length head here posted =
    message_is head ∙ (λ i. message_by head (here i) (posted i)
    (has_header (codes "content-length") head && not (has_header (codes "transfer-encoding") head)) (same_number (values_of (codes "content-length") head)))
    ∙ chained head (has_header (codes "content-length") head && not (has_header (codes "transfer-encoding") head)) (same_number (values_of (codes "content-length") head))

pub no_length : (head : RequestHead) (status : ℕ) → bytes_eq (path_of head) (codes "/jsonrpc") ≡ true → bytes_eq head.method (codes "POST") ≡ true
    → length_asked head ≡ Err status → message_of head ≡ Err status
no_length head status here posted refused = by_length head here posted ∙ ap (λ r. r >>= (λ length. Ok (message_with head length))) refused

pub of_length : (head : RequestHead) (length : ℕ) (keep interim : Bool) → bytes_eq (path_of head) (codes "/jsonrpc") ≡ true → bytes_eq head.method (codes "POST") ≡ true
    → length_asked head ≡ Ok length → keep ≡ keeps_open head → interim ≡ expects_interim head → Ok (record { length = length; keep = keep; interim = interim }) ≡ message_of head
of_length head length keep interim here posted given keeps expects =
    (λ i. Ok (record { length = length; keep = keeps i; interim = expects i }))
    ∙ sym (by_length head here posted ∙ ap (λ r. r >>= (λ length. Ok (message_with head length))) given)

-- the same length by the spans
pub length_is : (bytes : List ℕ) (spans : List HeaderSpan) (head : RequestHead) → map (header_bytes bytes) spans ≡ map name_and_value head.fields
    → length_from (list_any (is_header_named bytes (codes "content-length")) spans && not (list_any (is_header_named bytes (codes "transfer-encoding")) spans)) (values_at bytes (codes "content-length") spans)
    ≡ length_asked head
length_is bytes spans head e =
    let length = has_is bytes (codes "content-length") spans head e in
    let coding = has_is bytes (codes "transfer-encoding") spans head e in
    let values = values_are bytes (codes "content-length") spans head e in
    λ i. length_from (length i && not (coding i)) (values i)

-- the fields of a length are there, and no other field tells of the body's end
pub length_alone : (bytes : List ℕ) (spans : List HeaderSpan) → list_any (is_header_named bytes (codes "transfer-encoding")) spans ≡ false
    → (values_at bytes (codes "content-length") spans ≡ [] → ⊥)
    → (list_any (is_header_named bytes (codes "content-length")) spans && not (list_any (is_header_named bytes (codes "transfer-encoding")) spans)) ≡ true
length_alone bytes spans none some =
    let there = values_have_name bytes (codes "content-length") spans some in
    λ i. there i && not (none i)

pub length_absent : (bytes : List ℕ) (spans : List HeaderSpan) (b : Bool) → values_at bytes (codes "content-length") spans ≡ []
    → length_from (list_any (is_header_named bytes (codes "content-length")) spans && b) (values_at bytes (codes "content-length") spans) ≡ Err 411
length_absent bytes spans b none =
    ap (λ there. length_by (there && b) (same_number (values_at bytes (codes "content-length") spans))) (named_has_values bytes (codes "content-length") spans none)

pub length_unequal : (l : Bool) (texts : List (List ℕ)) → l ≡ true → same_number texts ≡ None → length_from l texts ≡ Err 400
length_unequal l texts alone none = λ i. length_by (alone i) (none i)

pub length_told : (l : Bool) (texts : List (List ℕ)) (n : ℕ) (told : Option ℕ) (length : ℕ) → l ≡ true → same_number texts ≡ Some n
    → told ≡ cond (nat_le n max_line_bytes) (Some n) None → told ≡ Some length → length_from l texts ≡ Ok length
length_told l texts n told length alone number is some = (λ i. length_by (alone i) (number i)) ∙ at (nat_le n max_line_bytes) (sym is ∙ some)
  where
    at : (b : Bool) → cond b (Some n) None ≡ Some length → (or_status 413 b >>= (λ _. Ok n)) ≡ Ok length
    at true e = let same : n ≡ length = cc in ap Ok same
    at false e = absurd (cc)

pub length_over : (l : Bool) (texts : List (List ℕ)) (n : ℕ) (told : Option ℕ) → l ≡ true → same_number texts ≡ Some n
    → told ≡ cond (nat_le n max_line_bytes) (Some n) None → told ≡ None → length_from l texts ≡ Err 413
length_over l texts n told alone number is none = (λ i. length_by (alone i) (number i)) ∙ at (nat_le n max_line_bytes) (sym is ∙ none)
  where
    at : (b : Bool) → cond b (Some n) None ≡ None → (or_status 413 b >>= (λ _. Ok n)) ≡ Err 413
    at true e = absurd (cc)
    at false e = refl

-- a number is of texts
pub of_texts : (texts : List (List ℕ)) (n : ℕ) → same_number texts ≡ Some n → texts ≡ [] → ⊥
of_texts texts n number none = let clash : None ≡ Some n = ap same_number (sym none) ∙ number in cc

pub keeps_is : (bytes : List ℕ) (spans : List HeaderSpan) (version : ℕ) (head : RequestHead) → map (header_bytes bytes) spans ≡ map name_and_value head.fields → version ≡ head.minor
    → (version == 1 && not (list_any (lists_word (codes "close")) (values_at bytes (codes "connection") spans))) ≡ keeps_open head
keeps_is bytes spans version head e v = let values = values_are bytes (codes "connection") spans head e in λ i. v i == 1 && not (list_any (lists_word (codes "close")) (values i))

pub expects_is : (bytes : List ℕ) (spans : List HeaderSpan) (version : ℕ) (head : RequestHead) → map (header_bytes bytes) spans ≡ map name_and_value head.fields → version ≡ head.minor
    → (version == 1 && list_any (λ value. str_eq_ignore_ascii_case value (codes "100-continue")) (values_at bytes (codes "expect") spans)) ≡ expects_interim head
expects_is bytes spans version head e v =
    let values = values_are bytes (codes "expect") spans head e in λ i. v i == 1 && list_any (λ value. str_eq_ignore_ascii_case value (codes "100-continue")) (values i)

-- two texts were compared, which are these
pub compared : (text wanted known word : List ℕ) (other b : Bool) → text ≡ known → wanted ≡ word → other ≡ not (bytes_eq text wanted) → other ≡ b → not (bytes_eq known word) ≡ b
compared text wanted known word other b same as_word is found = sym (λ i. not (bytes_eq (same i) (as_word i))) ∙ sym is ∙ found
