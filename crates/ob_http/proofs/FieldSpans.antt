-- Fields by their spans: one after another, and as the fields of a request.
use Rattle.std.proofs.Common.{◌≡◌, ℕ, ◌+◌, ◌<◌, ◌≤◌, Bool, true, false, cond, ◌||◌, List, [], ◌∷◌, map, length, get_or, drop, refl, sym, ap, ◌∙◌}
use Rattle.std.specs.List.{filter, list_any}
use Rattle.std.specs.Str.{str_eq_ignore_ascii_case}
use Rattle.std.proofs.lemmas.List.{drop_more, drop_all}
use Rattle.httparse.specs.declared.spans.HeaderSpan.{HeaderSpan}
use Rattle.httparse.specs.Grammar.{Field, field_value, RequestHead}
use Rattle.httparse.specs.Spans.{span_bytes, header_bytes, name_and_value}
use Rattle.ob_http.specs.Message.{values_of, has_header}
use Rattle.ob_http.specs.Spans.{is_header_named, values_at}

-- what stands past the last span
abbrev pub no_span : HeaderSpan
no_span = record { name = record { start = 0; end = 0 }; value = record { start = 0; end = 0 } }

values_at-cons : (bytes name : List ℕ) (span : HeaderSpan) (spans : List HeaderSpan) → values_at bytes name (span ∷ spans)
    ≡ cond (is_header_named bytes name span) (span_bytes bytes span.value ∷ values_at bytes name spans) (values_at bytes name spans)
values_at-cons bytes name span spans =
    elim (is_header_named bytes name span) as (λ t. map (λ s. span_bytes bytes s.value) (cond t (span ∷ filter (is_header_named bytes name) spans) (filter (is_header_named bytes name) spans))
    ≡ cond t (span_bytes bytes span.value ∷ values_at bytes name spans) (values_at bytes name spans)) [ true ↦ refl | false ↦ refl ]

-- one field more has been passed
pub values_at-next : (bytes name : List ℕ) (spans : List HeaderSpan) (i : ℕ) (span : HeaderSpan) → i < length spans → values_at bytes name (drop i spans)
    ≡ cond (is_header_named bytes name (get_or spans i span)) (span_bytes bytes (get_or spans i span).value ∷ values_at bytes name (drop (i + 1) spans)) (values_at bytes name (drop (i + 1) spans))
values_at-next bytes name spans i span inside =
    ap (values_at bytes name) (drop_more spans i span inside) ∙ values_at-cons bytes name (get_or spans i span) (drop (i + 1) spans)

pub named_next : (bytes name : List ℕ) (spans : List HeaderSpan) (i : ℕ) (span : HeaderSpan) (value : List ℕ) → i < length spans
    → is_header_named bytes name (get_or spans i span) ≡ true → value ≡ span_bytes bytes (get_or spans i span).value
    → values_at bytes name (drop i spans) ≡ value ∷ values_at bytes name (drop (i + 1) spans)
named_next bytes name spans i span value inside named is =
    let later = values_at bytes name (drop (i + 1) spans) in
    values_at-next bytes name spans i span inside ∙ ap (λ t. cond t (span_bytes bytes (get_or spans i span).value ∷ later) later) named ∙ ap (λ v. v ∷ later) (sym is)

-- none follow after the last
pub none_left : (bytes name : List ℕ) (spans : List HeaderSpan) (i : ℕ) → length spans ≤ i → values_at bytes name (drop i spans) ≡ []
none_left bytes name spans i past = ap (values_at bytes name) (drop_all i spans past)

-- the value of the next field settles a question, or leaves it to the later ones
pub settled : (test : List ℕ → Bool) (bytes name : List ℕ) (spans : List HeaderSpan) (i : ℕ) (span : HeaderSpan) → i < length spans
    → is_header_named bytes name (get_or spans i span) ≡ true → test (span_bytes bytes (get_or spans i span).value) ≡ true
    → list_any test (values_at bytes name (drop i spans)) ≡ true
settled test bytes name spans i span inside named passes =
    let value = span_bytes bytes (get_or spans i span).value in
    let later = values_at bytes name (drop (i + 1) spans) in
    ap (list_any test) (values_at-next bytes name spans i span inside) ∙ ap (λ t. list_any test (cond t (value ∷ later) later)) named
    ∙ ap (λ t. t || list_any test later) passes

pub unsettled : (test : List ℕ → Bool) (bytes name : List ℕ) (spans : List HeaderSpan) (i : ℕ) (span : HeaderSpan) → i < length spans
    → test (span_bytes bytes (get_or spans i span).value) ≡ false
    → list_any test (values_at bytes name (drop (i + 1) spans)) ≡ list_any test (values_at bytes name (drop i spans))
unsettled test bytes name spans i span inside fails =
    let value = span_bytes bytes (get_or spans i span).value in
    let later = values_at bytes name (drop (i + 1) spans) in
    sym (ap (list_any test) (values_at-next bytes name spans i span inside) ∙ at value later fails (is_header_named bytes name (get_or spans i span)))
  where
    at : (value : List ℕ) (later : List (List ℕ)) → test value ≡ false → (t : Bool) → list_any test (cond t (value ∷ later) later) ≡ list_any test later
    at value later fails true = ap (λ t. t || list_any test later) fails
    at value later fails false = refl

pub passed_by : (bytes name : List ℕ) (spans : List HeaderSpan) (i : ℕ) (span : HeaderSpan) → i < length spans
    → is_header_named bytes name (get_or spans i span) ≡ false → values_at bytes name (drop (i + 1) spans) ≡ values_at bytes name (drop i spans)
passed_by bytes name spans i span inside other =
    let value = span_bytes bytes (get_or spans i span).value in
    let later = values_at bytes name (drop (i + 1) spans) in
    sym (values_at-next bytes name spans i span inside ∙ ap (λ t. cond t (value ∷ later) later) other)

-- spans that cover the names and values of fields have the same fields of a name
abbrev SameFields : List ℕ → List ℕ → List HeaderSpan → List Field → Type 0
SameFields bytes name spans fields =
    (list_any (is_header_named bytes name) spans ≡ list_any (λ field. str_eq_ignore_ascii_case field.name name) fields)
    × (values_at bytes name spans ≡ map field_value (filter (λ field. str_eq_ignore_ascii_case field.name name) fields))

same_fields : (bytes name : List ℕ) (spans : List HeaderSpan) (fields : List Field)
    → map (header_bytes bytes) spans ≡ map name_and_value fields → SameFields bytes name spans fields
same_fields bytes name [] [] e = (refl, refl)
same_fields bytes name [] (field ∷ fields) e = absurd (cc)
same_fields bytes name (span ∷ spans) [] e = absurd (cc)
same_fields bytes name (span ∷ spans) (field ∷ fields) e =
    let first : header_bytes bytes span ≡ name_and_value field = cc in
    let later : map (header_bytes bytes) spans ≡ map name_and_value fields = cc in
    let rest = same_fields bytes name spans fields later in
    let named : is_header_named bytes name span ≡ str_eq_ignore_ascii_case field.name name = ap (λ p. str_eq_ignore_ascii_case p.0 name) first in
    let value : span_bytes bytes span.value ≡ field_value field = ap (λ p. p.1) first in (
      (λ i. named i || rest.0 i),
      values_at-cons bytes name span spans ∙ (λ i. cond (named i) (value i ∷ rest.1 i) (rest.1 i)) ∙ sym (fields-cons (str_eq_ignore_ascii_case field.name name)),
    )
  where
    fields-cons : (t : Bool) → map field_value (cond t (field ∷ filter (λ field. str_eq_ignore_ascii_case field.name name) fields) (filter (λ field. str_eq_ignore_ascii_case field.name name) fields))
        ≡ cond t (field_value field ∷ map field_value (filter (λ field. str_eq_ignore_ascii_case field.name name) fields)) (map field_value (filter (λ field. str_eq_ignore_ascii_case field.name name) fields))
    fields-cons true = refl
    fields-cons false = refl

pub has_is : (bytes name : List ℕ) (spans : List HeaderSpan) (head : RequestHead) → map (header_bytes bytes) spans ≡ map name_and_value head.fields
    → list_any (is_header_named bytes name) spans ≡ has_header name head
has_is bytes name spans head e = (same_fields bytes name spans head.fields e).0

pub values_are : (bytes name : List ℕ) (spans : List HeaderSpan) (head : RequestHead) → map (header_bytes bytes) spans ≡ map name_and_value head.fields
    → values_at bytes name spans ≡ values_of name head
values_are bytes name spans head e = (same_fields bytes name spans head.fields e).1

-- a field of a name is there exactly where it has values
pub named_has_values : (bytes name : List ℕ) (spans : List HeaderSpan) → values_at bytes name spans ≡ [] → list_any (is_header_named bytes name) spans ≡ false
named_has_values bytes name [] e = refl
named_has_values bytes name (span ∷ spans) e = at (named_has_values bytes name spans) (is_header_named bytes name span) (sym (values_at-cons bytes name span spans) ∙ e)
  where
    at : (values_at bytes name spans ≡ [] → list_any (is_header_named bytes name) spans ≡ false) → (t : Bool)
        → cond t (span_bytes bytes span.value ∷ values_at bytes name spans) (values_at bytes name spans) ≡ [] → (t || list_any (is_header_named bytes name) spans) ≡ false
    at rest true e = absurd (cc)
    at rest false e = rest e

pub values_have_name : (bytes name : List ℕ) (spans : List HeaderSpan) → (values_at bytes name spans ≡ [] → ⊥) → list_any (is_header_named bytes name) spans ≡ true
values_have_name bytes name [] some = absurd (some refl)
values_have_name bytes name (span ∷ spans) some = at (values_have_name bytes name spans) (is_header_named bytes name span) (λ e. some (values_at-cons bytes name span spans ∙ e))
  where
    at : ((values_at bytes name spans ≡ [] → ⊥) → list_any (is_header_named bytes name) spans ≡ true) → (t : Bool)
        → (cond t (span_bytes bytes span.value ∷ values_at bytes name spans) (values_at bytes name spans) ≡ [] → ⊥) → (t || list_any (is_header_named bytes name) spans) ≡ true
    at rest true some = refl
    at rest false some = rest some
