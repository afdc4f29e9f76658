-- Where the parts of a head stand in its bytes, and what its spans say.
use Rattle.std.specs.Prelude.{◌≡◌, ℕ, Bool, List, map, length, All, Result, Ok, nat_le}
use Rattle.std.specs.List.{filter}
use Rattle.std.specs.Str.{str_eq_ignore_ascii_case}
use Rattle.httparse.specs.declared.spans.HeaderSpan.{HeaderSpan}
use Rattle.httparse.specs.declared.spans.RequestSpans.{RequestSpans}
use Rattle.httparse.specs.Grammar.{RequestHead}
use Rattle.httparse.specs.Spans.{span_bytes, header_bytes, name_and_value, IsHeaderWithin}
use Rattle.ob_base.specs.Chain.{◌>>=◌}
use Rattle.ob_base.specs.Limits.{max_line_bytes}
use Rattle.ob_http.specs.Message.{same_number, or_status, number_or}

-- the spans stand in the bytes
abbrev pub AreWithin : List ℕ → List HeaderSpan → Type 0
AreWithin bytes spans = All (IsHeaderWithin (length bytes)) spans

-- the field that a span covers has this name, in any case
abbrev pub is_header_named : List ℕ → List ℕ → HeaderSpan → Bool
is_header_named bytes name span = str_eq_ignore_ascii_case (span_bytes bytes span.name) name

-- the values that the spans of this name cover
abbrev pub values_at : List ℕ → List ℕ → List HeaderSpan → List (List ℕ)
values_at bytes name spans = map (λ span. span_bytes bytes span.value) (filter (is_header_named bytes name) spans)

-- the spans cover the parts of a request
pub record Covers (bytes : List ℕ) (request : RequestSpans) (spans : List HeaderSpan) (head : RequestHead) : Type 0 where
  pub method : span_bytes bytes request.method ≡ head.method
  pub path : span_bytes bytes request.path ≡ head.target
  pub version : request.version ≡ head.minor
  pub fields : map (header_bytes bytes) spans ≡ map name_and_value head.fields

-- the length that the fields of a request give, or the status of the first check that they don't pass
abbrev pub length_from : Bool → List (List ℕ) → Result ℕ ℕ
length_from has_length_alone texts = do
  _ ← or_status 411 has_length_alone
  length ← number_or 400 (same_number texts)
  _ ← or_status 413 (nat_le length max_line_bytes)
  Ok length
