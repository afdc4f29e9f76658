-- What a request in the grammar of heads says of its message.
use Rattle.std.specs.Prelude.{ℕ, ◌==◌, ◌&&◌, nat_lt, nat_le, not, Bool, true, false, List, [], ◌∷◌, map, length, drop, codes, Option, Some, None, Result, Ok, Err, if◌then◌else◌}
use Rattle.std.specs.List.{filter, list_all, list_any, before_first, prefix_len, slice_split}
use Rattle.std.specs.Char.{is_ascii_digit}
use Rattle.std.specs.Str.{bytes_eq, str_eq_ignore_ascii_case}
use Rattle.std.specs.Str.Parse.{digits_value}
use Rattle.httparse.specs.Grammar.{RequestHead, field_value, trim_ows}
use Rattle.ob_base.specs.Chain.{◌>>=◌}
use Rattle.ob_base.specs.Limits.{max_line_bytes}
use Rattle.ob_http.specs.declared.head.Message.{Message}

-- the values of the fields of this name, in any case
abbrev pub values_of : List ℕ → RequestHead → List (List ℕ)
values_of name request = map field_value (filter (λ field. str_eq_ignore_ascii_case field.name name) request.fields)

-- whether a field of this name is there
abbrev pub has_header : List ℕ → RequestHead → Bool
has_header name request = list_any (λ field. str_eq_ignore_ascii_case field.name name) request.fields

-- the part of the target before the first question mark
abbrev pub path_of : RequestHead → List ℕ
path_of request = before_first (λ byte. byte == 63) request.target

-- a decimal number: digits, at least one
abbrev pub is_decimal : List ℕ → Bool
is_decimal text = nat_lt 0 (length text) && list_all is_ascii_digit text

-- the digits without the zeros before them: two decimal numbers are the same exactly where these are
abbrev pub without_zeros : List ℕ → List ℕ
without_zeros text = drop (prefix_len (λ byte. byte == 48) text) text

-- the one number that all of these texts write, in however many digits; none where there is no such number
abbrev pub same_number : List (List ℕ) → Option ℕ
same_number [] = None
same_number (text ∷ texts) =
    if list_all is_decimal (text ∷ texts) && list_all (λ other. digits_value 10 other == digits_value 10 text) texts
    then Some (digits_value 10 text) else None

-- the word is in a list with commas, in any case
abbrev pub lists_word : List ℕ → List ℕ → Bool
lists_word word value = list_any (λ part. str_eq_ignore_ascii_case (trim_ows part) word) (slice_split (λ byte. byte == 44) value)

-- HTTP/1.1 stays open without `Connection: close`
abbrev pub keeps_open : RequestHead → Bool
keeps_open request = request.minor == 1 && not (list_any (lists_word (codes "close")) (values_of (codes "connection") request))

-- HTTP/1.1 may ask for the interim line
abbrev pub expects_interim : RequestHead → Bool
expects_interim request = request.minor == 1 && list_any (λ value. str_eq_ignore_ascii_case value (codes "100-continue")) (values_of (codes "expect") request)

-- what holds, or else this status
abbrev pub or_status : ℕ → Bool → Result Bool ℕ
or_status status true = Ok true
or_status status false = Err status

-- the number, or else this status
abbrev pub number_or : ℕ → Option ℕ → Result ℕ ℕ
number_or status None = Err status
number_or status (Some n) = Ok n

-- what the request says of its message, or the status of the first check that it doesn't pass
unfoldable pub message_of : RequestHead → Result Message ℕ
message_of request = do
  _ ← or_status 404 (bytes_eq (path_of request) (codes "/jsonrpc"))
  _ ← or_status 405 (bytes_eq request.method (codes "POST"))
  _ ← or_status 411 (has_header (codes "content-length") request && not (has_header (codes "transfer-encoding") request))
  length ← number_or 400 (same_number (values_of (codes "content-length") request))
  _ ← or_status 413 (nat_le length max_line_bytes)
  Ok (record { length = length; keep = keeps_open request; interim = expects_interim request })
