-- The head of a request: where it ends, and what it asks for by the checks in their order.
use Rattle.std.specs.Prelude.{◌≡◌, ◌≤◌, ℕ, ◌+◌, ◌-◌, ◌==◌, ◌&&◌, ◌⊎◌, nat_eq, nat_lt, not, Bool, false, List, [], ◌∷◌, length, take, drop, get_or, codes, Option, Some, None, Result, Err, if◌then◌else◌, slice_index, slice_range, MatchBool}
use Rattle.std.specs.List.{slice_split, prefix_len, starts_with}
use Rattle.std.specs.Char.{is_ascii_digit}
use Rattle.std.specs.Str.{bytes_eq}
use Rattle.httparse.specs.Grammar.{RequestHead, ReadsRequest}
use Rattle.ob_base.specs.Limits.{max_head_fields}
use Rattle.ob_http.specs.Lines.{ended_lines, line_text, is_empty_line, size_with_feeds}
use Rattle.ob_http.specs.declared.head.Message.{Message}
use Rattle.ob_http.specs.declared.lines.HeadSize.{HeadSize}
use Rattle.ob_http.specs.Message.{message_of}

-- a head as its lines show it: its request line, how many fields follow, and how many bytes it takes
pub record Head : Type 0 where
  pub line : List ℕ
  pub fields : ℕ
  pub size : ℕ

-- where a head's parts stand in its bytes
pub record IsHeadAt (bytes : List ℕ) (place : HeadSize) (head : Head) : Type 0 where
  pub begins : place.line.0 ≤ place.line.1
  pub within : place.line.1 ≤ length bytes
  pub line : slice_range bytes place.line.0 place.line.1 ≡ head.line
  pub fields : place.fields ≡ head.fields
  pub size : place.size ≡ head.size

-- The head at the front of lines: empty lines, then the request line, then a line for each field,
-- and the first empty line after them. None where that line isn't there.
abbrev pub head_in : List (List ℕ) → Option Head
head_in lines =
    let blank = prefix_len is_empty_line lines in
    let texts = prefix_len (λ line. not (is_empty_line line)) (drop blank lines) in
    if nat_lt (blank + texts) (length lines) then Some (record {
      line = line_text (get_or lines blank []);
      fields = texts - 1;
      size = size_with_feeds (take (blank + texts + 1) lines);
    }) else None

-- the head at the front of bytes, where they have its end
abbrev pub head_of : List ℕ → Option Head
head_of bytes = head_in (ended_lines bytes)

-- `HTTP/`, a digit, a dot and a digit
abbrev pub is_version : List ℕ → Bool
is_version word =
    length word == 8 && starts_with nat_eq word (codes "HTTP/")
    && is_ascii_digit (slice_index word 5) && slice_index word 6 == 46 && is_ascii_digit (slice_index word 7)

-- a version of HTTP that isn't served
abbrev pub is_other_version : List ℕ → Bool
is_other_version word = is_version word && not (bytes_eq word (codes "HTTP/1.0")) && not (bytes_eq word (codes "HTTP/1.1"))

-- three words, none of them empty, the third such a version
abbrev pub end_in_other_version : List (List ℕ) → Bool
end_in_other_version (method ∷ target ∷ version ∷ []) = nat_lt 0 (length method) && nat_lt 0 (length target) && is_other_version version
end_in_other_version _ = false

-- a request line of another version than 1.0 and 1.1; its words stand between single spaces
abbrev pub has_other_version : List ℕ → Bool
has_other_version line = end_in_other_version (slice_split (λ byte. byte == 32) line)

-- What a request in the grammar of heads asks for, or 400 where the bytes are no such request. The
-- grammar is that of the kit's `httparse` (RFC 9112, sections 2 to 5).
abbrev pub ReadsMessage : List ℕ → Result Message ℕ → Type 0
ReadsMessage bytes found =
    ((request : RequestHead) × ReadsRequest bytes request [] × (found ≡ message_of request))
    ⊎ (((request : RequestHead) → ¬ (ReadsRequest bytes request [])) × (found ≡ Err 400))

-- What these bytes ask for as a whole head, or the status of the first check that they don't pass.
abbrev pub Asks : List ℕ → Head → Result Message ℕ → Type 0
Asks bytes head found =
    MatchBool (nat_lt max_head_fields head.fields) (found ≡ Err 431) (
    MatchBool (has_other_version head.line) (found ≡ Err 505)
    (ReadsMessage bytes found))
