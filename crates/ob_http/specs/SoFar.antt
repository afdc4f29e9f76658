-- How far the search for the end of a head has come.
use Rattle.std.specs.Prelude.{◌≡◌, ℕ, ◌-◌, ◌<◌, ◌≤◌, not, true, false, List, [], ◌∷◌, ◌++◌, length, take, drop, Option, Some, None, slice_index}
use Rattle.std.specs.List.{All, AllPass}
use Rattle.ob_http.specs.Lines.{ends_line, line_text, is_empty_line}
use Rattle.ob_http.specs.declared.lines.LinesSoFar.{LinesSoFar}

-- no byte of it ends a line
abbrev pub IsOpen : List ℕ → Type 0
IsOpen bytes = All (λ byte. ends_line byte ≡ false) bytes

-- no line feed stands from one place up to another
abbrev pub NoFeed : List ℕ → ℕ → ℕ → Type 0
NoFeed bytes from to = (k : ℕ) → from ≤ k → k < to → ends_line (slice_index bytes k) ≡ false

-- lines with their line feeds, one after another
abbrev pub lines_with_feeds : List (List ℕ) → List ℕ
lines_with_feeds [] = []
lines_with_feeds (line ∷ lines) = line ++ 10 ∷ lines_with_feeds lines

-- The lines are empty ones, the request line, whose text stands at the span, and then so many others
-- that aren't empty.
pub record BeginsHead (lines : List (List ℕ)) (span : ℕ × ℕ) (fields : ℕ) : Type 0 where
  pub blank : List (List ℕ)
  pub text : List ℕ
  pub rest : List (List ℕ)
  pub lines_are : lines ≡ blank ++ text ∷ rest
  pub blank_empty : AllPass is_empty_line blank
  pub text_full : is_empty_line text ≡ false
  pub rest_full : AllPass (λ line. not (is_empty_line line)) rest
  pub count : length rest ≡ fields
  pub begins : span.0 ≤ span.1
  pub within : span.1 ≤ length (lines_with_feeds lines)
  pub stands : take (span.1 - span.0) (drop span.0 (lines_with_feeds lines)) ≡ line_text text

-- what the lines are, by the span of the request line: without it they are empty ones
abbrev pub HasCome : List (List ℕ) → Option (ℕ × ℕ) → ℕ → Type 0
HasCome lines None fields = AllPass is_empty_line lines × (fields ≡ 0)
HasCome lines (Some span) fields = BeginsHead lines span fields

-- the lines up to the start have come, and the line from there on isn't ended where it was searched
pub record IsSoFar (bytes : List ℕ) (so_far : LinesSoFar) : Type 0 where
  pub lines : List (List ℕ)
  pub lines_open : All IsOpen lines
  pub front : take so_far.start bytes ≡ lines_with_feeds lines
  pub start : so_far.start ≤ so_far.searched
  pub searched : so_far.searched ≤ length bytes
  pub no_feed : NoFeed bytes so_far.start so_far.searched
  pub feed_before : 0 < so_far.start → ends_line (slice_index bytes (so_far.start - 1)) ≡ true
  pub come : HasCome lines so_far.line so_far.fields

-- the first line feed from a place on
pub record IsNextFeed (bytes : List ℕ) (from at : ℕ) : Type 0 where
  pub after : from ≤ at
  pub within : at < length bytes
  pub feed : ends_line (slice_index bytes at) ≡ true
  pub before : NoFeed bytes from at
