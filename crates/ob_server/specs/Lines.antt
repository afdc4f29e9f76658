-- How a stream of bytes is cut into lines, and what one reading of a line does.
use Rattle.std.specs.Prelude.{◌≡◌, ◌≢◌, ◌==◌, ◌||◌, not, Bool, ℕ, ◌+◌, ◌<◌, ◌⊎◌, min, List, [], ◌∷◌, ◌++◌, length, filter, All, Option, option_map, IfSome, if◌then◌else◌}
use Rattle.std.specs.List.{before_first, after_first, onto_first, list_all}
use Rattle.ob_base.specs.Limits.{max_line_bytes, max_input_bytes}

-- a line feed ends a line
abbrev pub is_line_feed : ℕ → Bool
is_line_feed byte = byte == 10

-- the pieces of a stream between line feeds, with the last piece where it isn't empty
abbrev pub lines_of : List ℕ → List (List ℕ)
lines_of [] = []
lines_of (byte ∷ bytes) = if is_line_feed byte then [] ∷ lines_of bytes else onto_first byte (lines_of bytes)

-- a line of spaces, tabs and carriage returns alone
abbrev pub is_blank_line : List ℕ → Bool
is_blank_line line = list_all (λ byte. byte == 32 || byte == 9 || byte == 13) line

-- the lines that aren't blank
abbrev pub bodies_of : List (List ℕ) → List (List ℕ)
bodies_of lines = filter (λ line. not (is_blank_line line)) lines

-- the first line of a stream, without its line feed
abbrev pub line_front : List ℕ → List ℕ
line_front stream = before_first is_line_feed stream

-- what stands after the first line and its line feed
abbrev pub line_back : List ℕ → List ℕ
line_back stream = after_first is_line_feed stream

-- how many bytes the first line takes, with its line feed where it has one
abbrev pub line_size : List ℕ → ℕ
line_size stream = min (length (line_front stream) + 1) (length stream)

-- a reader of lines: the bytes that it has read ahead, the line that it read last, and
-- how many lines and bytes of its input it has consumed
pub record Reading : Type 0 where
  pub held : List ℕ
  pub line : List ℕ
  pub lines : ℕ
  pub consumed : ℕ

-- the stream still to come, where the source tells what it has left
abbrev pub stream_of : Reading → Option (List ℕ) → Option (List ℕ)
stream_of reading left = option_map (λ rest. reading.held ++ rest) left

-- the source gave this part of what it had left, where it tells
abbrev pub GivesPart : Option (List ℕ) → Option (List ℕ) → List ℕ → Type 0
GivesPart before now part = before ≡ option_map (λ rest. part ++ rest) now

-- the first line of the stream was read, and no more of it
pub record ReadsLine (old new : Reading) (left_before left_now : Option (List ℕ)) : Type 0 where
  pub some : IfSome (stream_of old left_before) (λ stream. stream ≢ [])
  pub line : IfSome (stream_of old left_before) (λ stream. new.line ≡ line_front stream)
  pub rest : stream_of new left_now ≡ option_map line_back (stream_of old left_before)
  pub lines : new.lines ≡ old.lines + 1
  pub consumed : IfSome (stream_of old left_before) (λ stream. new.consumed ≡ old.consumed + line_size stream)
  pub moved : old.consumed < new.consumed

-- the stream was at its end, and is still
pub record IsAtEnd (old new : Reading) (left_before left_now : Option (List ℕ)) : Type 0 where
  pub none_held : old.held ≡ []
  pub none_left : IfSome left_before (λ left. left ≡ [])
  pub left : left_now ≡ left_before
  pub reading : new ≡ record old { line = [] }

-- the reading stopped within a line: what was held and what the source gave meanwhile is
-- the line so far, without a line feed
pub record StopsInLine (old new : Reading) (left_before left_now : Option (List ℕ)) : Type 0 where
  pub part : List ℕ
  pub given : GivesPart left_before left_now part
  pub line : new.line ≡ old.held ++ part
  pub no_line_feed : All (λ byte. byte ≢ 10) (old.held ++ part)
  pub held : new.held ≡ []
  pub lines : new.lines ≡ old.lines

-- the first line of the stream is longer than a line may be, or than the input may be
abbrev pub IsTooLong : ℕ → List ℕ → Type 0
IsTooLong consumed stream = (max_line_bytes < length (line_front stream)) ⊎ (max_input_bytes < consumed + line_size stream)
