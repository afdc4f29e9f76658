-- How the bytes of a head are cut into lines. A line feed ends a line, and a carriage return
-- before it belongs to the end.
use Rattle.std.specs.Prelude.{ℕ, ◌+◌, ◌-◌, ◌==◌, ◌&&◌, Bool, List, length, take, if◌then◌else◌, slice_index}
use Rattle.std.specs.List.{slice_split, sum_by, list_all, after_last}

-- the byte that ends a line
abbrev pub ends_line : ℕ → Bool
ends_line byte = byte == 10

-- the lines that a line feed ends, without it; what stands after the last line feed is none
abbrev pub ended_lines : List ℕ → List (List ℕ)
ended_lines bytes = let parts = slice_split ends_line bytes in take (length parts - 1) parts

-- the text of a line: it has no carriage return at its end
abbrev pub line_text : List ℕ → List ℕ
line_text line = if slice_index line (length line - 1) == 13 then take (length line - 1) line else line

-- a line without any text
abbrev pub is_empty_line : List ℕ → Bool
is_empty_line line = length (line_text line) == 0

-- how many bytes lines take, with their line feeds
abbrev pub size_with_feeds : List (List ℕ) → ℕ
size_with_feeds lines = sum_by (λ line. length line + 1) lines

-- the bytes are empty lines alone, each ended
abbrev pub are_empty_lines : List ℕ → Bool
are_empty_lines bytes = list_all is_empty_line (ended_lines bytes) && length (after_last ends_line bytes) == 0
