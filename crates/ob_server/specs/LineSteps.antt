-- What the steps within one reading of a line do.
use Rattle.std.specs.Prelude.{◌≡◌, Bool, ◌+◌, ◌<◌, ◌⊎◌, ◌++◌, length, nat_lt, if◌then◌else◌}
use Rattle.ob_base.specs.Limits.{max_line_bytes, max_input_bytes}
use Rattle.ob_server.specs.Lines.{Reading, line_front, line_back, line_size}

-- the first line of what is held went to the line, which is whole where its line feed was held
pub record TakesPiece (old new : Reading) (is_whole : Bool) : Type 0 where
  pub whole : is_whole ≡ nat_lt (length (line_front old.held)) (length old.held)
  pub held : new.held ≡ line_back old.held
  pub line : new.line ≡ old.line ++ line_front old.held
  pub lines : new.lines ≡ old.lines + (if is_whole then 1 else 0)
  pub consumed : new.consumed ≡ old.consumed + line_size old.held

-- the line with the first line of what is held is longer than a line or the input may be
abbrev pub IsPieceTooLong : Reading → Type 0
IsPieceTooLong old = (max_line_bytes < length (old.line ++ line_front old.held)) ⊎ (max_input_bytes < old.consumed + line_size old.held)
