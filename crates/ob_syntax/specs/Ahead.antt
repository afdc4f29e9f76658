-- What contracts see of a lexer. It stays as it is, whatever tokens there are.
use Rattle.std.specs.Prelude.{ℕ, List}
use Rattle.ob_syntax.specs.Lexemes.{Lexeme}

-- the tokens that are still to come, and the length of the text
pub record Ahead : Type 0 where
  pub tokens : List Lexeme
  pub end : ℕ
