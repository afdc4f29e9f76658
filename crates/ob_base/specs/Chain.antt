-- Parts that follow one another, where each may end the whole with what is wrong.
use Rattle.std.specs.Prelude.{Result, Ok, Err}

-- the next part of what this one gave, or what is wrong with this one
infixl 10 ◌>>=◌
abbrev pub ◌>>=◌ : {A B E : Type 0} → Result A E → (A → Result B E) → Result B E
(Ok x) >>= next = next x
(Err why) >>= next = Err why
