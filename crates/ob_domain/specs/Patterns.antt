-- Which texts match a pattern.
use Rattle.std.specs.Prelude.{ℕ, ◌==◌, ◌&&◌, ◌||◌, List, [], ◌∷◌, ◌++◌, chars, Bool, true, false, if◌then◌else◌}
use Rattle.caseless.specs.Caseless.{default_case_fold}
use Rattle.ob_domain.specs.declared.operator.Likeness.{Likeness}
use Rattle.ob_domain.specs.declared.term.Pattern.{Pattern}

-- `%` and `_`
abbrev pub any_run : ℕ
any_run = 37

abbrev pub any_one : ℕ
any_one = 95

-- some rest of the text passes, the whole and the empty one among them
abbrev pub some_rest : (List ℕ → Bool) → List ℕ → Bool
some_rest passes [] = passes []
some_rest passes (c ∷ text) = passes (c ∷ text) || some_rest passes text

-- a sign stands for a character: `_` for any, each other for itself
abbrev pub fits : ℕ → ℕ → Bool
fits sign c = sign == any_one || sign == c

-- the text begins with a character for which the sign stands, and the rest passes
abbrev pub behind_one : ℕ → (List ℕ → Bool) → List ℕ → Bool
behind_one sign passes [] = false
behind_one sign passes (c ∷ text) = fits sign c && passes text

-- the text begins with what a pattern without runs stands for
abbrev pub begins : List ℕ → List ℕ → Bool
begins [] text = true
begins (sign ∷ pattern) text = behind_one sign (begins pattern) text

abbrev pub is_ended : List ℕ → Bool
is_ended [] = true
is_ended _ = false

-- both are empty; `%` and any run; `_` and one character; a character and itself
abbrev pub matches : List ℕ → List ℕ → Bool
matches [] text = is_ended text
matches (sign ∷ pattern) text = if sign == any_run then some_rest (matches pattern) text else behind_one sign (matches pattern) text

-- the characters, by default case folding where case makes no difference
abbrev pub folded : Bool → List ℕ → List ℕ
folded folds characters = if folds then default_case_fold characters else characters

-- between runs where the text may stand anywhere
abbrev pub between : Bool → List ℕ → List ℕ
between anywhere characters = if anywhere then any_run ∷ characters ++ any_run ∷ [] else characters

-- the pattern that a text is
abbrev pub pattern_from : Likeness → List ℕ → Pattern
pattern_from how text = record { characters = between how.anywhere (folded how.folds (chars text)); folds = how.folds }
