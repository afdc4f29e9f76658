-- A text as tokens, each as long as can be. A kind of token that is added to the language has its constructor and its bytes here.
use Rattle.std.specs.Prelude.{ℕ, zero, suc, ◌+◌, ◌-◌, ◌^◌, ◌==◌, ◌&&◌, ◌||◌, nat_le, nat_lt, not, ℤ, pos, List, [], ◌∷◌, length, drop, take_while, Bool, false, Option, Some, None, if◌then◌else◌}
use Rattle.std.specs.Str.Parse.{digits_value}
use Rattle.ob_base.specs.NameBytes.{is_letter, is_digit, is_name_byte}
use Rattle.ob_syntax.specs.declared.lexeme.Token.{Token}
use Rattle.ob_syntax.specs.declared.lexeme.Token.TheVariants as token
use Rattle.ob_syntax.specs.declared.sign.Sign.{Sign}
use Rattle.ob_syntax.specs.Signs.{reserved_sign, pair_sign, single_sign}

-- a name, a number, a text, a reserved word or symbol, or what the language doesn't have; each with its offset
pub data Lexeme : Type 0 where
  name : List ℕ → ℕ → Lexeme
  number : ℤ → ℕ → Lexeme
  text : List ℕ → ℕ → Lexeme
  sign : Sign → ℕ → Lexeme
  other : ℕ → Lexeme

-- the lexeme that a token refers to
abbrev pub lexeme_of : Token → Lexeme
lexeme_of (token.Name bytes at) = name bytes.now at
lexeme_of (token.Number n at) = number n at
lexeme_of (token.Text bytes at) = text bytes.now at
lexeme_of (token.Sign s at) = sign s at
lexeme_of (token.Other at) = other at

abbrev pub offset_of : Lexeme → ℕ
offset_of (name bytes at) = at
offset_of (number n at) = at
offset_of (text bytes at) = at
offset_of (sign s at) = at
offset_of (other at) = at

-- a space, a tab or a line feed
unfoldable pub is_separator : ℕ → Bool
is_separator b = (b == 32) || (b == 9) || (b == 10)

-- what opens a text, and closes it
abbrev pub is_quote : ℕ → Bool
is_quote b = (b == 34) || (b == 39)

-- what may stand in a text: neither its quote nor a line feed
abbrev pub is_text_byte : ℕ → ℕ → Bool
is_text_byte quote b = not ((b == quote) || (b == 10))

-- the bytes begin with this one
abbrev pub begins_with : ℕ → List ℕ → Bool
begins_with quote [] = false
begins_with quote (b ∷ bytes) = b == quote

-- a token, and how many bytes it takes
pub record Cut : Type 0 where
  pub lexeme : Lexeme
  pub len : ℕ

-- a run that begins with a letter: a reserved word, or else a name
abbrev pub sign_or : Option Sign → ℕ → Lexeme → Lexeme
sign_or (Some s) at lexeme = sign s at
sign_or None at lexeme = lexeme

unfoldable pub word_lexeme : List ℕ → ℕ → Lexeme
word_lexeme run at = sign_or (reserved_sign run) at (name run at)

-- a run of digits: its number, where 64 bits with a sign have it
unfoldable pub number_lexeme : List ℕ → ℕ → Lexeme
number_lexeme run at = if nat_lt (digits_value 10 run) (2 ^ 63) then number (pos (digits_value 10 run)) at else other at

-- behind a quote: the text up to the next one; without one, the quote is no token of the language
unfoldable pub text_cut : ℕ → List ℕ → ℕ → Cut
text_cut quote bytes at =
    let inside = take_while (is_text_byte quote) bytes in
    if begins_with quote (drop (length inside) bytes)
    then record { lexeme = text inside at; len = length inside + 2 }
    else record { lexeme = other at; len = 1 }

-- a symbol of two bytes, or else of one
abbrev pub pair_cut : Option Sign → Option Sign → ℕ → Cut
pair_cut (Some s) single at = record { lexeme = sign s at; len = 2 }
pair_cut None (Some s) at = record { lexeme = sign s at; len = 1 }
pair_cut None None at = record { lexeme = other at; len = 1 }

abbrev pub symbol_cut : ℕ → List ℕ → ℕ → Cut
symbol_cut b [] at = pair_cut None (single_sign b) at
symbol_cut b (c ∷ bytes) at = pair_cut (pair_sign b c) (single_sign b) at

-- the token that begins with a byte, as long as can be
unfoldable pub front_cut : ℕ → List ℕ → ℕ → Cut
front_cut b bytes at =
    if is_letter b then (let run = take_while is_name_byte (b ∷ bytes) in record { lexeme = word_lexeme run at; len = length run })
    else if is_digit b then (let run = take_while is_digit (b ∷ bytes) in record { lexeme = number_lexeme run at; len = length run })
    else if is_quote b then text_cut b bytes at
    else symbol_cut b bytes at

-- the tokens of what stands from an offset on, where so many bytes belong to the token before
abbrev pub lexemes_from : ℕ → ℕ → List ℕ → List Lexeme
lexemes_from taken at [] = []
lexemes_from (suc taken) at (b ∷ bytes) = lexemes_from taken (at + 1) bytes
lexemes_from zero at (b ∷ bytes) =
    if is_separator b then lexemes_from 0 (at + 1) bytes
    else ((front_cut b bytes at).lexeme ∷ lexemes_from ((front_cut b bytes at).len - 1) (at + 1) bytes)

-- the tokens of a text
abbrev pub lexemes : List ℕ → List Lexeme
lexemes bytes = lexemes_from 0 0 bytes
