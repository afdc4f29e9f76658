-- The bytes of the reserved words and the symbols. One that is added to the language has its bytes here.
use Rattle.std.specs.Prelude.{ℕ, ◌==◌, ◌&&◌, List, codes, true, false, Option, Some, None, if◌then◌else◌}
use Rattle.std.specs.Str.{bytes_eq}
use Rattle.ob_base.specs.declared.syntax.Operator.TheVariants.{Or, And, Equal, NotEqual, Less, LessOrEqual, Greater, GreaterOrEqual, Add, Subtract, Multiply, Divide, Modulo}
use Rattle.ob_syntax.specs.declared.sign.Sign.{Sign}
use Rattle.ob_syntax.specs.declared.sign.Sign.TheVariants.{Operator, Not, Truth, Unset, Dot, Comma, Open, Close}

-- the sign that a word is; the reserved words are no names
unfoldable pub reserved_sign : List ℕ → Option Sign
reserved_sign word =
    if bytes_eq word (codes "or") then Some (Operator Or)
    else if bytes_eq word (codes "and") then Some (Operator And)
    else if bytes_eq word (codes "not") then Some Not
    else if bytes_eq word (codes "div") then Some (Operator Divide)
    else if bytes_eq word (codes "mod") then Some (Operator Modulo)
    else if bytes_eq word (codes "true") then Some (Truth true)
    else if bytes_eq word (codes "false") then Some (Truth false)
    else if bytes_eq word (codes "unset") then Some Unset
    else None

-- `!=`, `<=` and `>=`
unfoldable pub pair_sign : ℕ → ℕ → Option Sign
pair_sign b c =
    if (b == 33) && (c == 61) then Some (Operator NotEqual)
    else if (b == 60) && (c == 61) then Some (Operator LessOrEqual)
    else if (b == 62) && (c == 61) then Some (Operator GreaterOrEqual)
    else None

-- `=`, `<`, `>`, `+`, `-`, `*`, `.`, `,`, `(` and `)`
unfoldable pub single_sign : ℕ → Option Sign
single_sign b =
    if b == 61 then Some (Operator Equal)
    else if b == 60 then Some (Operator Less)
    else if b == 62 then Some (Operator Greater)
    else if b == 43 then Some (Operator Add)
    else if b == 45 then Some (Operator Subtract)
    else if b == 42 then Some (Operator Multiply)
    else if b == 46 then Some Dot
    else if b == 44 then Some Comma
    else if b == 40 then Some Open
    else if b == 41 then Some Close
    else None
