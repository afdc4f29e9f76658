-- The forms of values in words.
use Rattle.std.specs.Prelude.{ℕ, ◌==◌, ◌&&◌, nat_le, nat_lt, List, [], ◌∷◌, codes, length, Bool, if◌then◌else◌, Option, Some, None}
use Rattle.std.specs.Char.{is_ascii_digit}
use Rattle.std.specs.List.{after_first, before_first, list_all, list_any}
use Rattle.std.specs.Str.{bytes_eq}
use Rattle.std.specs.Str.Parse.{digits_value}
use Rattle.ob_definition.specs.Names.{is_field_name}

-- what a run does: it serves the lines of the input, it serves connections, or it audits the store
pub data Action : Type 0 where
  call : Action
  serve : Action
  audit : Action

-- the action of a name
abbrev pub action_of : List ℕ → Option Action
action_of name =
    if bytes_eq name (codes "call") then Some call
    else if bytes_eq name (codes "serve") then Some serve
    else if bytes_eq name (codes "audit") then Some audit
    else None

-- a text that names a folder, a file or a database: any that doesn't begin with a hyphen, of a byte at least
abbrev pub name_of : List ℕ → Option (List ℕ)
name_of [] = None
name_of (byte ∷ bytes) = if byte == 45 then None else Some (byte ∷ bytes)

-- a module is named as a field is
abbrev pub are_modules : List (List ℕ) → Bool
are_modules names = list_all is_field_name names

-- decimal digits, so many at most and one at least
abbrev pub is_number : (digits : ℕ) → List ℕ → Bool
is_number digits text = nat_lt 0 (length text) && nat_le (length text) digits && list_all is_ascii_digit text

-- the number that so many digits at most write, where it lies within these bounds
abbrev pub number_of : (digits least most : ℕ) → List ℕ → Option ℕ
number_of digits least most text =
    if is_number digits text && nat_le least (digits_value 10 text) && nat_le (digits_value 10 text) most then Some (digits_value 10 text) else None

-- how many rows the engine may hold in memory beside those that are staged
abbrev pub cache_of : List ℕ → Option ℕ
cache_of text = number_of 10 16 1000000 text

-- how many connections are served at most
abbrev pub limit_of : List ℕ → Option ℕ
limit_of text = number_of 10 1 4294967295 text

-- a colon stands between an address and its port
abbrev pub is_colon : ℕ → Bool
is_colon byte = byte == 58

-- the port of an address of loopback
abbrev pub port_of : List ℕ → Option ℕ
port_of text =
    if list_any is_colon text && bytes_eq (before_first is_colon text) (codes "127.0.0.1") then number_of 5 0 65535 (after_first is_colon text)
    else None
