-- The arguments of the command line, as the kit's parser of words has them, and what words say of each.
use Rattle.std.specs.Prelude.{ℕ, ◌||◌, true, not, List, [], ◌∷◌, codes, if◌then◌else◌, Option, Some, None}
use Rattle.std.specs.List.{list_any}
use Rattle.std.specs.Str.{bytes_eq}
use Rattle.clap.specs.Faults.{fault_of}
use Rattle.clap.specs.Simple.{App, matches_of, new_app, new_rule}
use Rattle.clap.specs.Walk.{Row, Rule, is_empty}
use Rattle.clap.specs.declared.builder.action.ArgAction.TheVariants.{Append}

-- a word that is neither an option nor a value, which must be there, once
abbrev pub plain_word : List ℕ → Rule
plain_word name = record (new_rule name) { required = true }

-- an option with one value, as `--NAME VALUE` or `--NAME=VALUE`, once at most
abbrev pub option : List ℕ → Rule
option name = record (new_rule name) { long = Some name; value_names = 1 }

-- the same, with the value that it has where it isn't named
abbrev pub option_or : (name value : List ℕ) → Rule
option_or name value = record (option name) { defaults = value ∷ [] }

-- an option that may be named any number of times
abbrev pub repeated : List ℕ → Rule
repeated name = record (option name) { action = Some Append }

-- the action
abbrev pub action_word : Rule
action_word = plain_word (codes "action")

-- what may be said
abbrev pub arguments : List Rule
arguments =
    action_word
    ∷ option_or (codes "modules") (codes "modules")
    ∷ repeated (codes "load")
    ∷ option_or (codes "db") (codes "stock")
    ∷ option (codes "store")
    ∷ option_or (codes "cache") (codes "4096")
    ∷ option_or (codes "listen") (codes "127.0.0.1:8069")
    ∷ option_or (codes "connections") (codes "1000000")
    ∷ []

-- the command line without arguments: words without the program's name before them, and no flag for help
abbrev pub bare : App
bare = let plain = new_app (codes "stockd") in record plain { top = record plain.top { no_binary_name = true; disable_help_flag = true } }

-- the command line
abbrev pub stockd : App
stockd = record bare { top = record bare.top { rules = arguments } }

-- what words say of each argument, where none is `--`, behind which the parser takes no word for an option, and it finds no fault with them
unfoldable pub rows_said : List (List ℕ) → Option (List Row)
rows_said words = if list_any (bytes_eq (codes "--")) words || not (is_empty (fault_of stockd words)) then None else Some (matches_of stockd words)
