-- The context of a call, which every call takes: what of it is read.
use Rattle.std.specs.Prelude.{List, ℕ, codes, Bool, false, not, Option, Some, None, option_and_then}
use Rattle.serde_json.specs.Data.{Data, boolean, object}
use Rattle.serde_json.specs.Find.{get_member}

-- the value of a key of an object; no other value has one
abbrev pub value_of_key : List ℕ → Data → Option Data
value_of_key name (object members) = get_member name members
value_of_key name _ = None

-- `false` itself
abbrev pub is_false : Option Data → Bool
is_false (Some (boolean b)) = not b
is_false _ = false

-- whether a search may leave out rows that aren't active: not where the context's `active_test` is literally `false`
abbrev pub active_test : Data → Bool
active_test kw = not (is_false (option_and_then (value_of_key (codes "active_test")) (value_of_key (codes "context") kw)))
