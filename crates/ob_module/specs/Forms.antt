-- The forms of values in a module's text: where a value breaks a form first. Keys are gone through in byte order, items of lists by number.
use Rattle.std.specs.Prelude.{ℕ, ◌+◌, List, [], ◌∷◌, Bool, true, false, if◌then◌else◌, is_some, Option, Some, None, option_map}
use Rattle.std.specs.Cmp.Lexicographic.{slice_cmp}
use Rattle.std.specs.Option.{option_map_or}
use Rattle.std.specs.Ordering.{is_lt, nat_cmp}
use Rattle.ob_base.specs.declared.place.PathStep.{PathStep}
use Rattle.ob_base.specs.declared.place.PathStep.TheVariants.{Key, Item}
use Rattle.ob_definition.specs.Definitions.{first_of}
use Rattle.toml.specs.Data.{Data, string, integer, boolean, array, table, Items, no_items, item, Members, no_members, member, get, get_member}

-- the steps from a value down to where it breaks the form first; none where it is of the form
abbrev pub Form : Type 0
Form = Data → Option (List PathStep)

-- the value itself is of another form
abbrev pub here : Option (List PathStep)
here = Some []

-- wrong here, unless the value fits
abbrev pub unless : Bool → Option (List PathStep)
unless fits = if fits then None else here

-- what is wrong with a part, as it is told from the whole
abbrev pub under : PathStep → Option (List PathStep) → Option (List PathStep)
under step wrong = option_map (λ path. step ∷ path) wrong

-- a text that passes a test
abbrev pub text_where : (List ℕ → Bool) → Form
text_where test (string text) = unless (test text)
text_where test _ = here

-- any text
abbrev pub text : Form
text = text_where (λ _. true)

-- true or false
abbrev pub flag : Form
flag (boolean _) = None
flag _ = here

-- a text, an integer or a flag
abbrev pub constant : Form
constant (string _) = None
constant (integer _) = None
constant (boolean _) = None
constant _ = here

-- any table
abbrev pub any_table : Form
any_table (table _) = None
any_table _ = here

-- the first item that is wrong, from this number on
abbrev pub wrong_item : Form → ℕ → Items → Option (List PathStep)
wrong_item form n no_items = None
wrong_item form n (item d rest) = first_of (under (Item n) (form d)) (wrong_item form (n + 1) rest)

-- a list whose items are of a form
abbrev pub list_of : Form → Form
list_of form (array items) = wrong_item form 0 items
list_of form _ = here

-- a list of two, each of its form
abbrev pub pair_of : Form → Form → Form
pair_of first second (array (item a (item b no_items))) = first_of (under (Item 0) (first a)) (under (Item 1) (second b))
pair_of first second _ = here

-- a key, and the form of its value, none where there may be no such key
abbrev pub Keys : Type 0
Keys = List ℕ → Option Form

-- a member, by its key: one that may not be there is wrong itself
abbrev pub wrong_value : Keys → List ℕ → Data → Option (List PathStep)
wrong_value keys key d = under (Key key) (option_map_or (λ form. form d) (keys key) here)

-- a missing key, where it would stand
abbrev pub missing_place : Option (List ℕ) → Option (List PathStep)
missing_place missing = option_map (λ key. Key key ∷ []) missing

-- a missing key would stand before another
abbrev pub stands_before : Option (List ℕ) → List ℕ → Bool
stands_before missing key = option_map_or (λ own. is_lt (slice_cmp nat_cmp own key)) missing false

-- the first member that is wrong or missing
abbrev pub wrong_member : Keys → Option (List ℕ) → Members → Option (List PathStep)
wrong_member keys missing no_members = missing_place missing
wrong_member keys missing (member key d rest) = if stands_before missing key then missing_place missing else first_of (wrong_value keys key d) (wrong_member keys missing rest)

-- the key, where no member has it
abbrev pub absent : List ℕ → Members → Option (List ℕ)
absent key members = if is_some (get_member key members) then None else Some key

-- no key must be there
abbrev pub no_key : Members → Option (List ℕ)
no_key _ = None

-- a table with these keys, of which one may have to be there
abbrev pub table_of : Keys → (Members → Option (List ℕ)) → Form
table_of keys missing (table members) = wrong_member keys (missing members) members
table_of keys missing _ = here

-- any keys that pass a test, with values of a form
abbrev pub keys_where : (List ℕ → Bool) → Form → Keys
keys_where test form key = if test key then Some form else None

abbrev pub any_key : List ℕ → Bool
any_key key = true

-- the first of these keys that no member has
abbrev pub first_absent : List (List ℕ) → Members → Option (List ℕ)
first_absent [] _ = None
first_absent (key ∷ keys) members = first_of (absent key members) (first_absent keys members)

-- what stands at a key, if anything does, is of a form
abbrev pub at_key : List ℕ → Form → Form
at_key key form d = option_map_or (λ v. under (Key key) (form v)) (get key d) None

-- a table that needs no key
abbrev pub table_where : (List ℕ → Bool) → Form → Form
table_where test form = table_of (keys_where test form) no_key
