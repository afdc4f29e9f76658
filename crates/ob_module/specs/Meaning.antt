-- What a document declares, key by key. Of a document of another form this says nothing that counts.
use Rattle.std.specs.Prelude.{ℕ, List, [], ◌∷◌, codes, map, Bool, false, Option, option_map, option_and_then, unwrap_or}
use Rattle.std.specs.Option.{option_map_or}
use Rattle.ob_base.specs.declared.value.Value.{Value}
use Rattle.ob_base.specs.declared.value.Value.TheVariants as value
use Rattle.ob_dates.specs.Texts.{day_from, moment_from}
use Rattle.ob_definition.specs.declared.definition.Check.{Check}
use Rattle.ob_definition.specs.declared.definition.FieldDef.{FieldDef}
use Rattle.ob_definition.specs.declared.definition.Inherits.{Inherits}
use Rattle.ob_definition.specs.declared.definition.ModelDef.{ModelDef}
use Rattle.ob_definition.specs.declared.field_type.Choice.{Choice}
use Rattle.ob_definition.specs.declared.field_type.FieldType.{FieldType}
use Rattle.ob_definition.specs.declared.field_type.FieldType.TheVariants as type
use Rattle.ob_definition.specs.declared.field_type.OnDelete.{OnDelete}
use Rattle.toml.specs.Data.{Data, string, integer, boolean, array, table, Items, no_items, item, Members, no_members, member, as_bool, as_str, at, get}
use Rattle.ob_module.specs.Keys.{ondelete_named, type_named}

-- the text itself; no other value has one
abbrev pub text_of : Data → List ℕ
text_of d = unwrap_or (as_str d) []

-- the items of a list; no other value has any
abbrev pub listed : Items → List Data
listed no_items = []
listed (item d rest) = d ∷ listed rest

abbrev pub items_of : Data → List Data
items_of (array items) = listed items
items_of _ = []

-- the members of a table, in byte order of keys; no other value has any
abbrev pub paired : Members → List (List ℕ × Data)
paired no_members = []
paired (member key d rest) = (key, d) ∷ paired rest

abbrev pub members_of : Data → List (List ℕ × Data)
members_of (table members) = paired members
members_of _ = []

-- the texts of a list, and one of them by its number
abbrev pub texts_of : Data → List (List ℕ)
texts_of d = map text_of (items_of d)

abbrev pub nth_text : ℕ → Data → List ℕ
nth_text n d = option_map_or text_of (at n d) []

-- what stands at a key of a table: a text, a flag, texts, items, members
abbrev pub text_at : List ℕ → Data → Option (List ℕ)
text_at key d = option_and_then as_str (get key d)

abbrev pub flag_at : List ℕ → Data → Option Bool
flag_at key d = option_and_then as_bool (get key d)

abbrev pub texts_at : List ℕ → Data → Option (List (List ℕ))
texts_at key d = option_map texts_of (get key d)

-- the text at a key, the empty one where there is none
abbrev pub word_at : List ℕ → Data → List ℕ
word_at key d = unwrap_or (text_at key d) []

-- a flag that is set
abbrev pub is_set : List ℕ → Data → Bool
is_set key d = unwrap_or (flag_at key d) false

abbrev pub items_at : List ℕ → Data → List Data
items_at key d = option_map_or items_of (get key d) []

abbrev pub members_at : List ℕ → Data → List (List ℕ × Data)
members_at key d = option_map_or members_of (get key d) []

-- a text as a value of the type; the text of a date that doesn't exist stays a text
abbrev pub text_constant : FieldType → List ℕ → Value
text_constant type.Date text = option_map_or value.Day (day_from text) (value.Word text)
text_constant type.Datetime text = option_map_or value.Moment (moment_from text) (value.Word text)
text_constant _ text = value.Word text

-- a default as a value of the type
abbrev pub constant_of : FieldType → Data → Value
constant_of t (string text) = text_constant t text
constant_of t (integer n) = value.Int n
constant_of t (boolean b) = value.Bool b
constant_of t _ = value.Nil

-- the type of a field
abbrev pub type_of_field : Data → FieldType
type_of_field d = unwrap_or (option_and_then type_named (text_at (codes "type") d)) type.Boolean

-- what becomes of its row when its target is deleted
abbrev pub ondelete_of_field : Data → Option OnDelete
ondelete_of_field d = option_and_then ondelete_named (text_at (codes "ondelete") d)

-- a key of a selection, with its words
abbrev pub choice_from : Data → Choice
choice_from d = record { key = nth_text 0 d; label = nth_text 1 d }

-- a field of this name
abbrev pub field_from : List ℕ → Data → FieldDef
field_from name d = record {
  name = name;
  field_type = type_of_field d;
  string = text_at (codes "string") d;
  required = flag_at (codes "required") d;
  default = option_map (constant_of (type_of_field d)) (get (codes "default") d);
  compute = text_at (codes "compute") d;
  depends = texts_at (codes "depends") d;
  store = flag_at (codes "store") d;
  recursive = flag_at (codes "recursive") d;
  related = text_at (codes "related") d;
  relation = text_at (codes "relation") d;
  inverse = text_at (codes "inverse") d;
  mirror = text_at (codes "mirror") d;
  ondelete = ondelete_of_field d;
  selection = option_map (λ list. map choice_from (items_of list)) (get (codes "selection") d);
  groups = texts_at (codes "groups") d;
  managed = flag_at (codes "managed") d;
  fixed = flag_at (codes "fixed") d;
  secret = flag_at (codes "secret") d;
}

-- a parent with its link, and a condition by its name
abbrev pub parent_from : Data → Inherits
parent_from d = record { model = nth_text 0 d; link = nth_text 1 d }

abbrev pub check_from : List ℕ → Data → Check
check_from name d = record { name = name; expression = text_of d }

-- a `[[model]]` table, its fields in byte order of names
abbrev pub model_from : Data → ModelDef
model_from d = record {
  name = text_at (codes "name") d;
  inherit = text_at (codes "inherit") d;
  inherits = map parent_from (items_at (codes "inherits") d);
  order = text_at (codes "order") d;
  parent = text_at (codes "parent") d;
  unique = map texts_of (items_at (codes "unique") d);
  checks = map (λ m. check_from m.0 m.1) (members_at (codes "check") d);
  locked = text_at (codes "locked") d;
  managed = flag_at (codes "managed") d;
  fields = map (λ m. field_from m.0 m.1) (members_at (codes "field") d);
}

-- the models of a document, and the modules on which it depends, in its order
abbrev pub models_of : Members → List ModelDef
models_of document = map model_from (items_at (codes "model") (table document))

abbrev pub depends_of : Members → List (List ℕ)
depends_of document = unwrap_or (texts_at (codes "depends") (table document)) []
