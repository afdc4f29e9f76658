-- The machine's `fields_get`: what the fields of a model are.
use Rattle.std.specs.Prelude.{◌≡◌, ◌++◌, ℕ, List, [], ◌∷◌, map, filter, codes, bytes_eq, Bool, true, false, Option, option_and_then, Result, Ok, Err, if◌then◌else◌}
use Rattle.std.specs.List.{list_any}
use Rattle.std.specs.Option.{option_map_or}
use Rattle.serde_json.specs.Data.{Data, boolean, string, array, object, Members, no_members, put}
use Rattle.serde_json.specs.Find.{as_str}
use Rattle.serde_json.specs.View.{items_of}
use Rattle.ob_access.specs.Policies.{PolicyData}
use Rattle.ob_access.specs.Rights.{field_right}
use Rattle.ob_base.specs.declared.id.ModelNo.{ModelNo}
use Rattle.ob_base.specs.declared.id.RecId.{RecId}
use Rattle.ob_base.specs.declared.refusal.Refusal.{Refusal}
use Rattle.ob_base.specs.declared.refusal.Refusal.TheVariants as refusal
use Rattle.ob_call.specs.Arguments.{Expected, Given, arguments_of}
use Rattle.ob_call.specs.Called.{Called}
use Rattle.ob_call.specs.Columns.{asked_columns}
use Rattle.ob_call.specs.Forms.{names_fault, texts_fault}
use Rattle.ob_codec.specs.Commands.{listed}
use Rattle.ob_definition.specs.Keys.{is_selection}
use Rattle.ob_definition.specs.declared.field_type.Choice.{Choice}
use Rattle.ob_definition.specs.declared.field_type.FieldType.{FieldType}
use Rattle.ob_definition.specs.declared.field_type.FieldType.TheVariants as type
use Rattle.ob_rows.specs.Rights.{ByGroups}
use Rattle.ob_rows.specs.Values.{is_readonly}
use Rattle.ob_schema.specs.Fields.{Column}
use Rattle.ob_schema.specs.Models.{model_at}
use Rattle.ob_schema.specs.Tables.{Tables}
use Rattle.ob_schema.specs.declared.info.FieldInfo.{FieldInfo}
use Rattle.ob_schema.specs.declared.info.ModelInfo.{ModelInfo}

-- what a fields_get is called with: names of fields, and words for what is to be told of them
abbrev pub fields_get_expects : List FieldInfo → List Expected
fields_get_expects fields = record { name = codes "allfields"; required = false; fault = names_fault fields } ∷ record { name = codes "attributes"; required = false; fault = texts_fault } ∷ []

-- a type by the word that module files have for it
abbrev pub type_name : FieldType → List ℕ
type_name type.Boolean = codes "boolean"
type_name type.Integer = codes "integer"
type_name type.Char = codes "char"
type_name type.Text = codes "text"
type_name type.Date = codes "date"
type_name type.Datetime = codes "datetime"
type_name type.Selection = codes "selection"
type_name type.Many2one = codes "many2one"
type_name type.One2many = codes "one2many"
type_name type.Many2many = codes "many2many"

-- something that is told, by its word
abbrev pub Attribute : Type 0
Attribute = List ℕ × Data

-- a key of a selection with its label
abbrev pub choice_data : Choice → Data
choice_data choice = array (items_of (string choice.key ∷ string choice.label ∷ []))

-- the keys of a selection, with their labels
abbrev pub selection_of : FieldInfo → List Attribute
selection_of field = if is_selection field.field_type then (codes "selection", array (items_of (map choice_data field.selection))) ∷ [] else []

module _ (models : List ModelInfo) where
  -- the name of the model whose rows a relation names
  abbrev pub relation_of : FieldInfo → List Attribute
  relation_of field = option_map_or (λ info. (codes "relation", string info.name) ∷ []) (option_and_then (model_at models) field.relation) []

  -- all that is told of a field
  abbrev pub attributes_of : FieldInfo → List Attribute
  attributes_of field =
      (codes "name", string field.name) ∷ (codes "readonly", boolean (is_readonly models field)) ∷ (relation_of field ++ ((codes "required", boolean field.required) ∷ (selection_of field
      ++ ((codes "store", boolean field.store) ∷ (codes "string", string field.string) ∷ (codes "type", string (type_name field.field_type)) ∷ []))))

-- the members of these names and values
abbrev pub members_put : List (List ℕ × Data) → Members → Members
members_put [] members = members
members_put (m ∷ ms) members = members_put ms (put m.0 m.1 members)

-- the text is this word
abbrev pub is_word : List ℕ → Data → Bool
is_word word d = option_map_or (bytes_eq word) (as_str d) false

-- one of the texts is the word; or there are none, which asks for all
abbrev pub asks : List Data → List ℕ → Bool
asks [] word = true
asks (d ∷ ds) word = list_any (is_word word) (d ∷ ds)

-- the items of a list
abbrev pub items_in : Data → List Data
items_in (array items) = listed items
items_in _ = []

-- the texts of an argument
abbrev pub texts_in : Option Given → List Data
texts_in given = option_map_or (λ g. items_in g.json) given []

-- the object that tells of a field what the texts ask for
abbrev pub field_data : List ModelInfo → List Data → FieldInfo → Data
field_data models texts field = object (members_put (filter (λ a. asks texts a.0) (attributes_of models field)) no_members)

-- the object that tells of these fields, each by its name
abbrev pub fields_data : List ModelInfo → List Data → List Column → Data
fields_data models texts columns = object (members_put (map (λ column. (column.1.name, field_data models texts column.1)) columns) no_members)

-- of some fields of a model those that a caller in these groups may read
abbrev pub readable : PolicyData → List RecId → RecId → ModelNo → List Column → List Column
readable policy own user model columns = filter (λ column. field_right policy own user model (record { 0 = column.0 }) false) columns

-- what the arguments ask for, of the fields that the caller may read
abbrev pub fields_told : List ModelInfo → PolicyData → List RecId → Called → List (Option Given) → Data
fields_told models policy own c (names ∷ texts ∷ []) = fields_data models (texts_in texts) (readable policy own c.caller c.model (asked_columns c.info names))
fields_told models policy own c _ = fields_data models [] []

-- why a fields_get is refused
abbrev pub GetsFieldsCause : Called → Refusal → Type 0
GetsFieldsCause c (refusal.Request place) = arguments_of (fields_get_expects c.info.fields) c.args c.kw ≡ Err place
GetsFieldsCause c _ = ⊥

-- a fields_get that is answered, by the caller's groups: with the object of the fields
abbrev pub TellsFields : List ModelInfo → PolicyData → Called → Data → List RecId → Type 0
TellsFields models policy c json own = (given : List (Option Given)) × (arguments_of (fields_get_expects c.info.fields) c.args c.kw ≡ Ok given) × (json ≡ fields_told models policy own c given)

-- The machine answers a fields_get with the object of the fields that its caller may read, by the
-- groups that he has in the tables, or with why not. It asks no right: a field that he may not read
-- is left out, also where it is named.
abbrev pub GetsFields : List ModelInfo → PolicyData → Called → Tables → Result Data Refusal → Type 0
GetsFields models policy c tables (Ok json) = ByGroups models policy tables c.caller (TellsFields models policy c json)
GetsFields models policy c tables (Err why) = GetsFieldsCause c why
