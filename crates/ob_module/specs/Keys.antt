-- Which keys the tables of a module's text have, and the form of each. A key of the format that is added has its line here, and its meaning in Meaning.
use Rattle.std.specs.Prelude.{ℕ, List, [], ◌∷◌, codes, is_some, if◌then◌else◌, Bool, Option, None}
use Rattle.std.specs.List.{list_any}
use Rattle.std.specs.Map.{lookup}
use Rattle.std.specs.Str.{bytes_eq}
use Rattle.ob_definition.specs.Names.{is_field_name, is_model_name}
use Rattle.ob_definition.specs.declared.field_type.FieldType.{FieldType}
use Rattle.ob_definition.specs.declared.field_type.FieldType.TheVariants as type
use Rattle.ob_definition.specs.declared.field_type.OnDelete.{OnDelete}
use Rattle.ob_definition.specs.declared.field_type.OnDelete.TheVariants as ondelete
use Rattle.toml.specs.Data.{Members, get_member}
use Rattle.ob_module.specs.Forms.{Form, Keys, absent, any_key, any_table, constant, first_absent, flag, list_of, pair_of, table_of, table_where, text, text_where}

-- the types of fields, by their names
abbrev pub type_names : List (List ℕ × FieldType)
type_names =
    (codes "boolean", type.Boolean) ∷ (codes "integer", type.Integer) ∷ (codes "char", type.Char) ∷ (codes "text", type.Text)
    ∷ (codes "date", type.Date) ∷ (codes "datetime", type.Datetime) ∷ (codes "selection", type.Selection)
    ∷ (codes "many2one", type.Many2one) ∷ (codes "one2many", type.One2many) ∷ (codes "many2many", type.Many2many) ∷ []

abbrev pub type_named : List ℕ → Option FieldType
type_named name = lookup (bytes_eq name) type_names

-- what becomes of a row whose many2one names a deleted one, by its name
abbrev pub ondelete_names : List (List ℕ × OnDelete)
ondelete_names = (codes "set null", ondelete.SetNull) ∷ (codes "restrict", ondelete.Restrict) ∷ (codes "cascade", ondelete.Cascade) ∷ []

abbrev pub ondelete_named : List ℕ → Option OnDelete
ondelete_named name = lookup (bytes_eq name) ondelete_names

-- the keys of a list
abbrev pub among : List (List ℕ × Form) → Keys
among keys key = lookup (bytes_eq key) keys

abbrev pub texts : Form
texts = list_of text

-- a field
abbrev pub field_keys : List (List ℕ × Form)
field_keys =
    (codes "type", text_where (λ name. is_some (type_named name))) ∷ (codes "string", text) ∷ (codes "required", flag) ∷ (codes "default", constant)
    ∷ (codes "compute", text) ∷ (codes "depends", texts) ∷ (codes "store", flag) ∷ (codes "recursive", flag) ∷ (codes "related", text)
    ∷ (codes "relation", text) ∷ (codes "inverse", text) ∷ (codes "mirror", text) ∷ (codes "ondelete", text_where (λ name. is_some (ondelete_named name)))
    ∷ (codes "selection", list_of (pair_of text text)) ∷ (codes "groups", texts) ∷ (codes "managed", flag) ∷ (codes "fixed", flag) ∷ (codes "secret", flag) ∷ []

-- a field has a type
abbrev pub field : Form
field = table_of (among field_keys) (absent (codes "type"))

-- a model
abbrev pub model_keys : List (List ℕ × Form)
model_keys =
    (codes "name", text_where is_model_name) ∷ (codes "inherit", text) ∷ (codes "inherits", list_of (pair_of text (text_where is_field_name)))
    ∷ (codes "order", text) ∷ (codes "parent", text) ∷ (codes "unique", list_of texts) ∷ (codes "check", table_where any_key text)
    ∷ (codes "locked", text) ∷ (codes "managed", flag) ∷ (codes "field", table_where is_field_name field) ∷ []

-- an entry that inherits from no model names its own
abbrev pub missing_name : Members → Option (List ℕ)
missing_name members = if is_some (get_member (codes "inherit") members) then None else absent (codes "name") members

abbrev pub model : Form
model = table_of (among model_keys) missing_name

-- a group
abbrev pub group_keys : List (List ℕ × Form)
group_keys = (codes "name", text) ∷ (codes "implies", texts) ∷ []

abbrev pub group : Form
group = table_of (among group_keys) (absent (codes "name"))

-- an access line
abbrev pub access_keys : List (List ℕ × Form)
access_keys =
    (codes "model", text) ∷ (codes "group", text) ∷ (codes "read", flag) ∷ (codes "create", flag) ∷ (codes "write", flag) ∷ (codes "unlink", flag) ∷ []

abbrev pub access : Form
access = table_of (among access_keys) (absent (codes "model"))

-- an operation, by its name
abbrev pub is_op_name : List ℕ → Bool
is_op_name name = list_any (λ own. bytes_eq own name) (codes "read" ∷ codes "create" ∷ codes "write" ∷ codes "unlink" ∷ [])

-- a rule
abbrev pub rule_keys : List (List ℕ × Form)
rule_keys = (codes "name", text) ∷ (codes "model", text) ∷ (codes "groups", texts) ∷ (codes "ops", list_of (text_where is_op_name)) ∷ (codes "domain", text) ∷ []

abbrev pub rule : Form
rule = table_of (among rule_keys) (first_absent (codes "domain" ∷ codes "model" ∷ codes "name" ∷ []))

-- a row
abbrev pub row_keys : List (List ℕ × Form)
row_keys = (codes "model", text) ∷ (codes "ref", text) ∷ (codes "values", any_table) ∷ []

abbrev pub row : Form
row = table_of (among row_keys) (first_absent (codes "model" ∷ codes "ref" ∷ codes "values" ∷ []))

-- what names a row: a table with its full name alone
abbrev pub reference_keys : List (List ℕ × Form)
reference_keys = (codes "ref", text) ∷ []

abbrev pub reference_table : Form
reference_table = table_of (among reference_keys) (absent (codes "ref"))

-- a document, which says the name of its module
abbrev pub document_keys : List ℕ → List (List ℕ × Form)
document_keys name =
    (codes "name", text_where (bytes_eq name)) ∷ (codes "depends", texts) ∷ (codes "model", list_of model) ∷ (codes "group", list_of group)
    ∷ (codes "access", list_of access) ∷ (codes "rule", list_of rule) ∷ (codes "row", list_of row) ∷ []

abbrev pub document : List ℕ → Form
document name = table_of (among (document_keys name)) (absent (codes "name"))
