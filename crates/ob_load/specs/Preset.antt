-- The rows that modules bring: one for each group, then those of their tables `row`, with what their values give to fields. Of modules in which something doesn't fit this says nothing that counts.
use Rattle.std.specs.Prelude.{ℕ, ◌+◌, ◌^◌, List, [], ◌∷◌, ◌++◌, codes, decimal, fold, length, map, flat_map, nat_eq, nat_le, nat_lt, position, slice_get, Bool, true, false, is_none, if◌then◌else◌, Option, Some, None, option_map, option_and_then}
use Rattle.std.specs.BTreeSet.{insert_key}
use Rattle.std.specs.List.{enumerate_from}
use Rattle.std.specs.Option.{option_map_or}
use Rattle.std.specs.Ordering.{nat_cmp}
use Rattle.std.specs.Result.{result_ok}
use Rattle.std.specs.Str.{bytes_eq}
use Rattle.serde_json.specs.Data as json
use Rattle.serde_json.specs.Find.{of_integer}
use Rattle.toml.specs.Data.{Data, string, integer, boolean, array, get}
use Rattle.ob_base.specs.Limits.{max_char_bytes}
use Rattle.ob_base.specs.declared.id.FieldNo.{FieldNo}
use Rattle.ob_base.specs.declared.id.ModelNo.{ModelNo}
use Rattle.ob_base.specs.declared.value.Value.{Value}
use Rattle.ob_base.specs.declared.value.Value.TheVariants as value
use Rattle.ob_codec.specs.JsonForm.{value_from}
use Rattle.ob_definition.specs.Definitions.{first_of}
use Rattle.ob_definition.specs.declared.field_type.FieldType.{FieldType}
use Rattle.ob_definition.specs.declared.field_type.FieldType.TheVariants as type
use Rattle.ob_load.specs.Access.{each_behind, entries_of, group_names, model_in, name_of, ref_name}
use Rattle.ob_module.specs.Keys.{reference_table}
use Rattle.ob_module.specs.Meaning.{listed, text_at}
use Rattle.ob_module.specs.Modules.{Module}
use Rattle.ob_schema.specs.Models.{field_at, field_named, model_at, model_named}
use Rattle.ob_schema.specs.declared.info.FieldInfo.{FieldInfo}
use Rattle.ob_schema.specs.declared.info.ModelInfo.{ModelInfo}
use Rattle.ob_schema.specs.declared.preset.PresetRow.{PresetRow}
use Rattle.ob_schema.specs.declared.preset.PresetValue.{PresetValue}
use Rattle.ob_schema.specs.declared.preset.PresetValue.TheVariants as preset

-- the field of a name; conditions of a model are no fields
abbrev pub field_of : List ModelInfo → ModelNo → List ℕ → Option FieldInfo
field_of models model name = option_and_then (λ n. field_at models model n) (option_and_then (λ info. field_named info.fields name) (model_at models model))

-- ---- what a module gives a field

-- the JSON of a text, an integer or a flag
abbrev pub json_of : Data → Option json.Data
json_of (string text) = Some (json.string text)
json_of (integer n) = Some (json.number (of_integer n))
json_of (boolean b) = Some (json.boolean b)
json_of _ = None

-- the value that it is of a field that is no relation, read as calls give it
abbrev pub scalar : FieldInfo → Data → Option Value
scalar field d = option_and_then (λ given. result_ok (value_from field.field_type field.selection given)) (json_of d)

-- a row of a table, by its full name, with its model
abbrev pub Ref : Type 0
Ref = List ℕ × ModelNo

-- the row of a name among these, with its place
abbrev pub ref_named : List Ref → List ℕ → Option (ℕ × ModelNo)
ref_named refs name = option_and_then (λ i. option_map (λ r. (i, r.1)) (slice_get refs i)) (position (λ r. bytes_eq r.0 name) refs)

-- a row whose number has 32 bits, as a preset's have
abbrev pub in_32_bits : ℕ × ModelNo → Option (ℕ × ModelNo)
in_32_bits found = if nat_lt found.0 (2 ^ 32) then Some found else None

-- the field leads to rows of the model
abbrev pub is_to : FieldInfo → ModelNo → Bool
is_to field model = option_map_or (λ own. nat_eq own.0 model.0) field.relation false

-- numbers in rising order, each once
abbrev pub rising : List ℕ → List ℕ
rising numbers = fold (insert_key nat_cmp) [] numbers

-- the model whose rows groups have
abbrev pub group_model : List ModelInfo → Option ModelNo
group_model models = model_named models (codes "res.groups")

-- the number and the model of the row of a group, among these groups
abbrev pub group_row_named : List ModelInfo → List (List ℕ) → List ℕ → Option (ℕ × ModelNo)
group_row_named models groups name = option_and_then (λ model. option_map (λ i. (i, model)) (position (λ own. bytes_eq own name) groups)) (group_model models)

-- the number of a row, where the field leads to its model
abbrev pub target_of : FieldInfo → ℕ × ModelNo → Option ℕ
target_of field found = if is_to field found.1 then Some found.0 else None

-- over a registry, where these groups may be named and, behind the rows of all groups (so many), these rows
module _ (models : List ModelInfo) (groups : List (List ℕ)) (first : ℕ) (refs : List Ref) where
  -- the number and the model of the row of a name
  abbrev pub row_named : List ℕ → Option (ℕ × ModelNo)
  row_named name = option_and_then in_32_bits (first_of (option_map (λ found. (first + found.0, found.1)) (ref_named refs name)) (group_row_named models groups name))

  -- the number of the row that a reference names
  abbrev pub reference : FieldInfo → Data → Option ℕ
  reference field d = if is_none (reference_table d) then option_and_then (target_of field) (option_and_then row_named (text_at (codes "ref") d)) else None

  -- the numbers of the rows that references name
  abbrev pub references : FieldInfo → List Data → List ℕ
  references field items = flat_map (λ d. option_map_or (λ n. n ∷ []) (reference field d) []) items

  -- the rows that a list names, for a many2many that is no mirror
  abbrev pub rows_given : FieldInfo → Data → Option PresetValue
  rows_given field (array items) = if is_none field.mirror then Some (preset.Rows (rising (references field (listed items)))) else None
  rows_given field _ = None

  -- what a value gives a field of this type
  abbrev pub given_as : FieldType → FieldInfo → Data → Option PresetValue
  given_as type.Many2one field d = option_map preset.Row (reference field d)
  given_as type.Many2many field d = rows_given field d
  given_as type.One2many field d = None
  given_as _ field d = option_map preset.Plain (scalar field d)

  -- what a value gives a field
  abbrev pub given : FieldInfo → Data → Option PresetValue
  given field d = given_as field.field_type field d

  -- what a table of values gives to a field of this number, under its name
  abbrev pub value_given : Data → ℕ → FieldInfo → List (FieldNo × PresetValue)
  value_given values n field = option_map_or (λ v. (record { 0 = n }, v) ∷ []) (option_and_then (given field) (get field.name values)) []

  -- what it gives to fields numbered from n
  abbrev pub values_given : Data → ℕ → List FieldInfo → List (FieldNo × PresetValue)
  values_given values n [] = []
  values_given values n (field ∷ more) = value_given values n field ++ values_given values (n + 1) more

  -- what an entry gives to the fields of a model
  abbrev pub values_of : ModelNo → Data → List (FieldNo × PresetValue)
  values_of model d = option_map_or (λ info. option_map_or (λ values. values_given values 1 info.fields) (get (codes "values") d) []) (model_at models model) []

  -- the row of an entry of this number
  abbrev pub row_from : List ℕ → ℕ → Data → PresetRow
  row_from owner n d = record { «module» = owner; place = codes "row." ++ decimal n; model = model_in models d; values = values_of (model_in models d) d }

-- ---- the rows of all modules

-- a char
abbrev pub is_char : FieldType → Bool
is_char type.Char = true
is_char _ = false

module _ (models : List ModelInfo) where
  -- the field that has the name of a group, a char
  abbrev pub name_field : ModelNo → Option FieldNo
  name_field model = option_and_then (λ n. option_and_then (λ field. if is_char field.field_type then Some n else None) (field_at models model n)) (option_and_then (λ info. field_named info.fields (codes "name")) (model_at models model))

  -- what a full name gives it, where it is no longer than a char may be
  abbrev pub name_given : ModelNo → List ℕ → List (FieldNo × PresetValue)
  name_given model name = if nat_le (length name) max_char_bytes then option_map_or (λ n. (n, preset.Plain (value.Word name)) ∷ []) (name_field model) [] else []

  -- the row of the group of an entry of this number
  abbrev pub group_row : ModelNo → List ℕ → ℕ → Data → PresetRow
  group_row model owner n d = record { «module» = owner; place = codes "group." ++ decimal n; model = model; values = name_given model (name_of owner d) }

  -- the rows of the groups of a module; none where there is no model for them
  abbrev pub group_rows_in : Module → List PresetRow
  group_rows_in m = option_map_or (λ model. map (λ p. group_row model m.name p.0 p.1) (enumerate_from 0 (entries_of (codes "group") m.document))) (group_model models) []

  abbrev pub group_rows : List Module → List PresetRow
  group_rows modules = flat_map group_rows_in modules

  -- a row of an entry, as it is named
  abbrev pub ref_from : List ℕ → Data → Ref
  ref_from owner d = (ref_name owner d, model_in models d)

  -- the rows of modules, as they are named
  abbrev pub refs_of : List Module → List Ref
  refs_of modules = flat_map (λ m. map (ref_from m.name) (entries_of (codes "row") m.document)) modules

  -- the rows of the entries of a table, each behind those before it
  abbrev pub rows_from : List (List ℕ) → ℕ → List Ref → List ℕ → List Data → List PresetRow
  rows_from groups first refs owner entries = each_behind (λ before d. row_from models groups first (refs ++ map (ref_from owner) before) owner (length before) d ∷ []) [] entries

  -- those of a module, behind the modules before it
  abbrev pub rows_in : ℕ → List Module → Module → List PresetRow
  rows_in first before m = rows_from (group_names (before ++ m ∷ [])) first (refs_of before) m.name (entries_of (codes "row") m.document)

-- what a new store gets: the rows of all groups, then those of all tables `row`, in load order
abbrev pub declared_preset : List ModelInfo → List Module → List PresetRow
declared_preset models modules = group_rows models modules ++ each_behind (rows_in models (length (group_rows models modules))) [] modules
