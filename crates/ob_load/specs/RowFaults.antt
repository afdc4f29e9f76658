-- The first name or value of modules that doesn't fit: by modules as they are taken, in one by its access and then its rows; in a row the model first, then its name, then its values in byte order of their names.
use Rattle.std.specs.Prelude.{ℕ, ◌&&◌, List, [], ◌∷◌, ◌++◌, codes, length, map, not, is_none, is_some, Bool, if◌then◌else◌, Option, option_map}
use Rattle.toml.specs.Data.{Data, Members}
use Rattle.ob_base.specs.declared.id.ModelNo.{ModelNo}
use Rattle.ob_base.specs.declared.place.PathStep.TheVariants.{Key}
use Rattle.ob_definition.specs.Definitions.{first_of}
use Rattle.ob_definition.specs.Keys.{is_many2many}
use Rattle.ob_load.specs.Access.{declared_names, entries_of, group_names, is_among, model_in, name_of, ref_name}
use Rattle.ob_load.specs.AccessFaults.{document_fault, first_fault, form_fault, in_entry, model_is_there}
use Rattle.ob_module.specs.Forms.{Form, Keys, at_key, list_of, no_key, table_of, under, unless}
use Rattle.ob_load.specs.Preset.{Ref, field_of, given, group_rows, ref_from, reference, refs_of}
use Rattle.ob_module.specs.Modules.{Module}
use Rattle.ob_load.specs.declared.fault.FaultyModule.{FaultyModule}
use Rattle.ob_schema.specs.declared.info.FieldInfo.{FieldInfo}
use Rattle.ob_schema.specs.declared.info.ModelInfo.{ModelInfo}

-- no other has the full name of a row
abbrev pub ref_is_free : List (List ℕ) → List ℕ → Form
ref_is_free taken owner d = under (Key (codes "ref")) (unless (not (is_among taken (ref_name owner d))))

-- a list of rows is given to the field: it is a many2many, and no mirror
abbrev pub takes_rows : FieldInfo → Bool
takes_rows field = is_many2many field.field_type && is_none field.mirror

-- over a registry, where these groups may be named and, behind the rows of all groups (so many), these rows
module _ (models : List ModelInfo) (groups : List (List ℕ)) (first : ℕ) (refs : List Ref) where
  -- a reference names a row to which the field leads
  abbrev pub names_row : FieldInfo → Form
  names_row field d = unless (is_some (reference models groups first refs field d))

  -- the value is of its field's form; of a list each item
  abbrev pub value_fits : FieldInfo → Form
  value_fits field d = if takes_rows field then list_of (names_row field) d else unless (is_some (given models groups first refs field d))

  -- values stand under the names of fields
  abbrev pub value_keys : ModelNo → Keys
  value_keys model name = option_map value_fits (field_of models model name)

  -- the values of an entry are of the forms of its model's fields
  abbrev pub values_fit : ModelNo → Form
  values_fit model = at_key (codes "values") (table_of (value_keys model) no_key)

  -- there is the model of a row, its name is free, and its values are of their forms
  abbrev pub row_fits : List (List ℕ) → List ℕ → Form
  row_fits taken owner d = first_of (model_is_there models d) (first_of (ref_is_free taken owner d) (values_fit (model_in models d) d))

-- in a module of this name, over a registry, where these groups may be named
module _ (models : List ModelInfo) (groups : List (List ℕ)) (first : ℕ) (owner : List ℕ) where
  -- what doesn't fit in a row behind the entries before it, where these rows stand before the table's and these full names are taken
  abbrev pub row_fault : List Ref → List (List ℕ) → List Data → Data → Option FaultyModule
  row_fault refs taken before d =
      form_fault owner (in_entry (codes "row") (length before) (row_fits models groups first (refs ++ map (ref_from models owner) before) (taken ++ map (ref_name owner) before) owner d))

  -- what doesn't fit in the rows of its document
  abbrev pub rows_fault : List Ref → List (List ℕ) → Members → Option FaultyModule
  rows_fault refs taken document = first_fault (row_fault refs taken) [] (entries_of (codes "row") document)

  -- what doesn't fit in its document: in its access, then in its rows, before which the full names of its groups and rules are taken
  abbrev pub whole_fault : List Ref → List (List ℕ) → Members → Option FaultyModule
  whole_fault refs taken document = first_of (document_fault models groups owner taken document)
      (rows_fault refs (taken ++ map (name_of owner) (entries_of (codes "group") document) ++ map (name_of owner) (entries_of (codes "rule") document)) document)

-- what doesn't fit in a module behind the modules before it: it may name their groups and rows and its own groups, and their full names are taken
abbrev pub module_fault : List ModelInfo → ℕ → List Module → Module → Option FaultyModule
module_fault models first before m = whole_fault models (group_names (before ++ m ∷ [])) first m.name (refs_of models before) (declared_names before) m.document

-- what doesn't fit in modules first
abbrev pub modules_fault : List ModelInfo → List Module → Option FaultyModule
modules_fault models modules = first_fault (module_fault models (length (group_rows models modules))) [] modules
