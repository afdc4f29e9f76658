-- The words by which the rooms of the crate are joined.
use Rattle.std.specs.Prelude.{ℕ, List, codes, map, string_bytes, Bool, true, is_some}
use Rattle.std.specs.Str.{bytes_eq}
use Rattle.toml.specs.View.{table_view}
use Rattle.ob_definition.specs.Names.{is_field_name, is_model_name}
use Rattle.ob_module.specs.Keys.{is_op_name, ondelete_named, type_named}
use Rattle.ob_module.specs.Modules.{Module}
use Rattle.ob_module.specs.declared.form.Text.{Text}
use Rattle.ob_module.specs.declared.form.Text.TheVariants as text
use Rattle.ob_module.specs.declared.modules.Modules.{Modules}

-- the key that each field has
abbrev pub type_key : List ℕ
type_key = codes "type"

-- the texts that a form of texts allows
abbrev pub text_test : Text → List ℕ → Bool
text_test text.Any = λ _. true
text_test text.ModelName = is_model_name
text_test text.FieldName = is_field_name
text_test text.FieldType = λ name. is_some (type_named name)
text_test text.OnDelete = λ name. is_some (ondelete_named name)
text_test text.Op = is_op_name
text_test (text.Exactly own) = bytes_eq own.now

-- what was read, as modules in the order of reading
abbrev pub modules_in : Modules → List Module
modules_in modules = map (λ e. record { name = string_bytes e.0; document = table_view e.1 }) modules.documents.entries
