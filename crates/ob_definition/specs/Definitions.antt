-- What definitions declare, by name.
use Rattle.std.specs.Prelude.{◌||◌, ℕ, List, [], ◌∷◌, codes, Bool, false, is_some, Option, Some, None}
use Rattle.std.specs.List.{list_any}
use Rattle.std.specs.Str.{bytes_eq}
use Rattle.ob_definition.specs.declared.definition.FieldDef.{FieldDef}
use Rattle.ob_definition.specs.declared.definition.ModelDef.{ModelDef}
use Rattle.ob_definition.specs.declared.field_type.FieldType.{FieldType}

-- the fields that each model has beside the declared ones
abbrev pub automatic_names : List (List ℕ)
automatic_names = codes "create_date" ∷ codes "create_uid" ∷ codes "id" ∷ codes "write_date" ∷ codes "write_uid" ∷ []

-- whether a name is one of these
abbrev pub is_one_of : List (List ℕ) → List ℕ → Bool
is_one_of names name = list_any (bytes_eq name) names

-- a name that each model has
abbrev pub is_automatic : List ℕ → Bool
is_automatic name = is_one_of automatic_names name

-- an expression or a path gives its value
abbrev pub is_computed : FieldDef → Bool
is_computed field = is_some field.compute || is_some field.related

-- whether a key that is a flag is set
abbrev pub is_set : Option Bool → Bool
is_set None = false
is_set (Some flag) = flag

-- the value of the first of two options that has one
abbrev pub first_of : {X : Type 0} → Option X → Option X → Option X
first_of (Some x) other = Some x
first_of None other = other

-- a field with no key but its type
abbrev pub plain_field : List ℕ → FieldType → FieldDef
plain_field name t = record {
  name = name;
  field_type = t;
  string = None;
  required = None;
  default = None;
  compute = None;
  depends = None;
  store = None;
  recursive = None;
  related = None;
  relation = None;
  inverse = None;
  mirror = None;
  ondelete = None;
  selection = None;
  groups = None;
  managed = None;
  fixed = None;
  secret = None;
}

-- a new model with no key but its name
abbrev pub plain_model : List ℕ → ModelDef
plain_model name = record {
  name = Some name;
  inherit = None;
  inherits = [];
  order = None;
  parent = None;
  unique = [];
  checks = [];
  locked = None;
  managed = None;
  fields = [];
}
