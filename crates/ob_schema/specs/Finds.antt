-- What names of expressions stand for, and the kinds of fields.
use Rattle.std.specs.Prelude.{◌&&◌, ◌||◌, ℕ, List, not, if◌then◌else◌, Bool, Option, Some, None, option_map, option_and_then}
use Rattle.ob_base.specs.declared.id.ModelNo.{ModelNo}
use Rattle.ob_expr.specs.declared.kind.Found.{Found}
use Rattle.ob_expr.specs.declared.kind.Kind.{Kind}
use Rattle.ob_expr.specs.declared.kind.Kind.TheVariants as kind
use Rattle.ob_definition.specs.declared.definition.FieldDef.{FieldDef}
use Rattle.ob_definition.specs.declared.field_type.FieldType.{FieldType}
use Rattle.ob_definition.specs.declared.field_type.FieldType.TheVariants as type
use Rattle.ob_definition.specs.Definitions.{is_computed, is_set}
use Rattle.ob_definition.specs.Gathered.{Gathered, model_of}
use Rattle.ob_definition.specs.Members.{Role, delegated, members_of, model_at, model_number, named, number_of}
use Rattle.ob_definition.specs.Types.{is_relation}

-- the kind of a field's values, where its relation, if it has one, is a model; the other types are texts
abbrev pub kind_of_type : FieldType → Option ModelNo → Option Kind
kind_of_type type.Boolean relation = Some kind.Bool
kind_of_type type.Integer relation = Some kind.Int
kind_of_type type.Date relation = Some kind.Day
kind_of_type type.Datetime relation = Some kind.Moment
kind_of_type type.Many2one relation = option_map kind.Ref relation
kind_of_type type.One2many relation = option_map kind.Refs relation
kind_of_type type.Many2many relation = option_map kind.Refs relation
kind_of_type _ relation = Some kind.Word

-- whether expressions may read a field: it isn't secret, and a computed one is stored
abbrev pub is_usable : FieldDef → Bool
is_usable f = not (is_set f.secret) && (not (is_computed f) || is_set f.store)

module _ (models : List Gathered) where
  -- the model whose rows a relation names
  abbrev pub relation_of : FieldDef → Option ModelNo
  relation_of f = if is_relation f.field_type then option_and_then (model_number models) f.relation else None

  -- the kind of a field
  abbrev pub kind_of_field : FieldDef → Option Kind
  kind_of_field f = kind_of_type f.field_type (relation_of f)

  -- a delegated field stands behind its link, as a field of the parent
  abbrev pub found_as : Gathered → FieldDef → Kind → Role → Option Found
  found_as g f k (delegated i) =
      option_and_then (λ p. option_map (λ target. record { via = Some (number_of models g i.link, target); field = number_of models p f.name; kind = k; usable = is_usable f })
      (model_number models i.model)) (model_of models i.model)
  found_as g f k _ = Some (record { via = None; field = number_of models g f.name; kind = k; usable = is_usable f })

  -- what a name stands for in a model: a field whose relation, if it has one, is a model
  abbrev pub found_in : Gathered → List ℕ → Option Found
  found_in g name = option_and_then (λ m. option_and_then (λ k. found_as g m.def k m.role) (kind_of_field m.def)) (named (members_of models g) name)

  -- the same by the model's number
  abbrev pub found_at : ModelNo → List ℕ → Option Found
  found_at number name = option_and_then (λ g. found_in g name) (model_at models number.0)
