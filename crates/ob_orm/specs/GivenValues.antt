-- What an object of a call gives a row that is made or changed: to its own fields and to those of its parents.
use Rattle.std.specs.Prelude.{List, [], ◌∷◌, ◌++◌, false, if◌then◌else◌, Option, None, Result, Ok, Err}
use Rattle.std.specs.List.{filter_map, flat_map}
use Rattle.std.specs.Option.{option_or}
use Rattle.std.specs.Result.{result_err}
use Rattle.ob_base.specs.declared.id.FieldNo.{FieldNo}
use Rattle.ob_base.specs.declared.place.PathStep.{PathStep}
use Rattle.ob_base.specs.declared.place.PathStep.TheVariants.{Key}
use Rattle.ob_base.specs.declared.value.Value.{Value}
use Rattle.ob_call.specs.Arguments.{Given, entries}
use Rattle.ob_orm.specs.NewRows.{Values}
use Rattle.ob_orm.specs.RowValues.{given_value, members_of, valued}
use Rattle.ob_rows.specs.Values.{is_settable}
use Rattle.ob_schema.specs.Fields.{Column, columns}
use Rattle.ob_schema.specs.Models.{field_named}
use Rattle.ob_schema.specs.declared.info.FieldInfo.{FieldInfo}
use Rattle.ob_schema.specs.declared.info.ModelInfo.{ModelInfo}
use Rattle.serde_json.specs.Data.{Data, Members}
use Rattle.serde_json.specs.Find.{get_member}

-- what an object gives: the fields that its keys name, in byte order of these; the values that have their form, by the numbers of the model's fields; and the first place that is wrong
pub record GivenObject : Type 0 where
  pub fields : List FieldNo
  pub values : Values
  pub wrong : Option (List PathStep)

-- the fields that the keys of an object name, in byte order; a key that names none is passed over
abbrev pub keyed_fields : List FieldInfo → Members → List FieldNo
keyed_fields fields members = filter_map (λ entry. field_named fields entry.0) (entries members)

-- a value that has its form; one that hasn't is as if it weren't given
abbrev pub formed : Result (Option Value) (List PathStep) → Option Value
formed (Ok own) = own
formed (Err place) = None

module _ (models : List ModelInfo) where
  -- what the members of an object give a field, where calls give values to it
  abbrev pub set_by : Members → FieldInfo → Option Data
  set_by members field = if is_settable models field then get_member field.name members else None

  -- of an object at a place
  module _ (place : List PathStep) (members : Members) where
    -- the value that it gives a field, or the place that is wrong
    abbrev pub given_to : FieldInfo → Result (Option Value) (List PathStep)
    given_to field = given_value false (place ++ Key field.name ∷ []) field (set_by members field)

    -- the values of their form that it gives these fields, by the model's own numbers
    abbrev pub formed_values : List Column → Values
    formed_values fields = flat_map (λ column. valued (record { 0 = column.0 }) (formed (given_to column.1))) fields

    -- the first place that is wrong, in byte order of the fields' names
    abbrev pub wrong_value : List Column → Option (List PathStep)
    wrong_value [] = None
    wrong_value (column ∷ more) = option_or (result_err (given_to column.1)) (wrong_value more)

  -- what an object gives a row of a model
  abbrev pub object_from : ModelInfo → Given → GivenObject
  object_from info g = record {
    fields = keyed_fields info.fields (members_of g.json);
    values = formed_values g.place (members_of g.json) (columns info);
    wrong = wrong_value g.place (members_of g.json) (columns info);
  }
