-- The fields that an argument names, by what the argument is.
use Rattle.std.proofs.Common.{◌≡◌, map, Option, Some, None, option_map, Vec, Global, Result, Ok, Err, sym, ap, ◌∙◌}
use Rattle.std.specs.Prelude.{IfOk, IfSome}
use Rattle.serde_json.specs.View.{view}
use Rattle.serde_json.specs.declared.value.Value.{Value, Array}
use Rattle.serde_json.proofs.Views.{view-Array}
use Rattle.ob_base.specs.declared.id.FieldNo.{FieldNo}
use Rattle.ob_base.specs.declared.memory.NoMemory.{NoMemory}
use Rattle.ob_schema.specs.Fields.{Column}
use Rattle.ob_schema.specs.declared.info.ModelInfo.{ModelInfo}
use Rattle.ob_call.specs.ArgumentsSteps.{given_of}
use Rattle.ob_call.specs.declared.arguments.Given.{Given}
use Rattle.ob_call.proofs.NamedNumbers.{numbers_in}
use Rattle.ob_call.proofs.Items.{listed-items_view}
use Rattle.ob_call.specs.Columns.{asked_columns, columns_in, columns_named}

-- the fields that a list names are those that its items name
pub columns_of_items : (info : ModelInfo) (json : Value) (v : Vec Value Global) → json ≡ Array v → columns_in info (view json) ≡ columns_named info (map view v.items)
columns_of_items info json v is = ap (λ (j : Value). columns_in info (view j)) is ∙ ap (columns_in info) (view-Array v) ∙ ap (columns_named info) (listed-items_view v.items)

-- the fields of a given list are those that its items name
pub asked_in : (found : Option ModelInfo) (fields : Option Given) (given : Given) (v : Vec Value Global) (r : Result (Vec FieldNo Global) NoMemory) → fields ≡ Some given → given.json.now ≡ Array v
    → IfOk r (λ numbers. IfSome found (λ info. numbers_in numbers.items ≡ map (λ c. c.0) (columns_named info (map view v.items))))
    → IfOk r (λ numbers. IfSome found (λ info. numbers_in numbers.items ≡ map (λ c. c.0) (asked_columns info (option_map given_of fields))))
asked_in found fields given v (Err e) is items named = tt
asked_in None fields given v (Ok numbers) is items named = tt
asked_in (Some info) fields given v (Ok numbers) is items named =
    named ∙ ap (map (λ (c : Column). c.0)) (sym (columns_of_items info given.json.now v items) ∙ ap (λ (o : Option Given). asked_columns info (option_map given_of o)) (sym is))
