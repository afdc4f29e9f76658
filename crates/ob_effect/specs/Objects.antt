-- What an object of values gives, as the code has it, and how deep the objects inside its commands are.
use Rattle.std.specs.Prelude.{◌≡◌, ◌≤◌, ℕ, List, [], ◌∷◌, All, max, true}
use Rattle.ob_base.specs.declared.id.FieldNo.{FieldNo}
use Rattle.ob_base.specs.declared.id.ModelNo.{ModelNo}
use Rattle.ob_base.specs.declared.value.Value.{Value}
use Rattle.ob_codec.specs.Held.{HasIdsAndObjects}
use Rattle.ob_codec.specs.declared.input.Command.{Command}
use Rattle.ob_codec.specs.declared.input.Command.TheVariants as command
use Rattle.ob_codec.specs.declared.input.Input.{Input}
use Rattle.ob_codec.specs.declared.input.Input.TheVariants as input
use Rattle.ob_effect.specs.declared.object.Object.{Object}
use Rattle.ob_effect.specs.declared.object.Orders.{Orders}
use Rattle.ob_definition.specs.Types.{is_list}
use Rattle.ob_schema.specs.Fields.{IsGivable}
use Rattle.ob_schema.specs.Models.{FieldHas}
use Rattle.ob_schema.specs.declared.info.ModelInfo.{ModelInfo}
use Rattle.serde_json.specs.Data.{depth}
use Rattle.serde_json.specs.View.{view}

-- how deep the object of a command is
abbrev pub command_depth : Command → ℕ
command_depth (command.Create json) = depth (view json)
command_depth (command.Update id json) = depth (view json)
command_depth _ = 0

-- how deep the objects of some commands are, and those of the commands on some lists
abbrev pub deepest : List Command → ℕ
deepest [] = 0
deepest (c ∷ cs) = max (command_depth c) (deepest cs)

abbrev pub deepest_of : List Orders → ℕ
deepest_of [] = 0
deepest_of (o ∷ os) = max (deepest o.commands) (deepest_of os)

module _ (models : List ModelInfo) (model : ModelNo) where
  -- a field of the model is given a value of its type, or a list commands whose ids are within their limits
  abbrev pub IsInputFor : FieldNo → Input → Type 0
  IsInputFor field (input.Plain value) = FieldHas models (λ info. IsGivable info value) model field
  IsInputFor field (input.Commands commands) = FieldHas models (λ info. is_list info.field_type ≡ true) model field × All HasIdsAndObjects commands

  -- a value of the type of a field of the model
  abbrev pub IsTypedValue : FieldNo × Value → Type 0
  IsTypedValue given = FieldHas models (λ info. IsGivable info given.1) model given.0

  -- commands on a list of the model, whose ids are within their limits
  abbrev pub AreTypedOrders : Orders → Type 0
  AreTypedOrders orders = FieldHas models (λ info. is_list info.field_type ≡ true) model orders.field × All HasIdsAndObjects orders.commands

  -- what an object gives fits fields of the model
  pub record IsObjectFor (object : Object) : Type 0 where
    pub values : All IsTypedValue object.values.items
    pub orders : All AreTypedOrders object.orders.items

-- how deep the objects are in what JSON gives a field
abbrev pub input_depth : Input → ℕ
input_depth (input.Plain value) = 0
input_depth (input.Commands commands) = deepest commands

-- what is taken in of a value is no deeper than it, or was there
abbrev pub KeepsDepth : ℕ → (old new : Object) → Type 0
KeepsDepth bound old new = (most : ℕ) → bound ≤ most → deepest_of old.orders.items ≤ most → deepest_of new.orders.items ≤ most
