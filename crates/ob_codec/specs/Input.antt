-- What JSON gives a field, seen by its data.
use Rattle.std.specs.Prelude.{List}
use Rattle.ob_base.specs.declared.id.RecId.{RecId}
use Rattle.ob_codec.specs.declared.input.Command.{Command}
use Rattle.ob_codec.specs.declared.input.Command.TheVariants as command
use Rattle.serde_json.specs.Data.{Data}
use Rattle.serde_json.specs.View.{view}

-- a command on a list of rows
pub data Order : Type 0 where
  create : Data → Order
  update : RecId → Data → Order
  delete : RecId → Order
  unlink : RecId → Order
  link : RecId → Order
  clear : Order
  set : List RecId → Order

-- a command, its JSON seen as its data
abbrev pub order_of : Command → Order
order_of (command.Create json) = create (view json)
order_of (command.Update id json) = update id (view json)
order_of (command.Delete id) = delete id
order_of (command.Unlink id) = unlink id
order_of (command.Link id) = link id
order_of command.Clear = clear
order_of (command.Set ids) = set ids
