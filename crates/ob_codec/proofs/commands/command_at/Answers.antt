use Rattle.ob_codec.proofs.Reading.{order_at_items}
use Rattle.ob_codec.proofs.commands.command_at.Goals as goal

pub returns-in-Array : goal.returns-in-Array
returns-in-Array c =
    rw (order_at_items c.args.command c.args.json.now c.in-Array.elements c.in-Array.is, ← c.as_slice.ensures.value) c.command_from.ensures
