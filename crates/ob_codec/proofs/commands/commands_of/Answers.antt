use Rattle.serde_json.specs.View.{view}
use Rattle.ob_codec.proofs.HeldLaws.{read_whole}
use Rattle.ob_codec.proofs.Reading.{orders_of_items}
use Rattle.ob_codec.proofs.commands.commands_of.Goals as goal

pub returns-in-Array-clause-form : goal.returns-in-Array-clause-form
returns-in-Array-clause-form c = rw (orders_of_items c.args.json.now c.in-Array.items c.in-Array.is, ← c.as_slice.ensures.value) c.commands_from.ensures

pub returns-in-Array-clause-whole : goal.returns-in-Array-clause-whole
returns-in-Array-clause-whole c =
    read_whole c.commands_from.result (view c.args.json.now) (rw (orders_of_items c.args.json.now c.in-Array.items c.in-Array.is, ← c.as_slice.ensures.value) c.commands_from.ensures)
