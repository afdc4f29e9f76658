use Rattle.ob_codec.proofs.Reading.{ids_of_items}
use Rattle.ob_codec.proofs.elements.ids_of.Goals as goal

pub returns-in-Array : goal.returns-in-Array
returns-in-Array c =
    rw (ids_of_items c.args.command c.args.k c.args.json.now c.in-Array.items c.in-Array.is, ← c.as_slice.ensures.value) c.ids_from.ensures
