use Rattle.ob_call.proofs.NamedIds.{ids_of_items}
use Rattle.ob_call.proofs.ids.named_ids.Goals as goal

pub returns-in-Array : goal.returns-in-Array
returns-in-Array c = rw (ids_of_items c.args.json.now c.in-Array.items c.in-Array.is, ← c.as_slice.ensures.value) c.distinct_ids.ensures
