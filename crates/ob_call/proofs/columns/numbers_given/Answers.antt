use Rattle.ob_schema.specs.Models.{model_at}
use Rattle.ob_call.proofs.NamedColumns.{asked_in}
use Rattle.ob_call.proofs.columns.numbers_given.Goals as goal

pub returns-in-Array : goal.returns-in-Array
returns-in-Array c =
    let named = rw c.as_slice.ensures.value at c.fields_of_items.ensures in
    asked_in (model_at c.args.schema.now c.args.model) c.args.given.now c.in-Some.given c.in-Array.items c.fields_of_items.result c.in-Some.is c.in-Array.is named
