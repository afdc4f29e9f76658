use Rattle.ob_schema.specs.Models.{model_at}
use Rattle.ob_call.proofs.NamedNumbers.{named_numbers}
use Rattle.ob_call.proofs.columns.fields_of_items.Goals as goal

pub returns : goal.returns
returns c =
    let numbered = rw c.as_slice.ensures.value at c.numbers_of.ensures in
    named_numbers (model_at c.args.schema.now c.args.model) c.args.items.now c.is_empty.result c.in_ok-flags.flags.items c.numbers_of.result c.is_empty.ensures c.in_ok-flags.ensures.named numbered
