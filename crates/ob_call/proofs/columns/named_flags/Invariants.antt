use Rattle.ob_schema.specs.Models.{model_at}
use Rattle.ob_call.proofs.NamedNumbers.{IsFlaggedTo}
use Rattle.ob_call.proofs.columns.named_flags.Given as goal

abbrev pub invariant-loop-item : goal.invariant-loop-item
invariant-loop-item l = IsFlaggedTo (model_at l.schema l.model) l.items l.item-index l.flags.items
