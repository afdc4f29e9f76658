use Rattle.std.specs.Prelude.{IfSome}
use Rattle.ob_schema.specs.Models.{model_at}
use Rattle.ob_orm.proofs.FilledRows.{FilledSoFar}
use Rattle.ob_orm.proofs.making.filling.filled.Given as goal

-- the values of the fields so far
abbrev pub invariant-loop-index : goal.invariant-loop-index
invariant-loop-index l = IfSome (model_at l.maker.schema.now l.model) (λ info. FilledSoFar l.maker.schema.now l.maker.author l.made l.given info l.index l.values)
