use Rattle.std.specs.Prelude.{IfSome}
use Rattle.ob_effect.proofs.FilledRows.{FitSoFar}
use Rattle.ob_effect.proofs.rows.filled.Given as goal
use Rattle.ob_schema.specs.Models.{model_at}

-- the values of the fields so far fit them
abbrev pub invariant-loop-index : goal.invariant-loop-index
invariant-loop-index l = IfSome (model_at l.writer.schema.now l.model) (λ info. FitSoFar info l.index l.values)
