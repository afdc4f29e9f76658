-- What the ids so far lead to is taken.
use Rattle.std.proofs.Common.{List}
use Rattle.ob_effect.specs.Deletion.{TakesFit}
use Rattle.ob_effect.specs.Relations.{IsRelation}
use Rattle.ob_effect.proofs.deletion.taking.add_found.Given as goal
use Rattle.ob_schema.specs.declared.info.ModelInfo.{ModelInfo}

abbrev pub invariant-loop-id : goal.invariant-loop-id
invariant-loop-id l = (models : List ModelInfo) → IsRelation models l.relation → TakesFit models l.fn.deletion l.deletion l.fn.waiting.items l.waiting.items
