-- All so far are relations.
use Rattle.std.specs.Prelude.{All}
use Rattle.ob_effect.specs.Relations.{IsRelation}
use Rattle.ob_effect.proofs.relations.add_model.Given as goal

abbrev pub invariant-loop-place : goal.invariant-loop-place
invariant-loop-place l = All (IsRelation l.schema) l.fn.relations.items → All (IsRelation l.schema) l.relations.items
