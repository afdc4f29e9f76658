-- All so far are relations.
use Rattle.std.specs.Prelude.{All}
use Rattle.ob_effect.specs.Relations.{IsRelation}
use Rattle.ob_effect.proofs.relations.kept_relations.Given as goal

abbrev pub invariant-loop-place : goal.invariant-loop-place
invariant-loop-place l = All (IsRelation l.schema) l.relations.items
