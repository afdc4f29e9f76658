-- The relations of the first models are there.
use Rattle.std.proofs.Common.{◌↔◌}
use Rattle.std.specs.Prelude.{Contains}
use Rattle.ob_rows.specs.declared.relations.KeptRelation.{KeptRelation}
use Rattle.ob_rows.proofs.RelationNumbers.{OfModels}
use Rattle.ob_rows.proofs.relations.kept_relations.Given as goal

abbrev pub invariant-loop-place : goal.invariant-loop-place
invariant-loop-place l = (r : KeptRelation) → Contains l.relations.items r ↔ OfModels l.schema l.place r
