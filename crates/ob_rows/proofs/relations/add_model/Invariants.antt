-- The relations among the first fields are added.
use Rattle.std.proofs.Common.{◌⊎◌, ◌↔◌}
use Rattle.std.specs.Prelude.{Contains}
use Rattle.ob_rows.specs.declared.relations.KeptRelation.{KeptRelation}
use Rattle.ob_rows.proofs.RelationNumbers.{OfFields}
use Rattle.ob_rows.proofs.relations.add_model.Given as goal

abbrev pub invariant-loop-place : goal.invariant-loop-place
invariant-loop-place l = (r : KeptRelation) → Contains l.relations.items r ↔ (Contains l.fn.relations.items r ⊎ OfFields l.schema l.model l.place r)
