use Rattle.std.proofs.Common.{◌≡◌}
use Rattle.std.specs.Prelude.{IfSome}
use Rattle.serde_json.specs.View.{members_view}
use Rattle.ob_schema.specs.Models.{model_at}
use Rattle.ob_orm.specs.ObjectSteps.{object_place}
use Rattle.ob_orm.proofs.GivenFields.{GivenSoFar}
use Rattle.ob_orm.proofs.creating.given.give_values.Given as goal

-- what is given to the fields so far, as it is meant
abbrev pub invariant-loop-index : goal.invariant-loop-index
invariant-loop-index l = record {
  fields : l.object.fields ≡ l.fn.object.fields;
  far : IfSome (model_at l.schema l.model) (λ info. GivenSoFar l.schema (object_place l.spot) (members_view l.members.entries) l.model info l.index l.object.values l.object.wrong);
}
