use Rattle.std.proofs.Common.{◌≡◌}
use Rattle.std.specs.Prelude.{All, IfSome, true}
use Rattle.ob_call.specs.Places.{spot_place}
use Rattle.ob_schema.specs.Models.{model_at}
use Rattle.ob_orm.specs.Create.{asked_by}
use Rattle.ob_orm.specs.CreateSteps.{rows_view}
use Rattle.ob_orm.specs.NewRowSteps.{IsTyped}
use Rattle.ob_orm.proofs.CreateRows.{given_upto}
use Rattle.ob_orm.proofs.creating.rows.rows_of_list.Given as goal

-- what the objects so far ask for
abbrev pub invariant-loop-number : goal.invariant-loop-number
invariant-loop-number l = record {
  asked : IfSome (model_at l.schema l.model) (λ info. rows_view l.rows ≡ asked_by true (given_upto l.schema (spot_place l.fn.spot) l.items info l.number));
  typed : All (All (IsTyped l.schema l.model)) l.rows.values.items;
}
