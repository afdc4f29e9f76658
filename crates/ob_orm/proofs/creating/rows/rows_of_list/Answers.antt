use Rattle.std.proofs.Common.{◌∷◌, [], List, arith, sym, ap, subst, ◌∙◌}
use Rattle.std.specs.Prelude.{All}
use Rattle.std.proofs.lemmas.List.Elements.{All-push}
use Rattle.ob_call.specs.Places.{spot_place}
use Rattle.ob_schema.specs.Models.{model_at}
use Rattle.ob_orm.specs.CreateSteps.{rows_view}
use Rattle.ob_orm.specs.NewRows.{Values}
use Rattle.ob_orm.specs.NewRowSteps.{IsTyped}
use Rattle.ob_orm.specs.ObjectSteps.{object_view}
use Rattle.ob_orm.proofs.CreateRows.{listed-all, listed-more}
use Rattle.ob_orm.proofs.creating.rows.rows_of_list.Goals as goal

pub loop-number-preserved : goal.loop-number-preserved
loop-number-preserved c =
    let models = c.args.schema.now in
    let items = c.args.items.now in
    let object = c.in_ok-object.object in
    record {
      asked = listed-more models (spot_place c.args.spot) items (model_at models c.args.model) c.loop-number.number c.index-items-number.result (rows_view c.loop-number.rows) (rows_view c.add_object.new.rows)
          (object_view object) (omega arith) c.index-items-number.is c.in_ok-add_object.ensures.given c.in_ok-object.ensures.given c.loop-number.invariant.asked;
      typed = subst (All (All (IsTyped models c.args.model))) (sym c.in_ok-add_object.ensures.values)
          (All-push (All (IsTyped models c.args.model)) c.loop-number.rows.values.items object.values c.loop-number.invariant.typed c.in_ok-object.ensures.typed);
    }

pub returns-clause-value : goal.returns-clause-value
returns-clause-value c =
    let models = c.args.schema.now in
    listed-all models (spot_place c.args.spot) c.args.items.now (model_at models c.args.model) c.loop-number.number (rows_view c.loop-number.rows) (omega arith) c.loop-number.invariant.asked
