use Rattle.std.proofs.Common.{◌≡◌, List, subst, sym, ◌∙◌}
use Rattle.std.specs.Prelude.{All}
use Rattle.serde_json.specs.View.{view}
use Rattle.ob_rows.specs.Author.{author_by}
use Rattle.ob_orm.specs.NewRowSteps.{IsReady}
use Rattle.ob_orm.specs.Touches.{may_touch}
use Rattle.ob_orm.specs.TouchSteps.{MayDo}
use Rattle.ob_rows.proofs.CallerLemmas.{author_passed}
use Rattle.ob_orm.proofs.PlannedRows.{rows-planned, rows-within}
use Rattle.ob_orm.proofs.creating.planned.Goals as goal
use Rattle.ob_schema.specs.declared.info.ModelInfo.{ModelInfo}

pub returns-clause-planned : goal.returns-clause-planned
returns-clause-planned g c =
    let call = c.args.call.now in
    rows-planned c.schema.result.now _ (author_by call) (author_passed (author_by call) c.requires.moment) call.model c.args.values.items c.args.is_list c.in_ok-making.making c.told_rows.new.making (view c.in_ok-told.told)
    c.in_ok-making.ensures.none c.in_ok-told.ensures.made _ _ (c.schema.ensures ∙ c.begun.ensures.same.models) c.in_ok-making.ensures.told

pub returns-clause-within : goal.returns-clause-within
returns-clause-within g c =
    let call = c.args.call.now in
    let models = c.args.engine.now.held.models in
    let same : c.schema.result.now ≡ models = c.schema.ensures ∙ c.begun.ensures.same.models in
    let ready = subst (λ (ms : List ModelInfo). IsReady ms c.in_ok-making.making) (sym same) c.in_ok-making.ensures.ready in
    subst (λ (ms : List ModelInfo). All (MayDo (may_touch ms call.model)) c.told_rows.new.making.edits.items) same
    (rows-within c.schema.result.now _ (author_by call) (author_passed (author_by call) c.requires.moment) call.model c.args.values.items c.args.is_list c.in_ok-making.making c.told_rows.new.making (view c.in_ok-told.told)
    c.in_ok-making.ensures.none c.in_ok-told.ensures.made ready)
