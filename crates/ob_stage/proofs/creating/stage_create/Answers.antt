-- The edits of the row are staged.
use Rattle.std.proofs.Common.{◌+◌, [], suc, List, length, subst, sym, arith}
use Rattle.ob_orm.specs.NewRows.{parents_of}
use Rattle.ob_schema.specs.Models.{IsRegistry}
use Rattle.ob_schema.specs.declared.info.ModelInfo.{ModelInfo}
use Rattle.ob_stage.proofs.Stagings.{asked-flushed, on_err, spoiled-flushed}
use Rattle.ob_stage.proofs.FewParents.{few-parents}
use Rattle.ob_stage.proofs.TakenIds.{next_ids-more, room-none}
use Rattle.ob_stage.proofs.creating.stage_create.Goals as goal
use Rattle.ob_stage.specs.Stage.{AreLinked}
use Rattle.ob_stage.specs.StageSteps.{LeaveRoom, MakesUpTo}
use Rattle.ob_tables.specs.declared.edit.Edit.{Edit}

pub make_row-requires-clause-room : goal.make_row-requires-clause-room
make_row-requires-clause-room g c =
    let models = c.args.engine.now.held.models in let model = c.args.model in
    let few = few-parents models model (subst (λ (ms : List ModelInfo). IsRegistry ms) c.schema.ensures c.parts_fit_together.ensures) in
    subst (λ (ms : List ModelInfo). LeaveRoom (suc (length (parents_of ms model))) c.args.engine.now.held []) (sym c.schema-2.ensures)
    (room-none (length (parents_of models model)) few c.args.engine.now.held c.requires.next_ids)

pub returns-in_err-row-clause-left : goal.returns-in_err-row-clause-left
returns-in_err-row-clause-left g c = on_err _ _ (asked-flushed _ _ _ _ c.make_row.ensures.same)

pub returns-in_err-stage-clause-left : goal.returns-in_err-stage-clause-left
returns-in_err-stage-clause-left g c = on_err _ _ (spoiled-flushed _ _ _ _ _ _ c.make_row.ensures.same c.in_err-stage.ensures.spoiled)

pub returns-clause-next_ids : goal.returns-clause-next_ids
returns-clause-next_ids g c = λ bound low next_ids.
    let models = c.args.engine.now.held.models in let model = c.args.model in
    let high = bound + suc (length (parents_of models model)) in
    let made : MakesUpTo high c.in_ok-row.row.edits.items =
    subst (λ (ms : List ModelInfo). MakesUpTo (bound + suc (length (parents_of ms model))) c.in_ok-row.row.edits.items) c.schema-2.ensures (c.in_ok-row.ensures.next_ids bound low next_ids) in
    let staged = subst (λ (es : List Edit). MakesUpTo high es) (sym c.as_slice.ensures.value) made in
    c.in_ok-stage.ensures.next_ids high (omega arith) staged (next_ids-more bound high (omega arith) c.make_row.new.engine.held (c.make_row.ensures.same.next_ids bound low next_ids))

pub returns-clause-alone : goal.returns-clause-alone
returns-clause-alone g c = λ linked_all bound low lt next_ids.
    let models = c.args.engine.now.held.models in let model = c.args.model in
    let made : MakesUpTo bound c.in_ok-row.row.edits.items =
    c.in_ok-row.ensures.alone (subst (λ (ms : List ModelInfo). AreLinked c.args.values.now (parents_of ms model)) (sym c.schema-2.ensures) linked_all) bound lt in
    c.in_ok-stage.ensures.next_ids bound low (subst (λ (es : List Edit). MakesUpTo bound es) (sym c.as_slice.ensures.value) made) (c.make_row.ensures.same.next_ids bound low next_ids)
