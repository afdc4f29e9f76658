use Rattle.std.proofs.Common.{◌≡◌, List, sym, ap, subst, ◌∙◌}
use Rattle.std.proofs.lemmas.Result.{err_from_is_err_and, on_ok_weaker}
use Rattle.std.specs.Prelude.{All}
use Rattle.ob_base.specs.declared.id.RecId.{RecId}
use Rattle.ob_cache.proofs.CallerLemmas.{stays-then}
use Rattle.ob_cache.specs.Calls.{Refuses}
use Rattle.ob_cache.specs.Standing.{RestsAt, max_next_id}
use Rattle.ob_io.specs.Cause.{Rose}
use Rattle.ob_rows.specs.Author.{author_by}
use Rattle.ob_orm.specs.NewRowSteps.{IsTyped}
use Rattle.ob_orm.specs.Write.{BarsWrite, IsAdmissible, MayBarWrite, MayStopWrite, edits_of}
use Rattle.ob_orm.specs.WriteSteps.{SetsFit, asked_change}
use Rattle.ob_rows.specs.declared.author.Author.{Author}
use Rattle.ob_rows.proofs.CallerLemmas.{author_passed, nothing_later, rose_from, stays-at_rest, stays-itself, stays-rests}
use Rattle.ob_orm.proofs.WriteCarried.{barred-cause, barred-stops, edits-causes, edits-settle, edits-stopped, unasked-stops}
use Rattle.ob_orm.proofs.WriteEdits.{sets-asked, sets-below}
use Rattle.ob_orm.proofs.writing.carry_out.Goals as goal
use Rattle.ob_schema.specs.Models.{HasModel}
use Rattle.ob_schema.specs.Tables.{Tables}
use Rattle.ob_schema.specs.declared.info.ModelInfo.{ModelInfo}

-- ---- what bars it, or nothing that is told

pub test_change-requires-clause-schema : goal.test_change-requires-clause-schema
test_change-requires-clause-schema g c = sym c.schema.ensures

pub test_change-requires-clause-rest : goal.test_change-requires-clause-rest
test_change-requires-clause-rest g c = c.requires.rest.phase_is

pub returns-in_err-test_change-clause-refused : goal.returns-in_err-test_change-clause-refused
returns-in_err-test_change-clause-refused g c =
    let p = err_from_is_err_and c.from_residual.result c.from_residual.ensures.1 in
    let call = c.args.call.now in let by = c.args.by.now in
    let models = c.args.engine.now.held.models in
    let change = asked_change c.args.change.now in
    let why = c.in_err-test_change.field-0.0 in
    let rose = Rose (g.K.Keeper.faults c.args.engine.now.keeper.now) (g.K.Keeper.faults c.test_change.new.engine.keeper.now) in
    let bars = subst (λ (user : RecId). (tables : Tables) → RestsAt (g.K.Keeper.kept c.args.engine.now.keeper.now) c.args.engine.now.held tables → Refuses rose (BarsWrite models by.policy.now user call.model tables by.groups.now change) why)
    c.requires.caller c.in_err-test_change.ensures.barred in
    rw (p.1, p.2) (barred-stops _ _ _ _ c.test_change.ensures.same by.policy.now (author_by call) call.model by.groups.now change rose why bars)

pub returns-in_err-test_change-clause-causes : goal.returns-in_err-test_change-clause-causes
returns-in_err-test_change-clause-causes g c =
    let p = err_from_is_err_and c.from_residual.result c.from_residual.ensures.1 in
    let call = c.args.call.now in let by = c.args.by.now in
    let models = c.args.engine.now.held.models in
    let change = asked_change c.args.change.now in
    let why = c.in_err-test_change.field-0.0 in
    let rose = Rose (g.K.Keeper.faults c.args.engine.now.keeper.now) (g.K.Keeper.faults c.test_change.new.engine.keeper.now) in
    let may = subst (λ (user : RecId). Refuses rose (MayBarWrite models by.policy.now user call.model change) why) c.requires.caller c.in_err-test_change.ensures.causes in
    rw (p.1, p.2) (barred-cause _ _ _ _ c.test_change.ensures.same by.policy.now (author_by call) call.model by.groups.now change rose why may)

pub returns-in_err-test_change-clause-rests : goal.returns-in_err-test_change-clause-rests
returns-in_err-test_change-clause-rests g c = stays-at_rest _ _ _ _ c.test_change.ensures.same c.requires.rest

-- ---- the edits

pub change_edits-requires-clause-schema : goal.change_edits-requires-clause-schema
change_edits-requires-clause-schema g c = c.test_change.ensures.same.models ∙ sym c.schema.ensures

pub change_edits-requires-clause-model : goal.change_edits-requires-clause-model
change_edits-requires-clause-model g c = subst (λ (ms : List ModelInfo). HasModel ms c.args.call.now.model) (sym c.schema.ensures) c.requires.model

pub change_edits-requires-clause-typed : goal.change_edits-requires-clause-typed
change_edits-requires-clause-typed g c = subst (λ (ms : List ModelInfo). All (IsTyped ms c.args.call.now.model) c.args.change.now.object.values) (sym c.schema.ensures) c.requires.typed

pub change_edits-requires-clause-rest : goal.change_edits-requires-clause-rest
change_edits-requires-clause-rest g c = (stays-itself _ _ _ _ c.test_change.ensures.same c.requires.rest).phase_is

pub returns-in_err-edits-clause-refused : goal.returns-in_err-edits-clause-refused
returns-in_err-edits-clause-refused g c =
    let p = err_from_is_err_and c.from_residual-in_err-edits.result c.from_residual-in_err-edits.ensures.1 in
    let call = c.args.call.now in let by = c.args.by.now in
    let same = stays-then _ _ _ _ _ _ c.test_change.ensures.same c.change_edits.ensures.same in
    rw (p.1, p.2) (unasked-stops _ _ _ _ same by.policy.now (author_by call) call.model by.groups.now (asked_change c.args.change.now) _ c.in_err-edits.field-0.0
    (nothing_later _ _ _ c.test_change.ensures.count (λ _. ⊥) c.in_err-edits.field-0.0 c.in_err-edits.ensures.causes))

pub returns-in_err-edits-clause-causes : goal.returns-in_err-edits-clause-causes
returns-in_err-edits-clause-causes g c =
    let p = err_from_is_err_and c.from_residual-in_err-edits.result c.from_residual-in_err-edits.ensures.1 in
    let call = c.args.call.now in
    rw (p.1, p.2) (nothing_later _ _ _ c.test_change.ensures.count (MayStopWrite c.args.engine.now.held.models c.args.by.now.policy.now call.caller call.model (asked_change c.args.change.now))
    c.in_err-edits.field-0.0 c.in_err-edits.ensures.causes)

pub returns-in_err-edits-clause-rests : goal.returns-in_err-edits-clause-rests
returns-in_err-edits-clause-rests g c = stays-at_rest _ _ _ _ (stays-then _ _ _ _ _ _ c.test_change.ensures.same c.change_edits.ensures.same) c.requires.rest

pub settle_edits-requires-clause-fit : goal.settle_edits-requires-clause-fit
settle_edits-requires-clause-fit g c =
    let models = c.change_edits.new.engine.held.models in
    let held = c.schema.ensures ∙ sym (c.change_edits.ensures.same.models ∙ c.test_change.ensures.same.models) in
    let own = subst (λ (ms : List ModelInfo). All (SetsFit ms) c.in_ok-edits.edits.items) held c.in_ok-edits.ensures.fit in
    sets-asked models c.as_slice.result.now (subst (All (SetsFit models)) (sym c.as_slice.ensures.value) own)

pub settle_edits-requires-clause-below : goal.settle_edits-requires-clause-below
settle_edits-requires-clause-below g c =
    let fit = subst (All (SetsFit c.schema.result.now)) (sym c.as_slice.ensures.value) c.in_ok-edits.ensures.fit in
    λ of. sets-below c.schema.result.now of max_next_id c.as_slice.result.now fit

pub settle_edits-requires-clause-rest : goal.settle_edits-requires-clause-rest
settle_edits-requires-clause-rest g c = stays-itself _ _ _ _ (stays-then _ _ _ _ _ _ c.test_change.ensures.same c.change_edits.ensures.same) c.requires.rest

-- ---- what becomes of them

pub returns-clause-settled : goal.returns-clause-settled
returns-clause-settled g c =
    let old = c.args.engine.now in let new = c.settle_edits.new.engine in
    let call = c.args.call.now in let by = c.args.by.now in
    let change = asked_change c.args.change.now in
    let first = c.test_change.ensures.same in
    let same = stays-then _ _ _ _ _ _ first c.change_edits.ensures.same in
    let passes = subst (λ (user : RecId). (tables : Tables) → RestsAt (g.K.Keeper.kept old.keeper.now) old.held tables → IsAdmissible old.held.models by.policy.now user call.model tables by.groups.now change)
    c.requires.caller c.in_ok-test_change.ensures.passes in
    let are : (tables : Tables) → RestsAt (g.K.Keeper.kept old.keeper.now) old.held tables → c.as_slice.result.now ≡ edits_of old.held.models (author_by call) call.model tables change =
    λ tables rests.
    c.as_slice.ensures.value ∙ c.in_ok-edits.ensures.told tables (stays-rests _ _ _ _ first tables rests)
    ∙ ap (λ (author : Author). edits_of c.schema.result.now author call.model tables change) (author_passed (author_by call) c.requires.moment)
    ∙ ap (λ (ms : List ModelInfo). edits_of ms (author_by call) call.model tables change) c.schema.ensures in
    on_ok_weaker c.settle_edits.result (edits-settle _ _ _ _ same by.policy.now (author_by call) call.model by.groups.now change (g.K.Keeper.kept new.keeper.now) new.held c.as_slice.result.now are passes) c.settle_edits.ensures.settled

pub returns-clause-refused : goal.returns-clause-refused
returns-clause-refused g c =
    let old = c.args.engine.now in let mid = c.change_edits.new.engine in let new = c.settle_edits.new.engine in
    let faults = g.K.Keeper.faults in
    let call = c.args.call.now in let by = c.args.by.now in
    let change = asked_change c.args.change.now in
    let first = c.test_change.ensures.same in
    let same = stays-then _ _ _ _ _ _ first c.change_edits.ensures.same in
    let passes = subst (λ (user : RecId). (tables : Tables) → RestsAt (g.K.Keeper.kept old.keeper.now) old.held tables → IsAdmissible old.held.models by.policy.now user call.model tables by.groups.now change)
    c.requires.caller c.in_ok-test_change.ensures.passes in
    let are : (tables : Tables) → RestsAt (g.K.Keeper.kept old.keeper.now) old.held tables → c.as_slice.result.now ≡ edits_of old.held.models (author_by call) call.model tables change =
    λ tables rests.
    c.as_slice.ensures.value ∙ c.in_ok-edits.ensures.told tables (stays-rests _ _ _ _ first tables rests)
    ∙ ap (λ (author : Author). edits_of c.schema.result.now author call.model tables change) (author_passed (author_by call) c.requires.moment)
    ∙ ap (λ (ms : List ModelInfo). edits_of ms (author_by call) call.model tables change) c.schema.ensures in
    edits-stopped _ _ _ _ same by.policy.now (author_by call) call.model by.groups.now change (g.K.Keeper.kept new.keeper.now) new.held c.as_slice.result.now are passes c.settle_edits.result
    (Rose (faults mid.keeper.now) (faults new.keeper.now)) (Rose (faults old.keeper.now) (faults new.keeper.now))
    (λ risen. rose_from (faults old.keeper.now) (faults c.test_change.new.engine.keeper.now) (faults new.keeper.now) c.test_change.ensures.count
    (rose_from (faults c.test_change.new.engine.keeper.now) (faults mid.keeper.now) (faults new.keeper.now) c.change_edits.ensures.count risen)) c.settle_edits.ensures.refused

pub returns-clause-causes : goal.returns-clause-causes
returns-clause-causes g c =
    let old = c.args.engine.now in let mid = c.change_edits.new.engine in let new = c.settle_edits.new.engine in
    let faults = g.K.Keeper.faults in
    let by = c.args.by.now in
    let same = stays-then _ _ _ _ _ _ c.test_change.ensures.same c.change_edits.ensures.same in
    edits-causes _ _ _ _ same by.policy.now (author_by c.args.call.now) c.args.call.now.model by.groups.now (asked_change c.args.change.now) c.settle_edits.result
    (Rose (faults mid.keeper.now) (faults new.keeper.now)) (Rose (faults old.keeper.now) (faults new.keeper.now))
    (λ risen. rose_from (faults old.keeper.now) (faults c.test_change.new.engine.keeper.now) (faults new.keeper.now) c.test_change.ensures.count
    (rose_from (faults c.test_change.new.engine.keeper.now) (faults mid.keeper.now) (faults new.keeper.now) c.change_edits.ensures.count risen)) c.settle_edits.ensures.causes

pub returns-clause-rests : goal.returns-clause-rests
returns-clause-rests g c =
    let says = c.settle_edits.ensures in
    record { models_are = says.models ∙ c.change_edits.ensures.same.models ∙ c.test_change.ensures.same.models; phase_is = says.phase; next_ids = says.next_ids }
