-- His groups, what he asks for, and the change.
use Rattle.std.proofs.Common.{List, Err, Ok, subst, true, ◌∙◌}
use Rattle.std.proofs.lemmas.Result.{err_from_is_err_and}
use Rattle.ob_cache.specs.Calls.{Refuses, standpoint}
use Rattle.ob_cache.specs.Stages.{resting, settled_of, with_edits}
use Rattle.ob_cache.specs.Standing.{IsAtRest, RestsAt, Stands}
use Rattle.ob_io.specs.Cause.{Rose}
use Rattle.ob_rows.proofs.CallerLemmas.{refused_later, stays-rests, view-Bool}
use Rattle.ob_orm.proofs.WriteAnswer.{GivesChange, change_answer, change_cause, stopped_answer, stopped_cause, untold_answer, untold_cause, written_answer}
use Rattle.ob_rows.specs.Author.{author_by}
use Rattle.ob_orm.specs.Write.{IsAdmissible, MayStopWrite, StopsWrite, edits_of}
use Rattle.ob_orm.specs.WriteSteps.{asked_change}
use Rattle.ob_orm.proofs.writing.change_rows.Goals as goal
use Rattle.ob_schema.specs.Tables.{Tables}
use Rattle.ob_schema.specs.declared.info.ModelInfo.{ModelInfo}

pub returns-in_err-groups-clause-answer : goal.returns-in_err-groups-clause-answer
returns-in_err-groups-clause-answer g c =
    let p = err_from_is_err_and c.from_residual.result c.from_residual.ensures.1 in
    rw (p.1, p.2) (untold_answer (standpoint g.K.Keeper c.args.engine.now) (standpoint g.K.Keeper c.groups_of.new.engine) c.args.policy.now c.args.call.now c.in_err-groups.field-0.0 c.in_err-groups.ensures.causes
    (stays-rests _ _ _ _ c.groups_of.ensures.same))

pub returns-in_err-groups-clause-causes : goal.returns-in_err-groups-clause-causes
returns-in_err-groups-clause-causes g c =
    let p = err_from_is_err_and c.from_residual.result c.from_residual.ensures.1 in
    rw (p.1, p.2) (untold_cause c.args.policy.now c.args.call.now c.args.engine.now.held.models _ c.in_err-groups.field-0.0 c.in_err-groups.ensures.causes)

-- ---- what he asks for

pub returns-in_err-change-clause-answer : goal.returns-in_err-change-clause-answer
returns-in_err-change-clause-answer g c =
    let p = err_from_is_err_and c.from_residual-in_err-change.result c.from_residual-in_err-change.ensures.1 in
    let why = c.in_err-change.field-0.0 in
    let gives = subst (λ (ms : List ModelInfo). GivesChange ms c.args.call.now (Err why)) (c.schema-schema.ensures ∙ c.groups_of.ensures.same.models) c.in_err-change.ensures.value in
    rw (p.1, p.2) (change_answer (standpoint g.K.Keeper c.args.engine.now) (standpoint g.K.Keeper c.groups_of.new.engine) c.args.policy.now c.args.call.now c.in_ok-groups.groups c.in_ok-groups.ensures.groups why c.requires.model gives
    (stays-rests _ _ _ _ c.groups_of.ensures.same))

pub returns-in_err-change-clause-causes : goal.returns-in_err-change-clause-causes
returns-in_err-change-clause-causes g c =
    let p = err_from_is_err_and c.from_residual-in_err-change.result c.from_residual-in_err-change.ensures.1 in
    let why = c.in_err-change.field-0.0 in
    let gives = subst (λ (ms : List ModelInfo). GivesChange ms c.args.call.now (Err why)) (c.schema-schema.ensures ∙ c.groups_of.ensures.same.models) c.in_err-change.ensures.value in
    rw (p.1, p.2) (change_cause c.args.policy.now c.args.call.now c.args.engine.now.held.models _ why c.requires.model gives)

-- ---- the change

pub returns-in_err-carry_out-clause-answer : goal.returns-in_err-carry_out-clause-answer
returns-in_err-carry_out-clause-answer g c =
    let p = err_from_is_err_and c.from_residual-in_err-carry_out.result c.from_residual-in_err-carry_out.ensures.1 in
    let call = c.args.call.now in let policy = c.args.policy.now in let own = c.in_ok-groups.groups in
    let change = c.in_ok-change.change in
    let why = c.in_err-carry_out.field-0.0 in
    let old = c.args.engine.now in let mid = c.groups_of.new.engine in let new = c.carry_out.new.engine in
    let faults = g.K.Keeper.faults in let kept = g.K.Keeper.kept in
    let same = c.groups_of.ensures.same in
    let gives = subst (λ (ms : List ModelInfo). GivesChange ms call (Ok change)) (c.schema-schema.ensures ∙ same.models) c.in_ok-change.ensures.value in
    let later = Rose (faults mid.keeper.now) (faults new.keeper.now) in
    let refused = subst (λ (ms : List ModelInfo). (tables : Tables) → RestsAt (kept mid.keeper.now) mid.held tables
    → RestsAt (kept new.keeper.now) new.held tables × Refuses later (StopsWrite ms policy (author_by call) call.model tables own (asked_change change)) why) same.models c.in_err-carry_out.ensures.refused in
    rw (p.1, p.2) (stopped_answer (standpoint g.K.Keeper old) (standpoint g.K.Keeper new) policy call own c.in_ok-groups.ensures.groups change gives why (λ tables rests.
    let said = refused tables (stays-rests _ _ _ _ same tables rests) in
    let stops = StopsWrite old.held.models policy (author_by call) call.model tables own (asked_change change) in
    (said.0, refused_later (faults old.keeper.now) (faults mid.keeper.now) (faults new.keeper.now) c.groups_of.ensures.count stops stops why (λ w h. h) said.1)))

pub returns-in_err-carry_out-clause-causes : goal.returns-in_err-carry_out-clause-causes
returns-in_err-carry_out-clause-causes g c =
    let p = err_from_is_err_and c.from_residual-in_err-carry_out.result c.from_residual-in_err-carry_out.ensures.1 in
    let call = c.args.call.now in let policy = c.args.policy.now in
    let change = c.in_ok-change.change in
    let why = c.in_err-carry_out.field-0.0 in
    let old = c.args.engine.now in let mid = c.groups_of.new.engine in let new = c.carry_out.new.engine in
    let faults = g.K.Keeper.faults in
    let same = c.groups_of.ensures.same in
    let gives = subst (λ (ms : List ModelInfo). GivesChange ms call (Ok change)) (c.schema-schema.ensures ∙ same.models) c.in_ok-change.ensures.value in
    let causes = subst (λ (ms : List ModelInfo). Refuses (Rose (faults mid.keeper.now) (faults new.keeper.now)) (MayStopWrite ms policy call.caller call.model (asked_change change)) why) same.models c.in_err-carry_out.ensures.causes in
    let may = MayStopWrite old.held.models policy call.caller call.model (asked_change change) in
    rw (p.1, p.2) (stopped_cause (standpoint g.K.Keeper old) (standpoint g.K.Keeper new) policy call c.in_ok-groups.groups c.in_ok-groups.ensures.groups change gives
    (Rose (faults old.keeper.now) (faults new.keeper.now)) why (refused_later (faults old.keeper.now) (faults mid.keeper.now) (faults new.keeper.now) c.groups_of.ensures.count may may why (λ w h. h) causes))

pub returns-clause-answer : goal.returns-clause-answer
returns-clause-answer g c =
    let call = c.args.call.now in let policy = c.args.policy.now in let own = c.in_ok-groups.groups in
    let change = c.in_ok-change.change in
    let old = c.args.engine.now in let mid = c.groups_of.new.engine in let new = c.carry_out.new.engine in
    let kept = g.K.Keeper.kept in
    let same = c.groups_of.ensures.same in
    let gives = subst (λ (ms : List ModelInfo). GivesChange ms call (Ok change)) (c.schema-schema.ensures ∙ same.models) c.in_ok-change.ensures.value in
    let settled = subst (λ (ms : List ModelInfo). (tables : Tables) → RestsAt (kept mid.keeper.now) mid.held tables → IsAdmissible ms policy call.caller call.model tables own (asked_change change)
    × Stands (kept new.keeper.now) new.held (settled_of (with_edits (resting ms tables) (edits_of ms (author_by call) call.model tables (asked_change change))))) same.models c.in_ok-carry_out.ensures.settled in
    let rests = subst (λ (ms : List ModelInfo). IsAtRest ms new.held) same.models c.carry_out.ensures.rests in
    written_answer (standpoint g.K.Keeper old) (standpoint g.K.Keeper new) policy call own c.in_ok-groups.ensures.groups change gives _ (view-Bool true) rests (λ tables at. settled tables (stays-rests _ _ _ _ same tables at))
