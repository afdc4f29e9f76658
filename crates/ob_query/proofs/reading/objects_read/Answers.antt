use Rattle.std.proofs.Common.{◌≡◌, Err, refl, sym, subst, ap, ◌∙◌}
use Rattle.std.proofs.lemmas.Result.{IfOk-weaker, err_from_is_err_and}
use Rattle.std.specs.Prelude.{IfSome}
use Rattle.ob_cache.specs.Calls.{KeeperRose, standpoint}
use Rattle.ob_call.specs.Called.{called_by, result_view}
use Rattle.ob_query.proofs.Asked.{asked_then, rests_on, tells_tables}
use Rattle.ob_query.proofs.Callers.{tells_tables_to}
use Rattle.ob_query.proofs.GrantedFields.{everywhere}
use Rattle.ob_query.proofs.ReadAnswers.{StandsForRead, as_read, hidden_causes, hidden_here, least_here, missing_answered, missing_cause, read_cause, rows_answered, told_here}
use Rattle.ob_query.proofs.SearchAnswers.{denied_cause_at, denied_view_at, fails_cause, fails_in, told_later}
use Rattle.ob_query.specs.NamedFields.{read_named}
use Rattle.ob_query.specs.Read.{ReadCause, Reads, ReadsOver}
use Rattle.ob_query.specs.ReadArguments.{asked_of}
use Rattle.ob_schema.specs.Facts.{told_by}
use Rattle.ob_query.specs.declared.caller.Caller.{Caller}
use Rattle.ob_schema.specs.Models.{model_at}
use Rattle.ob_query.proofs.reading.objects_read.Goals as goal

pub returns-in_err-groups-clause-answer : goal.returns-in_err-groups-clause-answer
returns-in_err-groups-clause-answer g c =
    let p = err_from_is_err_and c.from_residual.result c.from_residual.ensures.1 in
    let models = c.args.engine.now.held.models in
    let call = c.args.call.now in
    rw (p.1, p.2) (λ tables rests. fails_in (KeeperRose (standpoint g.K.Keeper c.args.engine.now) (standpoint g.K.Keeper c.groups_of.new.engine)) (model_at models call.model)
    (λ info why. Reads models c.args.policy.now (called_by call info) tables (Err why)) c.in_err-groups.field-0.0 c.in_err-groups.ensures.causes)

pub returns-in_err-groups-clause-causes : goal.returns-in_err-groups-clause-causes
returns-in_err-groups-clause-causes g c =
    let p = err_from_is_err_and c.from_residual.result c.from_residual.ensures.1 in
    let models = c.args.engine.now.held.models in
    let call = c.args.call.now in
    rw (p.1, p.2) (fails_cause (KeeperRose (standpoint g.K.Keeper c.args.engine.now) (standpoint g.K.Keeper c.groups_of.new.engine))
    (λ why. IfSome (model_at models call.model) (λ info. ReadCause c.args.policy.now (called_by call info) why)) c.in_err-groups.field-0.0 c.in_err-groups.ensures.causes)

pub returns-in_err-asked-clause-answer : goal.returns-in_err-asked-clause-answer
returns-in_err-asked-clause-answer g c =
    let p = err_from_is_err_and c.from_residual-in_err-asked.result c.from_residual-in_err-asked.ensures.1 in
    let models = c.args.engine.now.held.models in
    let call = c.args.call.now in
    let rose = KeeperRose (standpoint g.K.Keeper c.args.engine.now) (standpoint g.K.Keeper c.groups_of.new.engine) in
    let by : Caller = record { policy = c.args.policy; groups = record { ref_ptr = c.args.policy.ref_ptr; now = c.in_ok-groups.groups }; user = call.caller } in
    rw (p.1, p.2)
    (λ tables rests. denied_view_at _ models (c.schema.ensures ∙ c.groups_of.ensures.asked.same.models) call by refl rose (StandsForRead by call.model) (λ m info. asked_of (called_by call info)) (λ m info. read_named (called_by call info))
    c.in_err-asked.field-0.0 tables (λ info. ReadsOver c.args.policy.now (called_by call info)) (c.in_ok-groups.ensures.groups tables rests) (λ info view why h. as_read c.args.policy.now view (called_by call info) why h) c.in_err-asked.ensures.asked)

pub returns-in_err-asked-clause-causes : goal.returns-in_err-asked-clause-causes
returns-in_err-asked-clause-causes g c =
    let p = err_from_is_err_and c.from_residual-in_err-asked.result c.from_residual-in_err-asked.ensures.1 in
    let models = c.args.engine.now.held.models in
    let call = c.args.call.now in
    let rose = KeeperRose (standpoint g.K.Keeper c.args.engine.now) (standpoint g.K.Keeper c.groups_of.new.engine) in
    let by : Caller = record { policy = c.args.policy; groups = record { ref_ptr = c.args.policy.ref_ptr; now = c.in_ok-groups.groups }; user = call.caller } in
    rw (p.1, p.2) (read_cause rose c.args.policy.now call (model_at models call.model) c.in_err-asked.field-0.0
    (denied_cause_at _ models (c.schema.ensures ∙ c.groups_of.ensures.asked.same.models) call by refl rose (StandsForRead by call.model) (λ m info. asked_of (called_by call info)) (λ m info. read_named (called_by call info))
    c.in_err-asked.field-0.0 c.requires.model c.in_err-asked.ensures.asked))

pub returns-in-Some-clause-answer : goal.returns-in-Some-clause-answer
returns-in-Some-clause-answer g c = λ tables rests.
    let old = c.args.engine.now in
    let mid = c.groups_of.new.engine in
    let models = old.held.models in
    let same = c.groups_of.ensures.asked.same.models in
    let asked = c.in_ok-asked.asked in
    let meant = rw (c.schema.ensures, same) at c.in_ok-asked.ensures.asked in
    let tells = c.in_ok-id.ensures.told (told_by mid.held.models tables) (tells_tables g.K.Keeper mid tables (rests_on g.K.Keeper old mid tables c.groups_of.ensures.asked rests)) in
    let least = least_here mid.held.models models same c.as_slice.result.now asked.ids.items c.as_slice.ensures.value tables asked.model c.args.call.now.model c.in_ok-asked.ensures.model _ _ c.in-Some.is tells in
    let by : Caller = record { policy = c.args.policy; groups = record { ref_ptr = c.args.policy.ref_ptr; now = c.in_ok-groups.groups }; user = c.args.call.now.caller } in
    missing_answered models c.args.call.now by refl asked c.in_ok-asked.ensures.model tables (c.in_ok-groups.ensures.groups tables rests)
    (KeeperRose (standpoint g.K.Keeper old) (standpoint g.K.Keeper c.least_missing.new.engine)) _ meant least

pub returns-in-Some-clause-causes : goal.returns-in-Some-clause-causes
returns-in-Some-clause-causes g c =
    let models = c.args.engine.now.held.models in
    let meant = rw (c.schema.ensures, c.groups_of.ensures.asked.same.models) at c.in_ok-asked.ensures.asked in
    let among = rw (c.in-Some.is, c.as_slice.ensures.value) at c.in_ok-id.ensures.among in
    let by : Caller = record { policy = c.args.policy; groups = record { ref_ptr = c.args.policy.ref_ptr; now = c.in_ok-groups.groups }; user = c.args.call.now.caller } in
    missing_cause models c.args.call.now by refl c.in_ok-asked.asked c.in_ok-asked.ensures.model (model_at models c.args.call.now.model) _ meant among

pub returns-clause-answer : goal.returns-clause-answer
returns-clause-answer g c = λ tables rests.
    let old = c.args.engine.now in
    let mid = c.groups_of.new.engine in
    let next = c.least_missing.new.engine in
    let models = old.held.models in
    let call = c.args.call.now in
    let asked = c.in_ok-asked.asked in
    let same = c.groups_of.ensures.asked.same.models in
    let both = asked_then g.K.Keeper old mid next c.groups_of.ensures.asked c.least_missing.ensures.asked in
    let meant = rw (c.schema.ensures, same) at c.in_ok-asked.ensures.asked in
    let tells = c.in_ok-id.ensures.told (told_by mid.held.models tables) (tells_tables g.K.Keeper mid tables (rests_on g.K.Keeper old mid tables c.groups_of.ensures.asked rests)) in
    let there = least_here mid.held.models models same c.as_slice.result.now asked.ids.items c.as_slice.ensures.value tables asked.model call.model c.in_ok-asked.ensures.model _ _ c.in-None.is tells in
    let seen = c.told_rows.ensures.told _ (tells_tables_to g.K.Keeper asked.by next tables (rests_on g.K.Keeper old next tables both rests)) in
    let told = told_here next.held.models models both.same.models tables asked _ c.in_ok-asked.ensures.by call.model c.in_ok-asked.ensures.model (KeeperRose (standpoint g.K.Keeper next) (standpoint g.K.Keeper c.told_rows.new.engine)) (result_view c.told_rows.result) seen in
    let by : Caller = record { policy = c.args.policy; groups = record { ref_ptr = c.args.policy.ref_ptr; now = c.in_ok-groups.groups }; user = c.args.call.now.caller } in
    rows_answered models call by refl asked c.in_ok-asked.ensures.model tables (c.in_ok-groups.ensures.groups tables rests) (standpoint g.K.Keeper old) (standpoint g.K.Keeper next) (standpoint g.K.Keeper c.told_rows.new.engine)
    c.told_rows.result both.count meant there told

pub returns-clause-causes : goal.returns-clause-causes
returns-clause-causes g c =
    let old = c.args.engine.now in
    let next = c.least_missing.new.engine in
    let models = old.held.models in
    let call = c.args.call.now in
    let asked = c.in_ok-asked.asked in
    let both = asked_then g.K.Keeper old c.groups_of.new.engine next c.groups_of.ensures.asked c.least_missing.ensures.asked in
    let meant = rw (c.schema.ensures, c.groups_of.ensures.asked.same.models) at c.in_ok-asked.ensures.asked in
    let by : Caller = record { policy = c.args.policy; groups = record { ref_ptr = c.args.policy.ref_ptr; now = c.in_ok-groups.groups }; user = c.args.call.now.caller } in
    hidden_causes models call by refl asked c.in_ok-asked.ensures.model (model_at models call.model) (standpoint g.K.Keeper old) (standpoint g.K.Keeper next)
    (standpoint g.K.Keeper c.told_rows.new.engine) c.told_rows.result both.count meant (hidden_here asked.model call.model c.in_ok-asked.ensures.model (KeeperRose (standpoint g.K.Keeper next) (standpoint g.K.Keeper c.told_rows.new.engine)) asked.ids.items c.told_rows.result c.told_rows.ensures.hidden)

pub returns-in-Some-clause-asked : goal.returns-in-Some-clause-asked
returns-in-Some-clause-asked g c = asked_then g.K.Keeper c.args.engine.now c.groups_of.new.engine c.least_missing.new.engine c.groups_of.ensures.asked c.least_missing.ensures.asked

pub returns-clause-asked : goal.returns-clause-asked
returns-clause-asked g c =
    let old = c.args.engine.now in
    let both = asked_then g.K.Keeper old c.groups_of.new.engine c.least_missing.new.engine c.groups_of.ensures.asked c.least_missing.ensures.asked in
    asked_then g.K.Keeper old c.least_missing.new.engine c.told_rows.new.engine both c.told_rows.ensures.asked
