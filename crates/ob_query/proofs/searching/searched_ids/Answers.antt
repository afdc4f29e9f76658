use Rattle.std.proofs.Common.{◌≡◌, Err, refl, sym, subst, ap, ◌∙◌}
use Rattle.std.proofs.lemmas.Result.{IfOk-weaker, err_from_is_err_and}
use Rattle.std.specs.Prelude.{IfSome}
use Rattle.ob_cache.specs.Calls.{KeeperRose, standpoint}
use Rattle.ob_call.specs.Called.{called_by}
use Rattle.ob_query.proofs.Asked.{asked_then, rests_on}
use Rattle.ob_query.specs.declared.caller.Caller.{Caller}
use Rattle.ob_schema.specs.Models.{model_at}
use Rattle.ob_query.proofs.SearchAnswers.{denied_cause_at, denied_view_at, fails_cause, fails_in, StandsFor, ids_answered}
use Rattle.ob_query.proofs.ReadObjects.{ids_plain}
use Rattle.ob_query.specs.NamedFields.{search_named}
use Rattle.ob_query.specs.Search.{SearchCause, Searches, SearchesOver}
use Rattle.ob_query.specs.SearchForms.{sought_of}
use Rattle.serde_json.specs.Written.{has_float}
use Rattle.ob_query.proofs.searching.searched_ids.Goals as goal

pub returns-in_err-groups-clause-answer : goal.returns-in_err-groups-clause-answer
returns-in_err-groups-clause-answer g c =
    let p = err_from_is_err_and c.from_residual.result c.from_residual.ensures.1 in
    let models = c.args.engine.now.held.models in
    let call = c.args.call.now in
    rw (p.1, p.2) (λ tables rests. fails_in (KeeperRose (standpoint g.K.Keeper c.args.engine.now) (standpoint g.K.Keeper c.groups_of.new.engine)) (model_at models call.model)
    (λ info why. Searches models c.args.policy.now (called_by call info) tables (Err why)) c.in_err-groups.field-0.0 c.in_err-groups.ensures.causes)

pub returns-in_err-groups-clause-causes : goal.returns-in_err-groups-clause-causes
returns-in_err-groups-clause-causes g c =
    let p = err_from_is_err_and c.from_residual.result c.from_residual.ensures.1 in
    let models = c.args.engine.now.held.models in
    let call = c.args.call.now in
    rw (p.1, p.2) (fails_cause (KeeperRose (standpoint g.K.Keeper c.args.engine.now) (standpoint g.K.Keeper c.groups_of.new.engine))
    (λ why. IfSome (model_at models call.model) (λ info. SearchCause models c.args.policy.now (called_by call info) why)) c.in_err-groups.field-0.0 c.in_err-groups.ensures.causes)

pub returns-in_err-sought-clause-answer : goal.returns-in_err-sought-clause-answer
returns-in_err-sought-clause-answer g c =
    let p = err_from_is_err_and c.from_residual-in_err-sought.result c.from_residual-in_err-sought.ensures.1 in
    let models = c.args.engine.now.held.models in
    let call = c.args.call.now in
    let rose = KeeperRose (standpoint g.K.Keeper c.args.engine.now) (standpoint g.K.Keeper c.groups_of.new.engine) in
    let by : Caller = record { policy = c.args.policy; groups = record { ref_ptr = c.args.policy.ref_ptr; now = c.in_ok-groups.groups }; user = call.caller } in
    rw (p.1, p.2)
    (λ tables rests. denied_view_at _ models (c.schema.ensures ∙ c.groups_of.ensures.asked.same.models) call by refl rose (λ info. StandsFor by call.model) (λ m info. sought_of m (called_by call info)) (λ m info. search_named m (called_by call info))
    c.in_err-sought.field-0.0 tables (λ info. SearchesOver models c.args.policy.now (called_by call info)) (c.in_ok-groups.ensures.groups tables rests) (λ info view why h. h) c.in_err-sought.ensures.asked)

pub returns-in_err-sought-clause-causes : goal.returns-in_err-sought-clause-causes
returns-in_err-sought-clause-causes g c =
    let p = err_from_is_err_and c.from_residual-in_err-sought.result c.from_residual-in_err-sought.ensures.1 in
    let models = c.args.engine.now.held.models in
    let call = c.args.call.now in
    let rose = KeeperRose (standpoint g.K.Keeper c.args.engine.now) (standpoint g.K.Keeper c.groups_of.new.engine) in
    let by : Caller = record { policy = c.args.policy; groups = record { ref_ptr = c.args.policy.ref_ptr; now = c.in_ok-groups.groups }; user = call.caller } in
    rw (p.1, p.2) (denied_cause_at _ models (c.schema.ensures ∙ c.groups_of.ensures.asked.same.models) call by refl rose (λ info. StandsFor by call.model) (λ m info. sought_of m (called_by call info)) (λ m info. search_named m (called_by call info))
    c.in_err-sought.field-0.0 c.requires.model c.in_err-sought.ensures.asked)

pub returns-clause-answer : goal.returns-clause-answer
returns-clause-answer g c = λ tables rests.
    let old = c.args.engine.now in
    let mid = c.groups_of.new.engine in
    let models = old.held.models in
    let call = c.args.call.now in
    let same = c.groups_of.ensures.asked.same.models in
    let asked = rw (c.schema.ensures, same) at c.in_ok-sought.ensures.asked in
    let found = rw same at (c.in_ok-ids.ensures.told tables (rests_on g.K.Keeper old mid tables c.groups_of.ensures.asked rests)) in
    let told = rw c.as_slice.ensures.value at c.in_ok-ids_json.ensures in
    ids_answered models call (standpoint g.K.Keeper old) (standpoint g.K.Keeper c.sought_ids.new.engine) tables _ refl (c.in_ok-groups.ensures.groups tables rests) c.in_ok-sought.sought c.in_ok-sought.ensures.by c.in_ok-sought.ensures.model
    c.in_ok-ids.ids.items c.in_ok-ids_json.field-0 asked found told

pub returns-clause-plain : goal.returns-clause-plain
returns-clause-plain g c = ap has_float c.in_ok-ids_json.ensures ∙ ids_plain c.as_slice.result.now

pub returns-clause-asked : goal.returns-clause-asked
returns-clause-asked g c = asked_then g.K.Keeper c.args.engine.now c.groups_of.new.engine c.sought_ids.new.engine c.groups_of.ensures.asked c.sought_ids.ensures.asked
