use Rattle.std.proofs.Common.{◌≡◌, Err, refl, sym, subst, ap, ◌∙◌}
use Rattle.std.proofs.lemmas.Result.{IfOk-weaker, err_from_is_err_and}
use Rattle.ob_cache.specs.Calls.{KeeperRose, standpoint}
use Rattle.ob_call.specs.Called.{called_by}
use Rattle.ob_query.proofs.Asked.{asked_then, rests_on}
use Rattle.ob_query.specs.declared.caller.Caller.{Caller}
use Rattle.ob_schema.specs.Models.{model_at}
use Rattle.ob_query.proofs.SearchAnswers.{denied_cause_at, denied_view_at, fails_cause, fails_in, told_causes_later}
use Rattle.std.specs.Prelude.{All, IfSome}
use Rattle.ob_query.proofs.SearchReadAnswers.{listed_here, StandsForObjects, found-there, objects_answered}
use Rattle.ob_query.proofs.Callers.{tells_tables_to}
use Rattle.ob_query.specs.NamedFields.{objects_named}
use Rattle.ob_query.specs.Search.{SearchReadCause, SearchReads, SearchReadsOver}
use Rattle.ob_query.specs.SearchForms.{objects_of}
use Rattle.ob_query.proofs.searching.searched_objects.Goals as goal

pub returns-in_err-groups-clause-answer : goal.returns-in_err-groups-clause-answer
returns-in_err-groups-clause-answer g c =
    let p = err_from_is_err_and c.from_residual.result c.from_residual.ensures.1 in
    let models = c.args.engine.now.held.models in
    let call = c.args.call.now in
    rw (p.1, p.2) (λ tables rests. fails_in (KeeperRose (standpoint g.K.Keeper c.args.engine.now) (standpoint g.K.Keeper c.groups_of.new.engine)) (model_at models call.model)
    (λ info why. SearchReads models c.args.policy.now (called_by call info) tables (Err why)) c.in_err-groups.field-0.0 c.in_err-groups.ensures.causes)

pub returns-in_err-groups-clause-causes : goal.returns-in_err-groups-clause-causes
returns-in_err-groups-clause-causes g c =
    let p = err_from_is_err_and c.from_residual.result c.from_residual.ensures.1 in
    let models = c.args.engine.now.held.models in
    let call = c.args.call.now in
    rw (p.1, p.2) (fails_cause (KeeperRose (standpoint g.K.Keeper c.args.engine.now) (standpoint g.K.Keeper c.groups_of.new.engine))
    (λ why. IfSome (model_at models call.model) (λ info. SearchReadCause models c.args.policy.now (called_by call info) why)) c.in_err-groups.field-0.0 c.in_err-groups.ensures.causes)

pub returns-in_err-asked-clause-answer : goal.returns-in_err-asked-clause-answer
returns-in_err-asked-clause-answer g c =
    let p = err_from_is_err_and c.from_residual-in_err-asked.result c.from_residual-in_err-asked.ensures.1 in
    let models = c.args.engine.now.held.models in
    let call = c.args.call.now in
    let rose = KeeperRose (standpoint g.K.Keeper c.args.engine.now) (standpoint g.K.Keeper c.groups_of.new.engine) in
    let by : Caller = record { policy = c.args.policy; groups = record { ref_ptr = c.args.policy.ref_ptr; now = c.in_ok-groups.groups }; user = call.caller } in
    rw (p.1, p.2)
    (λ tables rests. denied_view_at _ models (c.schema.ensures ∙ c.groups_of.ensures.asked.same.models) call by refl rose (StandsForObjects by call.model) (λ m info. objects_of m (called_by call info)) (λ m info. objects_named m (called_by call info))
    c.in_err-asked.field-0.0 tables (λ info. SearchReadsOver models c.args.policy.now (called_by call info)) (c.in_ok-groups.ensures.groups tables rests) (λ info view why h. h) c.in_err-asked.ensures.asked)

pub returns-in_err-asked-clause-causes : goal.returns-in_err-asked-clause-causes
returns-in_err-asked-clause-causes g c =
    let p = err_from_is_err_and c.from_residual-in_err-asked.result c.from_residual-in_err-asked.ensures.1 in
    let models = c.args.engine.now.held.models in
    let call = c.args.call.now in
    let rose = KeeperRose (standpoint g.K.Keeper c.args.engine.now) (standpoint g.K.Keeper c.groups_of.new.engine) in
    let by : Caller = record { policy = c.args.policy; groups = record { ref_ptr = c.args.policy.ref_ptr; now = c.in_ok-groups.groups }; user = call.caller } in
    rw (p.1, p.2) (denied_cause_at _ models (c.schema.ensures ∙ c.groups_of.ensures.asked.same.models) call by refl rose (StandsForObjects by call.model) (λ m info. objects_of m (called_by call info)) (λ m info. objects_named m (called_by call info))
    c.in_err-asked.field-0.0 c.requires.model c.in_err-asked.ensures.asked)

pub returns-clause-answer : goal.returns-clause-answer
returns-clause-answer g c = λ tables rests.
    let old = c.args.engine.now in
    let mid = c.groups_of.new.engine in
    let next = c.sought_ids.new.engine in
    let models = old.held.models in
    let call = c.args.call.now in
    let asked = c.in_ok-asked.asked in
    let ids = c.in_ok-ids.ids.items in
    let same = c.groups_of.ensures.asked.same.models in
    let both = asked_then g.K.Keeper old mid next c.groups_of.ensures.asked c.sought_ids.ensures.asked in
    let meant = rw (c.schema.ensures, same) at c.in_ok-asked.ensures.asked in
    let found = rw same at (c.in_ok-ids.ensures.told tables (rests_on g.K.Keeper old mid tables c.groups_of.ensures.asked rests)) in
    let there = found-there models tables asked.sought ids found in
    let listed = IfOk-weaker c.objects_told.result _ _
    (λ json lists. listed_here next.held.models models both.same.models c.as_slice.result.now ids c.as_slice.ensures.value tables asked _ c.in_ok-asked.ensures.by _ c.in_ok-asked.ensures.model json there
    (lists _ (tells_tables_to g.K.Keeper asked.sought.by next tables (rests_on g.K.Keeper old next tables both rests)))) c.objects_told.ensures.told in
    objects_answered models call (standpoint g.K.Keeper old) (standpoint g.K.Keeper next) (standpoint g.K.Keeper c.objects_told.new.engine) tables _ refl (c.in_ok-groups.ensures.groups tables rests) asked ids c.objects_told.result
    c.in_ok-asked.ensures.by c.in_ok-asked.ensures.model both.count meant found listed c.objects_told.ensures.causes

pub returns-clause-causes : goal.returns-clause-causes
returns-clause-causes g c =
    let old = c.args.engine.now in
    let both = asked_then g.K.Keeper old c.groups_of.new.engine c.sought_ids.new.engine c.groups_of.ensures.asked c.sought_ids.ensures.asked in
    told_causes_later (λ why. IfSome (model_at old.held.models c.args.call.now.model) (λ info. SearchReadCause old.held.models c.args.policy.now (called_by c.args.call.now info) why)) (standpoint g.K.Keeper old) (standpoint g.K.Keeper c.sought_ids.new.engine) (standpoint g.K.Keeper c.objects_told.new.engine) c.objects_told.result both.count c.objects_told.ensures.causes

pub returns-clause-asked : goal.returns-clause-asked
returns-clause-asked g c =
    let old = c.args.engine.now in
    let both = asked_then g.K.Keeper old c.groups_of.new.engine c.sought_ids.new.engine c.groups_of.ensures.asked c.sought_ids.ensures.asked in
    asked_then g.K.Keeper old c.sought_ids.new.engine c.objects_told.new.engine both c.objects_told.ensures.asked
