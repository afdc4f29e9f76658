-- What he is handed, his groups, and the rows.
use Rattle.std.proofs.Common.{◌≡◌, List, None, Ok, Err, refl, sym, subst}
use Rattle.std.proofs.lemmas.Result.{err_from_is_err_and}
use Rattle.std.specs.Prelude.{IfSome}
use Rattle.serde_json.specs.View.{view}
use Rattle.ob_access.specs.Policies.{IsPolicyOver}
use Rattle.ob_call.specs.Called.{called_by}
use Rattle.ob_call.specs.Forms.{fields_at}
use Rattle.ob_commands.proofs.CallAnswers.{answer-create, causes-create, unasked-create, uncaused-create, uncaused-groups, ungrouped-create}
use Rattle.ob_commands.proofs.GivenArguments.{GivesCreate}
use Rattle.ob_commands.proofs.SettledCalls.{asks-at_rest, asks-still, ends-asked, ends-either}
use Rattle.ob_commands.specs.Asked.{objects_fault}
use Rattle.ob_commands.specs.Changes.{CreateMayCome, TellsFor}
use Rattle.ob_effect.specs.declared.asking.Caller.{Caller}
use Rattle.ob_commands.proofs.creating.create_asked.Goals as goal
use Rattle.ob_schema.specs.Models.{HasModel, model_at}
use Rattle.ob_schema.specs.declared.info.ModelInfo.{ModelInfo}

-- ---- what he is handed

pub returns-in_err-vals-clause-answer : goal.returns-in_err-vals-clause-answer
returns-in_err-vals-clause-answer g c =
    let p = err_from_is_err_and c.from_residual.result c.from_residual.ensures.1 in
    let why = c.in_err-vals.field-0.0 in
    let gives = subst (λ (ms : List ModelInfo). GivesCreate ms c.args.call.now (Err why)) c.schema.ensures c.in_err-vals.ensures.given in
    rw (p.1, p.2) (unasked-create g.K.Keeper c.args.call.now c.args.engine.now c.args.policy.now c.requires.model why gives)

pub returns-in_err-vals-clause-causes : goal.returns-in_err-vals-clause-causes
returns-in_err-vals-clause-causes g c =
    let p = err_from_is_err_and c.from_residual.result c.from_residual.ensures.1 in
    let why = c.in_err-vals.field-0.0 in
    let gives = subst (λ (ms : List ModelInfo). GivesCreate ms c.args.call.now (Err why)) c.schema.ensures c.in_err-vals.ensures.given in
    rw (p.1, p.2) (uncaused-create g.K.Keeper c.args.call.now c.args.engine.now c.args.policy.now c.requires.model why gives)

-- ---- his groups

pub returns-in_err-groups-clause-answer : goal.returns-in_err-groups-clause-answer
returns-in_err-groups-clause-answer g c =
    let p = err_from_is_err_and c.from_residual-in_err-groups.result c.from_residual-in_err-groups.ensures.1 in
    rw (p.1, p.2) (ungrouped-create g.K.Keeper c.args.call.now c.args.engine.now c.args.policy.now c.groups_of.new.engine c.groups_of.ensures.asked c.in_err-groups.field-0.0 c.in_err-groups.ensures.causes)

pub returns-in_err-groups-clause-causes : goal.returns-in_err-groups-clause-causes
returns-in_err-groups-clause-causes g c =
    let p = err_from_is_err_and c.from_residual-in_err-groups.result c.from_residual-in_err-groups.ensures.1 in
    rw (p.1, p.2) (uncaused-groups g.K.Keeper c.args.call.now c.args.engine.now c.args.policy.now c.groups_of.new.engine c.groups_of.ensures.asked c.in_err-groups.field-0.0 c.in_err-groups.ensures.causes
    (λ why. IfSome (model_at c.args.engine.now.held.models c.args.call.now.model) (λ info. CreateMayCome c.args.engine.now.held.models c.args.policy.now (called_by c.args.call.now info) why)))

pub returns-in_err-groups-clause-rests : goal.returns-in_err-groups-clause-rests
returns-in_err-groups-clause-rests g c = asks-still g.K.Keeper _ _ c.groups_of.ensures.asked c.requires.rest

-- ---- the rows

pub make_whole-requires-clause-model : goal.make_whole-requires-clause-model
make_whole-requires-clause-model g c = subst (λ (ms : List ModelInfo). HasModel ms c.args.call.now.model) (sym c.groups_of.ensures.asked.same.models) c.requires.model

pub make_whole-requires-clause-rest : goal.make_whole-requires-clause-rest
make_whole-requires-clause-rest g c = asks-at_rest g.K.Keeper _ _ c.groups_of.ensures.asked c.requires.rest

pub make_whole-requires-clause-policy : goal.make_whole-requires-clause-policy
make_whole-requires-clause-policy g c = subst (λ (ms : List ModelInfo). IsPolicyOver ms c.args.policy.now) (sym c.groups_of.ensures.asked.same.models) c.requires.policy

pub make_whole-requires-clause-form : goal.make_whole-requires-clause-form
make_whole-requires-clause-form g c =
    let model = c.args.call.now.model in let json = view c.in_ok-vals.vals.json.now in
    let own = subst (λ (ms : List ModelInfo). objects_fault (fields_at ms model) json ≡ None) c.schema.ensures c.in_ok-vals.ensures.form in
    subst (λ (ms : List ModelInfo). objects_fault (fields_at ms model) json ≡ None) (sym c.groups_of.ensures.asked.same.models) own

pub returns-clause-answer : goal.returns-clause-answer
returns-clause-answer g c =
    let call = c.args.call.now in
    let by : Caller = record { policy = c.args.policy; groups = record { ref_ptr = c.args.policy.ref_ptr; now = c.in_ok-groups.groups }; user = call.caller } in
    let vals = c.in_ok-vals.vals in
    let gives = subst (λ (ms : List ModelInfo). GivesCreate ms call (Ok vals)) c.schema.ensures c.in_ok-vals.ensures.given in
    let says = c.make_whole.ensures in
    answer-create g.K.Keeper call c.args.engine.now by refl c.in_ok-groups.ensures.groups c.groups_of.new.engine c.groups_of.ensures.asked c.make_whole.new.engine vals gives c.make_whole.result says.made says.granted says.back says.refused

pub returns-clause-causes : goal.returns-clause-causes
returns-clause-causes g c =
    let call = c.args.call.now in
    let by : Caller = record { policy = c.args.policy; groups = record { ref_ptr = c.args.policy.ref_ptr; now = c.in_ok-groups.groups }; user = call.caller } in
    let vals = c.in_ok-vals.vals in
    let gives = subst (λ (ms : List ModelInfo). GivesCreate ms call (Ok vals)) c.schema.ensures c.in_ok-vals.ensures.given in
    causes-create g.K.Keeper call c.args.engine.now by refl c.in_ok-groups.ensures.groups c.groups_of.new.engine c.groups_of.ensures.asked c.make_whole.new.engine vals gives c.make_whole.result c.make_whole.ensures.refused

pub returns-clause-rests : goal.returns-clause-rests
returns-clause-rests g c =
    let says = c.make_whole.ensures in
    let ends = ends-either g.K.Keeper c.make_whole.result (λ json old new. TellsFor c.args.call.now.model old new (view c.in_ok-vals.vals.json.now) (view json)) _ _ says.made says.back in
    let all = ends-asked g.K.Keeper _ _ _ c.groups_of.ensures.asked ends in all.rests

pub returns-clause-count : goal.returns-clause-count
returns-clause-count g c =
    let says = c.make_whole.ensures in
    let ends = ends-either g.K.Keeper c.make_whole.result (λ json old new. TellsFor c.args.call.now.model old new (view c.in_ok-vals.vals.json.now) (view json)) _ _ says.made says.back in
    let all = ends-asked g.K.Keeper _ _ _ c.groups_of.ensures.asked ends in all.count

pub returns-clause-same : goal.returns-clause-same
returns-clause-same g c =
    let says = c.make_whole.ensures in
    let ends = ends-either g.K.Keeper c.make_whole.result (λ json old new. TellsFor c.args.call.now.model old new (view c.in_ok-vals.vals.json.now) (view json)) _ _ says.made says.back in
    let all = ends-asked g.K.Keeper _ _ _ c.groups_of.ensures.asked ends in all.kept

pub returns-clause-lender : goal.returns-clause-lender
returns-clause-lender g c =
    let says = c.make_whole.ensures in
    let ends = ends-either g.K.Keeper c.make_whole.result (λ json old new. TellsFor c.args.call.now.model old new (view c.in_ok-vals.vals.json.now) (view json)) _ _ says.made says.back in
    let all = ends-asked g.K.Keeper _ _ _ c.groups_of.ensures.asked ends in all.lender
