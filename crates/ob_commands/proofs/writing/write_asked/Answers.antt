-- What he is handed, his groups, and the change.
use Rattle.std.proofs.Common.{◌≡◌, List, None, Ok, Err, true, refl, sym, subst}
use Rattle.std.proofs.lemmas.Result.{err_from_is_err_and}
use Rattle.std.specs.Prelude.{IfSome, ⊤}
use Rattle.serde_json.specs.View.{view}
use Rattle.ob_access.specs.Policies.{IsPolicyOver}
use Rattle.ob_call.specs.Called.{called_by}
use Rattle.ob_call.specs.Forms.{fields_at}
use Rattle.ob_commands.proofs.CallAnswers.{caused-write, made-write, refused-write, unasked-write, uncaused-groups, uncaused-write, ungrouped-write}
use Rattle.ob_commands.proofs.GivenArguments.{GivesWrite}
use Rattle.ob_commands.proofs.SettledCalls.{asks-at_rest, asks-still, ends-asked, ends-back, ends-settled}
use Rattle.ob_commands.specs.Asked.{object_fault}
use Rattle.ob_commands.specs.Changes.{WriteMayCome}
use Rattle.ob_effect.specs.declared.asking.Caller.{Caller}
use Rattle.ob_rows.proofs.CallerLemmas.{view-Bool}
use Rattle.ob_commands.proofs.writing.write_asked.Goals as goal
use Rattle.ob_schema.specs.Models.{HasModel, model_at}
use Rattle.ob_schema.specs.declared.info.ModelInfo.{ModelInfo}

-- ---- what he is handed

pub returns-in_err-change-clause-answer : goal.returns-in_err-change-clause-answer
returns-in_err-change-clause-answer g c =
    let p = err_from_is_err_and c.from_residual.result c.from_residual.ensures.1 in
    let why = c.in_err-change.field-0.0 in
    let gives = subst (λ (ms : List ModelInfo). GivesWrite ms c.args.call.now (Err why)) c.schema.ensures c.in_err-change.ensures.given in
    rw (p.1, p.2) (unasked-write g.K.Keeper c.args.call.now c.args.engine.now c.args.policy.now c.requires.model why gives)

pub returns-in_err-change-clause-causes : goal.returns-in_err-change-clause-causes
returns-in_err-change-clause-causes g c =
    let p = err_from_is_err_and c.from_residual.result c.from_residual.ensures.1 in
    let why = c.in_err-change.field-0.0 in
    let gives = subst (λ (ms : List ModelInfo). GivesWrite ms c.args.call.now (Err why)) c.schema.ensures c.in_err-change.ensures.given in
    rw (p.1, p.2) (uncaused-write g.K.Keeper c.args.call.now c.args.engine.now c.args.policy.now c.requires.model why gives)

-- ---- his groups

pub returns-in_err-groups-clause-answer : goal.returns-in_err-groups-clause-answer
returns-in_err-groups-clause-answer g c =
    let p = err_from_is_err_and c.from_residual-in_err-groups.result c.from_residual-in_err-groups.ensures.1 in
    rw (p.1, p.2) (ungrouped-write g.K.Keeper c.args.call.now c.args.engine.now c.args.policy.now c.groups_of.new.engine c.groups_of.ensures.asked c.in_err-groups.field-0.0 c.in_err-groups.ensures.causes)

pub returns-in_err-groups-clause-causes : goal.returns-in_err-groups-clause-causes
returns-in_err-groups-clause-causes g c =
    let p = err_from_is_err_and c.from_residual-in_err-groups.result c.from_residual-in_err-groups.ensures.1 in
    rw (p.1, p.2) (uncaused-groups g.K.Keeper c.args.call.now c.args.engine.now c.args.policy.now c.groups_of.new.engine c.groups_of.ensures.asked c.in_err-groups.field-0.0 c.in_err-groups.ensures.causes
    (λ why. IfSome (model_at c.args.engine.now.held.models c.args.call.now.model) (λ info. WriteMayCome c.args.engine.now.held.models c.args.policy.now (called_by c.args.call.now info) why)))

pub returns-in_err-groups-clause-rests : goal.returns-in_err-groups-clause-rests
returns-in_err-groups-clause-rests g c = asks-still g.K.Keeper _ _ c.groups_of.ensures.asked c.requires.rest

-- ---- the change

pub change_whole-requires-clause-model : goal.change_whole-requires-clause-model
change_whole-requires-clause-model g c = subst (λ (ms : List ModelInfo). HasModel ms c.args.call.now.model) (sym c.groups_of.ensures.asked.same.models) c.requires.model

pub change_whole-requires-clause-rest : goal.change_whole-requires-clause-rest
change_whole-requires-clause-rest g c = asks-at_rest g.K.Keeper _ _ c.groups_of.ensures.asked c.requires.rest

pub change_whole-requires-clause-policy : goal.change_whole-requires-clause-policy
change_whole-requires-clause-policy g c = subst (λ (ms : List ModelInfo). IsPolicyOver ms c.args.policy.now) (sym c.groups_of.ensures.asked.same.models) c.requires.policy

pub change_whole-requires-clause-form : goal.change_whole-requires-clause-form
change_whole-requires-clause-form g c =
    let model = c.args.call.now.model in let json = view c.in_ok-change.change.vals.json.now in
    let own = subst (λ (ms : List ModelInfo). object_fault (fields_at ms model) json ≡ None) c.schema.ensures c.in_ok-change.ensures.form in
    subst (λ (ms : List ModelInfo). object_fault (fields_at ms model) json ≡ None) (sym c.groups_of.ensures.asked.same.models) own

pub returns-in_err-change_whole-clause-answer : goal.returns-in_err-change_whole-clause-answer
returns-in_err-change_whole-clause-answer g c =
    let p = err_from_is_err_and c.from_residual-in_err-change_whole.result c.from_residual-in_err-change_whole.ensures.1 in
    let call = c.args.call.now in
    let by : Caller = record { policy = c.args.policy; groups = record { ref_ptr = c.args.policy.ref_ptr; now = c.in_ok-groups.groups }; user = call.caller } in
    let change = c.in_ok-change.change in
    let gives = subst (λ (ms : List ModelInfo). GivesWrite ms call (Ok change)) c.schema.ensures c.in_ok-change.ensures.given in
    rw (p.1, p.2) (refused-write g.K.Keeper call c.args.engine.now by refl c.in_ok-groups.ensures.groups c.groups_of.new.engine c.groups_of.ensures.asked c.change_whole.new.engine change gives c.in_err-change_whole.field-0.0
    c.in_err-change_whole.ensures.back c.in_err-change_whole.ensures.refused)

pub returns-in_err-change_whole-clause-causes : goal.returns-in_err-change_whole-clause-causes
returns-in_err-change_whole-clause-causes g c =
    let p = err_from_is_err_and c.from_residual-in_err-change_whole.result c.from_residual-in_err-change_whole.ensures.1 in
    let call = c.args.call.now in
    let by : Caller = record { policy = c.args.policy; groups = record { ref_ptr = c.args.policy.ref_ptr; now = c.in_ok-groups.groups }; user = call.caller } in
    let change = c.in_ok-change.change in
    let gives = subst (λ (ms : List ModelInfo). GivesWrite ms call (Ok change)) c.schema.ensures c.in_ok-change.ensures.given in
    rw (p.1, p.2) (caused-write g.K.Keeper call c.args.engine.now by refl c.in_ok-groups.ensures.groups c.groups_of.new.engine c.groups_of.ensures.asked c.change_whole.new.engine change gives c.in_err-change_whole.field-0.0
    c.in_err-change_whole.ensures.refused)

pub returns-in_err-change_whole-clause-rests : goal.returns-in_err-change_whole-clause-rests
returns-in_err-change_whole-clause-rests g c = let all = ends-asked g.K.Keeper _ _ _ c.groups_of.ensures.asked (ends-back g.K.Keeper _ _ c.in_err-change_whole.ensures.back) in all.rests

pub returns-in_err-change_whole-clause-count : goal.returns-in_err-change_whole-clause-count
returns-in_err-change_whole-clause-count g c = let all = ends-asked g.K.Keeper _ _ _ c.groups_of.ensures.asked (ends-back g.K.Keeper _ _ c.in_err-change_whole.ensures.back) in all.count

pub returns-in_err-change_whole-clause-same : goal.returns-in_err-change_whole-clause-same
returns-in_err-change_whole-clause-same g c = let all = ends-asked g.K.Keeper _ _ _ c.groups_of.ensures.asked (ends-back g.K.Keeper _ _ c.in_err-change_whole.ensures.back) in all.kept

pub returns-in_err-change_whole-clause-lender : goal.returns-in_err-change_whole-clause-lender
returns-in_err-change_whole-clause-lender g c = let all = ends-asked g.K.Keeper _ _ _ c.groups_of.ensures.asked (ends-back g.K.Keeper _ _ c.in_err-change_whole.ensures.back) in all.lender

pub returns-clause-answer : goal.returns-clause-answer
returns-clause-answer g c =
    let call = c.args.call.now in
    let by : Caller = record { policy = c.args.policy; groups = record { ref_ptr = c.args.policy.ref_ptr; now = c.in_ok-groups.groups }; user = call.caller } in
    let change = c.in_ok-change.change in
    let gives = subst (λ (ms : List ModelInfo). GivesWrite ms call (Ok change)) c.schema.ensures c.in_ok-change.ensures.given in
    made-write g.K.Keeper call c.args.engine.now by refl c.in_ok-groups.ensures.groups c.groups_of.new.engine c.groups_of.ensures.asked c.change_whole.new.engine change gives _ (view-Bool true) c.in_ok-change_whole.ensures.settled
    c.in_ok-change_whole.ensures.granted

pub returns-clause-rests : goal.returns-clause-rests
returns-clause-rests g c = let all = ends-asked g.K.Keeper _ _ _ c.groups_of.ensures.asked (ends-settled g.K.Keeper (λ _ _. ⊤) _ _ c.in_ok-change_whole.ensures.settled) in all.rests

pub returns-clause-count : goal.returns-clause-count
returns-clause-count g c = let all = ends-asked g.K.Keeper _ _ _ c.groups_of.ensures.asked (ends-settled g.K.Keeper (λ _ _. ⊤) _ _ c.in_ok-change_whole.ensures.settled) in all.count

pub returns-clause-same : goal.returns-clause-same
returns-clause-same g c = let all = ends-asked g.K.Keeper _ _ _ c.groups_of.ensures.asked (ends-settled g.K.Keeper (λ _ _. ⊤) _ _ c.in_ok-change_whole.ensures.settled) in all.kept

pub returns-clause-lender : goal.returns-clause-lender
returns-clause-lender g c = let all = ends-asked g.K.Keeper _ _ _ c.groups_of.ensures.asked (ends-settled g.K.Keeper (λ _ _. ⊤) _ _ c.in_ok-change_whole.ensures.settled) in all.lender
