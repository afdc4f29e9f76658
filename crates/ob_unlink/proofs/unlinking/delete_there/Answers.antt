-- A missing id, or the deletion.
use Rattle.std.proofs.Common.{List, Option, ℕ, refl, subst, sym, ◌∙◌}
use Rattle.std.proofs.lemmas.Result.{err_from_is_err_and, on_ok_weaker}
use Rattle.ob_access.specs.Policies.{IsPolicyOver}
use Rattle.ob_base.specs.declared.refusal.Op.TheVariants as op
use Rattle.ob_rows.proofs.CallerLemmas.{err-later, err-map, refused_later, stays-at_rest, stays-itself, stays-rests, told-sooner, unasked-cause}
use Rattle.ob_unlink.proofs.Stopped.{may-stop, missing-asked, stopped-unlink}
use Rattle.ob_rows.specs.AskingSteps.{AdmitsBy, AreKnown}
use Rattle.ob_unlink.specs.DeletionSteps.{HoldsBack, MayHoldBack, MayStopUnlink, SettlesDeletion, StopsUnlink}
use Rattle.ob_rows.specs.Rights.{rows_named}
use Rattle.ob_rows.specs.There.{MissesOnly}
use Rattle.ob_unlink.proofs.unlinking.delete_there.Goals as goal
use Rattle.ob_schema.specs.Facts.{told_by}
use Rattle.ob_schema.specs.Models.{HasModel}
use Rattle.ob_schema.specs.declared.info.ModelInfo.{ModelInfo}

pub returns-in_err-missing-clause-refused : goal.returns-in_err-missing-clause-refused
returns-in_err-missing-clause-refused g c =
    let p = err_from_is_err_and c.from_residual.result c.from_residual.ensures.1 in
    rw (p.1, p.2) (λ tables rests.
    (stays-rests _ _ _ _ c.missing_id.ensures.same tables rests, unasked-cause _ (StopsUnlink c.args.engine.now.held.models c.args.by.now c.args.model tables c.args.ids.now) c.in_err-missing.field-0.0 c.in_err-missing.ensures.causes))

pub returns-in_err-missing-clause-causes : goal.returns-in_err-missing-clause-causes
returns-in_err-missing-clause-causes g c =
    let p = err_from_is_err_and c.from_residual.result c.from_residual.ensures.1 in
    rw (p.1, p.2) (unasked-cause _ (MayStopUnlink c.args.engine.now.held.models c.args.model c.args.ids.now) c.in_err-missing.field-0.0 c.in_err-missing.ensures.causes)

pub returns-in_err-missing-clause-rests : goal.returns-in_err-missing-clause-rests
returns-in_err-missing-clause-rests g c = stays-at_rest _ _ _ _ c.missing_id.ensures.same c.requires.rest

pub returns-in-Some-clause-refused : goal.returns-in-Some-clause-refused
returns-in-Some-clause-refused g c = λ tables rests. (
  stays-rests _ _ _ _ c.missing_id.ensures.same tables rests,
  (refl, subst (λ (m : Option ℕ). MissesOnly c.args.model tables c.args.ids.now m) c.in-Some.is (c.in_ok-missing.ensures.told tables rests)),
)

pub returns-in-Some-clause-causes : goal.returns-in-Some-clause-causes
returns-in-Some-clause-causes g c = (refl, missing-asked c.args.ids.now c.in_ok-missing.missing c.in-Some.id c.in-Some.is c.in_ok-missing.ensures.asked)

pub returns-in-Some-clause-rests : goal.returns-in-Some-clause-rests
returns-in-Some-clause-rests g c = stays-at_rest _ _ _ _ c.missing_id.ensures.same c.requires.rest

pub delete_admitted-requires-clause-model : goal.delete_admitted-requires-clause-model
delete_admitted-requires-clause-model g c = subst (λ (ms : List ModelInfo). HasModel ms c.args.model) (sym c.missing_id.ensures.same.models) c.requires.model

pub delete_admitted-requires-clause-rest : goal.delete_admitted-requires-clause-rest
delete_admitted-requires-clause-rest g c = stays-itself _ _ _ _ c.missing_id.ensures.same c.requires.rest

pub delete_admitted-requires-clause-policy : goal.delete_admitted-requires-clause-policy
delete_admitted-requires-clause-policy g c = subst (λ (ms : List ModelInfo). IsPolicyOver ms c.args.by.now.policy.now) (sym c.missing_id.ensures.same.models) c.requires.policy

pub delete_admitted-requires-clause-known : goal.delete_admitted-requires-clause-known
delete_admitted-requires-clause-known g c = told-sooner _ _ _ _ c.missing_id.ensures.same (AreKnown (rows_named c.args.model c.args.ids.now)) (c.in_ok-missing.ensures.known c.in_default.is)

pub returns-clause-settled : goal.returns-clause-settled
returns-clause-settled g c =
    let models = c.args.engine.now.held.models in
    let new = c.delete_admitted.new.engine in
    let same = c.missing_id.ensures.same in
    on_ok_weaker c.delete_admitted.result (λ settled tables rests.
    let there = subst (λ (m : Option ℕ). MissesOnly c.args.model tables c.args.ids.now m) c.in_default.is (c.in_ok-missing.ensures.told tables rests) in
    let own = settled tables (stays-rests _ _ _ _ same tables rests) there in (
      there,
      subst (λ (ms : List ModelInfo). AdmitsBy c.args.by.now (told_by ms tables) op.Unlink (rows_named c.args.model c.args.ids.now)) same.models own.0,
      subst (λ (ms : List ModelInfo). SettlesDeletion (g.K.Keeper.kept new.keeper.now) new.held ms tables (rows_named c.args.model c.args.ids.now)) same.models own.1,
    )) c.delete_admitted.ensures.settled

pub returns-clause-refused : goal.returns-clause-refused
returns-clause-refused g c =
    let models = c.args.engine.now.held.models in
    let same = c.missing_id.ensures.same in
    err-map c.delete_admitted.result _ _ (λ w refused tables rests.
    let there = subst (λ (m : Option ℕ). MissesOnly c.args.model tables c.args.ids.now m) c.in_default.is (c.in_ok-missing.ensures.told tables rests) in
    let own = refused tables (stays-rests _ _ _ _ same tables rests) there in (
      own.0,
      refused_later _ _ _ c.missing_id.ensures.count _ (StopsUnlink models c.args.by.now c.args.model tables c.args.ids.now) w
          (λ x stops. stopped-unlink models c.args.by.now c.args.model tables c.args.ids.now there x (subst (λ (ms : List ModelInfo). HoldsBack ms c.args.by.now c.args.model tables c.args.ids.now x) same.models stops)) own.1,
    )) c.delete_admitted.ensures.refused

pub returns-clause-causes : goal.returns-clause-causes
returns-clause-causes g c =
    err-later c.delete_admitted.result _ _ _ c.missing_id.ensures.count _ (MayStopUnlink c.args.engine.now.held.models c.args.model c.args.ids.now)
    (λ w may. may-stop c.args.engine.now.held.models c.args.model c.args.ids.now w (subst (λ (ms : List ModelInfo). MayHoldBack ms c.args.model c.args.ids.now w) c.missing_id.ensures.same.models may)) c.delete_admitted.ensures.causes

pub returns-clause-rests : goal.returns-clause-rests
returns-clause-rests g c =
    let says = c.delete_admitted.ensures.rests in
    record { models_are = says.models_are ∙ c.missing_id.ensures.same.models; phase_is = says.phase_is; next_ids = says.next_ids }
