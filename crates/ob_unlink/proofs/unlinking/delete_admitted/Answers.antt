-- The rules of the rows, and the deletion.
use Rattle.std.proofs.Common.{List, subst, sym, ◌∙◌}
use Rattle.std.proofs.lemmas.Result.{err_from_is_err_and, on_ok_weaker}
use Rattle.ob_base.specs.declared.refusal.Op.TheVariants as op
use Rattle.ob_cache.specs.Calls.{Refuses}
use Rattle.ob_cache.specs.Telling.{TellsFacts}
use Rattle.ob_io.specs.Cause.{Rose}
use Rattle.ob_rows.proofs.CallerLemmas.{err-later, err-map, refused_later, rests-tells, stays-at_rest, stays-itself, stays-rests}
use Rattle.ob_unlink.proofs.Stopped.{broken-may, denied-back, denied-may, stopped-back}
use Rattle.ob_rows.specs.AskingSteps.{AdmitsBy, AreKnown, DeniesBy}
use Rattle.ob_rows.specs.Settling.{BreaksField}
use Rattle.ob_unlink.specs.DeletionSteps.{HoldsBack, IsStoppedBy, MayHoldBack, SettlesDeletion}
use Rattle.ob_rows.specs.Rights.{DeniesOne, rows_named}
use Rattle.ob_unlink.proofs.unlinking.delete_admitted.Goals as goal
use Rattle.ob_cache.proofs.CallerLemmas.{Refuses-weaker}
use Rattle.ob_base.specs.declared.id.RowKey.{RowKey}
use Rattle.ob_schema.specs.Facts.{OfAllTold, told_by}
use Rattle.ob_schema.specs.Models.{HasModel}
use Rattle.ob_schema.specs.declared.info.ModelInfo.{ModelInfo}

pub test_rules-requires-clause-known : goal.test_rules-requires-clause-known
test_rules-requires-clause-known g c =
    let old = c.args.engine.now in
    subst (λ (rows : List RowKey). OfAllTold (TellsFacts (g.K.Keeper.kept old.keeper.now) old.held) (AreKnown rows)) (sym (c.as_slice.ensures.value ∙ c.in_ok-rows.ensures)) c.requires.known

pub returns-in_err-test_rules-clause-refused : goal.returns-in_err-test_rules-clause-refused
returns-in_err-test_rules-clause-refused g c =
    let p = err_from_is_err_and c.from_residual-in_err-test_rules.result c.from_residual-in_err-test_rules.ensures.1 in
    let old = c.args.engine.now in let faults = g.K.Keeper.faults in
    let models = old.held.models in let by = c.args.by.now in let model = c.args.model in let ids = c.args.ids.now in
    let why = c.in_err-test_rules.field-0.0 in
    let denies = subst (λ (rows : List RowKey). OfAllTold (TellsFacts (g.K.Keeper.kept old.keeper.now) old.held)
    (λ told. Refuses (Rose (faults old.keeper.now) (faults c.test_rules.new.engine.keeper.now)) (DeniesBy by told op.Unlink rows) why)) (c.as_slice.ensures.value ∙ c.in_ok-rows.ensures) c.in_err-test_rules.ensures.denies in
    rw (p.1, p.2) (λ tables rests there. (
      stays-rests _ _ _ _ c.test_rules.ensures.same tables rests,
      Refuses-weaker _ _ (DeniesBy by (told_by models tables) op.Unlink (rows_named model ids)) (HoldsBack models by model tables ids) why (λ risen. risen) (denied-back models by model tables ids)
          (denies (told_by models tables) (rests-tells (g.K.Keeper.kept old.keeper.now) old.held tables rests)),
    ))

pub returns-in_err-test_rules-clause-causes : goal.returns-in_err-test_rules-clause-causes
returns-in_err-test_rules-clause-causes g c =
    let p = err_from_is_err_and c.from_residual-in_err-test_rules.result c.from_residual-in_err-test_rules.ensures.1 in
    let models = c.args.engine.now.held.models in let model = c.args.model in let ids = c.args.ids.now in let faults = g.K.Keeper.faults in
    let why = c.in_err-test_rules.field-0.0 in
    let causes = subst (λ (rows : List RowKey). Refuses (Rose (faults c.args.engine.now.keeper.now) (faults c.test_rules.new.engine.keeper.now)) (DeniesOne op.Unlink rows) why)
    (c.as_slice.ensures.value ∙ c.in_ok-rows.ensures) c.in_err-test_rules.ensures.causes in
    rw (p.1, p.2) (Refuses-weaker _ _ (DeniesOne op.Unlink (rows_named model ids)) (MayHoldBack models model ids) why (λ risen. risen) (denied-may models model ids) causes)

pub returns-in_err-test_rules-clause-rests : goal.returns-in_err-test_rules-clause-rests
returns-in_err-test_rules-clause-rests g c = stays-at_rest _ _ _ _ c.test_rules.ensures.same c.requires.rest

pub delete_all-requires-clause-model : goal.delete_all-requires-clause-model
delete_all-requires-clause-model g c = subst (λ (ms : List ModelInfo). HasModel ms c.args.model) (sym c.test_rules.ensures.same.models) c.requires.model

pub delete_all-requires-clause-rest : goal.delete_all-requires-clause-rest
delete_all-requires-clause-rest g c = stays-itself _ _ _ _ c.test_rules.ensures.same c.requires.rest

pub returns-clause-settled : goal.returns-clause-settled
returns-clause-settled g c =
    let old = c.args.engine.now in let new = c.delete_all.new.engine in
    let same = c.test_rules.ensures.same in
    let admits = subst (λ (rows : List RowKey). OfAllTold (TellsFacts (g.K.Keeper.kept old.keeper.now) old.held) (λ told. AdmitsBy c.args.by.now told op.Unlink rows)) (c.as_slice.ensures.value ∙ c.in_ok-rows.ensures)
    c.in_ok-test_rules.ensures.admits in
    on_ok_weaker c.delete_all.result (λ settled tables rests there. (
      admits (told_by old.held.models tables) (rests-tells (g.K.Keeper.kept old.keeper.now) old.held tables rests),
      subst (λ (ms : List ModelInfo). SettlesDeletion (g.K.Keeper.kept new.keeper.now) new.held ms tables (rows_named c.args.model c.args.ids.now)) same.models (settled tables (stays-rests _ _ _ _ same tables rests) there),
    )) c.delete_all.ensures.settled

pub returns-clause-refused : goal.returns-clause-refused
returns-clause-refused g c =
    let old = c.args.engine.now in
    let models = old.held.models in let by = c.args.by.now in let model = c.args.model in let ids = c.args.ids.now in
    let same = c.test_rules.ensures.same in
    let admits = subst (λ (rows : List RowKey). OfAllTold (TellsFacts (g.K.Keeper.kept old.keeper.now) old.held) (λ told. AdmitsBy c.args.by.now told op.Unlink rows)) (c.as_slice.ensures.value ∙ c.in_ok-rows.ensures)
    c.in_ok-test_rules.ensures.admits in
    err-map c.delete_all.result _ _ (λ w refused tables rests there.
    let admitted = admits (told_by models tables) (rests-tells (g.K.Keeper.kept old.keeper.now) old.held tables rests) in
    let own = refused tables (stays-rests _ _ _ _ same tables rests) there in (
      own.0,
      refused_later _ _ _ c.test_rules.ensures.count _ (HoldsBack models by model tables ids) w
          (λ x stops. stopped-back models by model tables ids admitted x (subst (λ (ms : List ModelInfo). IsStoppedBy ms tables (rows_named model ids) x) same.models stops)) own.1,
    )) c.delete_all.ensures.refused

pub returns-clause-causes : goal.returns-clause-causes
returns-clause-causes g c =
    let models = c.args.engine.now.held.models in let model = c.args.model in let ids = c.args.ids.now in
    err-later c.delete_all.result _ _ _ c.test_rules.ensures.count _ (MayHoldBack models model ids)
    (λ w breaks. broken-may models model ids w (subst (λ (ms : List ModelInfo). BreaksField ms w) c.test_rules.ensures.same.models breaks)) c.delete_all.ensures.causes

pub returns-clause-rests : goal.returns-clause-rests
returns-clause-rests g c =
    let says = c.delete_all.ensures.rests in
    record { models_are = says.models_are ∙ c.test_rules.ensures.same.models; phase_is = says.phase_is; next_ids = says.next_ids }
