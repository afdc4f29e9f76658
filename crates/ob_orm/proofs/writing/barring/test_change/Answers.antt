use Rattle.std.proofs.Common.{◌≡◌, ◌≤◌, ◌∙◌, ◌∷◌, ℕ, List, Option, Some, map, ap, arith, refl, subst, sym}
use Rattle.std.specs.Prelude.{All, Contains, IfSome}
use Rattle.std.proofs.lemmas.Result.{err_from_is_err_and, on_ok_weaker}
use Rattle.ob_base.specs.declared.id.RowKey.{RowKey}
use Rattle.ob_base.specs.declared.refusal.Op.TheVariants as op
use Rattle.ob_cache.proofs.CallerLemmas.{stays-then}
use Rattle.ob_cache.specs.Calls.{Refuses}
use Rattle.ob_call.specs.Ids.{IsLeastMissing}
use Rattle.ob_io.specs.Cause.{Rose}
use Rattle.ob_rows.proofs.CallerLemmas.{err-later, err-map, rose_from, stays-rests, told-sooner}
use Rattle.ob_orm.proofs.TouchedRows.{told-at}
use Rattle.ob_orm.proofs.WriteBarred.{missing-bars, nothing-bars, rule-cause, rules-bar, tests-bar, tests-cause}
use Rattle.ob_rows.specs.AskingSteps.{AdmitsBy, AreKnown, DeniesBy}
use Rattle.ob_orm.specs.NewRows.{Values}
use Rattle.ob_rows.specs.Rights.{DeniesOne, rows_named}
use Rattle.ob_orm.specs.Touched.{given_parents, touched_models}
use Rattle.ob_rows.specs.There.{AreThere, MissesOnly}
use Rattle.ob_orm.specs.Write.{MayBarWrite}
use Rattle.ob_orm.specs.Writable.{IsWritable}
use Rattle.ob_orm.specs.WriteSteps.{asked_change}
use Rattle.ob_orm.proofs.writing.barring.test_change.Goals as goal
use Rattle.ob_schema.specs.Tables.{Tables}
use Rattle.ob_schema.specs.declared.info.ModelInfo.{ModelInfo}
use Rattle.ob_schema.specs.declared.info.ParentInfo.{ParentInfo}

-- ---- rights and forms

pub test_writable-requires : goal.test_writable-requires
test_writable-requires g c =
    let models = c.args.engine.now.held.models in let model = c.args.model in
    let values = c.args.change.now.object.values in
    let are : c.as_slice-3.result.now ≡ given_parents models model values =
    c.as_slice-3.ensures.value ∙ c.in_ok-parents.ensures.parents ∙ ap (λ (vs : Values). given_parents c.args.maker.now.schema.now model vs) c.as_slice.ensures
    ∙ ap (λ (ms : List ModelInfo). given_parents ms model values) (sym c.requires.schema) in
    let of = subst (λ (rows : List RowKey). All (λ row. Contains (touched_models models model values) row.model) rows) (sym c.as_slice-4.ensures.value) c.in_ok-rows.ensures.models in
    record { models = subst (λ (ps : List ParentInfo). All (λ (row : RowKey). Contains (model ∷ map (λ parent. parent.model) ps) row.model) c.as_slice-4.result.now) (sym are) of }

pub returns-in_err-test_writable-clause-barred : goal.returns-in_err-test_writable-clause-barred
returns-in_err-test_writable-clause-barred g c =
    let p = err_from_is_err_and c.from_residual-in_err-test_writable.result c.from_residual-in_err-test_writable.ensures.1 in
    let by = c.args.by.now in
    rw (p.1, p.2) (λ (tables : Tables) rests. tests-bar c.args.engine.now.held.models by.policy.now by.groups.now by.user c.args.model (asked_change c.args.change.now) c.as_slice-4.result.now tables
    (c.as_slice-4.ensures.value ∙ c.in_ok-rows.ensures.told tables rests) _ c.in_err-test_writable.field-0.0 c.in_err-test_writable.ensures)

pub returns-in_err-test_writable-clause-causes : goal.returns-in_err-test_writable-clause-causes
returns-in_err-test_writable-clause-causes g c =
    let p = err_from_is_err_and c.from_residual-in_err-test_writable.result c.from_residual-in_err-test_writable.ensures.1 in
    let by = c.args.by.now in
    let models = c.args.engine.now.held.models in
    let of = subst (λ (rows : List RowKey). All (λ row. Contains (touched_models models c.args.model c.args.change.now.object.values) row.model) rows) (sym c.as_slice-4.ensures.value) c.in_ok-rows.ensures.models in
    rw (p.1, p.2) (tests-cause models by.policy.now by.groups.now by.user c.args.model (asked_change c.args.change.now) c.as_slice-4.result.now of _ c.in_err-test_writable.field-0.0 c.in_err-test_writable.ensures)

-- ---- ids that aren't there

pub returns-in_err-missing-clause-same : goal.returns-in_err-missing-clause-same
returns-in_err-missing-clause-same g c = stays-then _ _ _ _ _ _ c.touched_rows.ensures.same c.missing_id.ensures.same

pub returns-in-Some-clause-barred : goal.returns-in-Some-clause-barred
returns-in-Some-clause-barred g c = λ tables rests.
    let by = c.args.by.now in
    let ids = c.args.change.now.ids.items in
    let told = c.in_ok-missing.ensures.told tables (stays-rests _ _ _ _ c.touched_rows.ensures.same tables rests) in
    let least = subst (λ (xs : List ℕ). IsLeastMissing c.args.model tables xs c.in-Some.id) c.as_slice-5.ensures.value (subst (λ (m : Option ℕ). MissesOnly c.args.model tables c.as_slice-5.result.now m) c.in-Some.is told) in
    missing-bars c.args.engine.now.held.models by.policy.now by.groups.now by.user c.args.model (asked_change c.args.change.now) c.as_slice-4.result.now tables
    (c.as_slice-4.ensures.value ∙ c.in_ok-rows.ensures.told tables rests) c.in-Some.id c.in_ok-test_writable.ensures least

pub returns-in-Some-clause-causes : goal.returns-in-Some-clause-causes
returns-in-Some-clause-causes g c =
    let asked : IfSome (Some c.in-Some.id) (Contains c.args.change.now.ids.items) =
    subst (λ (xs : List ℕ). IfSome (Some c.in-Some.id) (Contains xs)) c.as_slice-5.ensures.value (subst (λ (m : Option ℕ). IfSome m (Contains c.as_slice-5.result.now)) c.in-Some.is c.in_ok-missing.ensures.asked) in
    (refl, asked)

pub returns-in-Some-clause-same : goal.returns-in-Some-clause-same
returns-in-Some-clause-same g c = stays-then _ _ _ _ _ _ c.touched_rows.ensures.same c.missing_id.ensures.same

-- ---- rules

pub test_rules-requires-clause-known : goal.test_rules-requires-clause-known
test_rules-requires-clause-known g c = λ told tells.
    let ids = c.args.change.now.ids.items in
    let same = stays-then _ _ _ _ _ _ c.touched_rows.ensures.same c.missing_id.ensures.same in
    let there = told-sooner _ _ _ _ c.missing_id.ensures.same (AreKnown (rows_named c.args.model c.as_slice-5.result.now)) (c.in_ok-missing.ensures.known c.in_default.is) told tells in
    let all = told-sooner _ _ _ _ same (λ seen. AreKnown (rows_named c.args.model ids) seen → AreKnown c.in_ok-rows.rows.items seen) c.in_ok-rows.ensures.known told tells in
    subst (λ (rows : List RowKey). AreKnown rows told) (sym c.as_slice-6.ensures.value) (all (subst (λ (xs : List ℕ). AreKnown (rows_named c.args.model xs) told) c.as_slice-5.ensures.value there))

pub returns-clause-passes : goal.returns-clause-passes
returns-clause-passes g c =
    let by = c.args.by.now in
    let change = asked_change c.args.change.now in
    let same = stays-then _ _ _ _ _ _ c.touched_rows.ensures.same c.missing_id.ensures.same in
    let rows = c.as_slice-6.result.now in
    let may = subst (λ (rs : List RowKey). IsWritable by.policy.now by.groups.now by.user c.args.model rs change.object) (c.as_slice-4.ensures.value ∙ sym c.as_slice-6.ensures.value) c.in_ok-test_writable.ensures in
    on_ok_weaker c.test_rules.result (λ admits tables rests.
    let told = c.in_ok-missing.ensures.told tables (stays-rests _ _ _ _ c.touched_rows.ensures.same tables rests) in
    let there = subst (λ (xs : List ℕ). AreThere c.args.model tables xs) c.as_slice-5.ensures.value (subst (λ (m : Option ℕ). MissesOnly c.args.model tables c.as_slice-5.result.now m) c.in_default.is told) in
    nothing-bars c.args.engine.now.held.models by.policy.now by.groups.now by.user c.args.model change rows tables (c.as_slice-6.ensures.value ∙ c.in_ok-rows.ensures.told tables rests) may there
    (told-at _ _ _ _ same (λ seen. AdmitsBy by seen op.Write rows) admits tables rests)) c.test_rules.ensures.admits

pub returns-clause-barred : goal.returns-clause-barred
returns-clause-barred g c =
    let by = c.args.by.now in
    let faults = g.K.Keeper.faults in
    let change = asked_change c.args.change.now in
    let same = stays-then _ _ _ _ _ _ c.touched_rows.ensures.same c.missing_id.ensures.same in
    let rows = c.as_slice-6.result.now in
    let may = subst (λ (rs : List RowKey). IsWritable by.policy.now by.groups.now by.user c.args.model rs change.object) (c.as_slice-4.ensures.value ∙ sym c.as_slice-6.ensures.value) c.in_ok-test_writable.ensures in
    let later = Rose (faults c.missing_id.new.engine.keeper.now) (faults c.test_rules.new.engine.keeper.now) in
    err-map c.test_rules.result _ _ (λ why denies tables rests.
    let told = c.in_ok-missing.ensures.told tables (stays-rests _ _ _ _ c.touched_rows.ensures.same tables rests) in
    let there = subst (λ (xs : List ℕ). AreThere c.args.model tables xs) c.as_slice-5.ensures.value (subst (λ (m : Option ℕ). MissesOnly c.args.model tables c.as_slice-5.result.now m) c.in_default.is told) in
    rules-bar c.args.engine.now.held.models by.policy.now by.groups.now by.user c.args.model change rows tables (c.as_slice-6.ensures.value ∙ c.in_ok-rows.ensures.told tables rests) may there
    later (Rose (faults c.args.engine.now.keeper.now) (faults c.test_rules.new.engine.keeper.now)) why
    (λ risen. rose_from (faults c.args.engine.now.keeper.now) (faults c.touched_rows.new.engine.keeper.now) (faults c.test_rules.new.engine.keeper.now) c.touched_rows.ensures.count
    (rose_from (faults c.touched_rows.new.engine.keeper.now) (faults c.missing_id.new.engine.keeper.now) (faults c.test_rules.new.engine.keeper.now) c.missing_id.ensures.count risen))
    (told-at _ _ _ _ same (λ seen. Refuses later (DeniesBy by seen op.Write rows) why) denies tables rests)) c.test_rules.ensures.denies

pub returns-clause-causes : goal.returns-clause-causes
returns-clause-causes g c =
    let by = c.args.by.now in
    let models = c.args.engine.now.held.models in
    let faults = g.K.Keeper.faults in
    let change = asked_change c.args.change.now in
    let of = subst (λ (rows : List RowKey). All (λ row. Contains (touched_models models c.args.model c.args.change.now.object.values) row.model) rows) (sym c.as_slice-6.ensures.value) c.in_ok-rows.ensures.models in
    let first : faults c.args.engine.now.keeper.now ≤ faults c.missing_id.new.engine.keeper.now = omega (arith, c.touched_rows.ensures.count, c.missing_id.ensures.count) in
    err-later c.test_rules.result (faults c.args.engine.now.keeper.now) (faults c.missing_id.new.engine.keeper.now) (faults c.test_rules.new.engine.keeper.now) first (DeniesOne op.Write c.as_slice-6.result.now)
    (MayBarWrite models by.policy.now by.user c.args.model change) (rule-cause models by.policy.now by.groups.now by.user c.args.model change c.as_slice-6.result.now of) c.test_rules.ensures.causes

pub returns-clause-same : goal.returns-clause-same
returns-clause-same g c = stays-then _ _ _ _ _ _ (stays-then _ _ _ _ _ _ c.touched_rows.ensures.same c.missing_id.ensures.same) c.test_rules.ensures.same
