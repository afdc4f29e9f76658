use Rattle.std.proofs.Common.{List, refl, subst, sym}
use Rattle.std.specs.Prelude.{IsOk}
use Rattle.std.proofs.lemmas.Result.{err_from_is_err_and}
use Rattle.ob_cache.specs.Behind.{TicksEach}
use Rattle.ob_base.specs.declared.id.RowKey.{RowKey}
use Rattle.ob_cache.proofs.OnceEach.{touches-among}
use Rattle.ob_cache.proofs.Standings.{unsound-field}
use Rattle.ob_cache.proofs.Ticking.{none-evaluated, not-done, settled-as}
use Rattle.ob_schema.specs.Tables.{Standing}
use Rattle.ob_schema.specs.declared.info.ModelInfo.{ModelInfo}
use Rattle.ob_sound.specs.Touched.{TouchesOnly}
use Rattle.ob_cache.proofs.behind.settled_behind.Goals as goal

pub invariant_of-change-clause-touches : goal.invariant_of-change-clause-touches
invariant_of-change-clause-touches g c =
    let behind = c.args.tables.tables in
    ∣ subst (λ (s : Standing). TouchesOnly c.as_slice.result.now (record { before = s.tables; behind = behind })) (sym c.tables-was.ensures)
    (subst (λ (l : List RowKey). TouchesOnly l (record { before = c.args.before.now.tables; behind = behind })) (sym c.as_slice.ensures.value)
    (touches-among c.args.touched.now c.in_ok-rows.rows.items (record { before = c.args.before.now.tables; behind = behind }) c.requires.touches c.in_ok-rows.ensures)) ∣₁

pub renewed-requires-clause-touches : goal.renewed-requires-clause-touches
renewed-requires-clause-touches g c =
    let behind = c.args.tables.tables in
    subst (λ (s : Standing). TouchesOnly c.as_slice.result.now (record { before = s.tables; behind = behind })) (sym c.tables-was.ensures)
    (subst (λ (l : List RowKey). TouchesOnly l (record { before = c.args.before.now.tables; behind = behind })) (sym c.as_slice.ensures.value)
    (touches-among c.args.touched.now c.in_ok-rows.rows.items (record { before = c.args.before.now.tables; behind = behind }) c.requires.touches c.in_ok-rows.ensures))

pub returns-in_err-rows-clause-evaluated : goal.returns-in_err-rows-clause-evaluated
returns-in_err-rows-clause-evaluated g c =
    none-evaluated g.L.Ledger.noted c.args.before.now.models (record { before = c.args.before.now.tables; behind = c.args.tables.tables }) _ c.args.steps.now
    (λ is. absurd (not-done _ c.from_residual.result c.from_residual.ensures.1 is))

pub returns-in_err-values-clause-field : goal.returns-in_err-values-clause-field
returns-in_err-values-clause-field g c =
    let p = err_from_is_err_and c.from_residual-in_err-values.result c.from_residual-in_err-values.ensures.1 in
    rw (p.1, p.2) (unsound-field c.args.tables c.args.before.now.models c.requires.over c.fit_together.ensures.registry c.in_err-values.field-0.0 c.in_err-values.ensures.fault)

pub returns-in_err-values-clause-evaluated : goal.returns-in_err-values-clause-evaluated
returns-in_err-values-clause-evaluated g c =
    let noted = g.L.Ledger.noted in
    let behind = c.args.tables.tables in
    let old = c.args.steps.now in
    let new = c.renewed.new.steps in
    let is = IsOk c.renewed.result in
    let of_models = subst (λ (m : List ModelInfo). TicksEach noted m (record { before = c.tables-was.result.now.tables; behind = behind }) is old new) c.schema-schema.ensures c.renewed.ensures.evaluated in
    let of_before = subst (λ (s : Standing). TicksEach noted c.args.before.now.models (record { before = s.tables; behind = behind }) is old new) c.tables-was.ensures of_models in
    settled-as noted c.args.before.now.models (record { before = c.args.before.now.tables; behind = behind }) is _ (λ done. absurd (not-done _ c.from_residual-in_err-values.result c.from_residual-in_err-values.ensures.1 done)) old new of_before

pub returns-clause-evaluated : goal.returns-clause-evaluated
returns-clause-evaluated g c =
    let noted = g.L.Ledger.noted in
    let behind = c.args.tables.tables in
    let old = c.args.steps.now in
    let new = c.renewed.new.steps in
    let is = IsOk c.renewed.result in
    let of_models = subst (λ (m : List ModelInfo). TicksEach noted m (record { before = c.tables-was.result.now.tables; behind = behind }) is old new) c.schema-schema.ensures c.renewed.ensures.evaluated in
    let of_before = subst (λ (s : Standing). TicksEach noted c.args.before.now.models (record { before = s.tables; behind = behind }) is old new) c.tables-was.ensures of_models in
    settled-as noted c.args.before.now.models (record { before = c.args.before.now.tables; behind = behind }) is _ (λ done. subst IsOk (sym c.in_ok-values.was) refl) old new of_before
