-- The model comes first, then the name, then the values.
use Rattle.std.proofs.Common.{◌≡◌, sym, ap, ◌∙◌, Err}
use Rattle.std.proofs.lemmas.Result.{err_from_is_err_and}
use Rattle.toml.specs.View.{view}
use Rattle.ob_load.specs.declared.fault.LoadFault.TheVariants as load
use Rattle.ob_load.proofs.RowParts.{row-fits, row-made, row-misgiven, row-no-model, row-taken}
use Rattle.ob_load.proofs.Told.{err_is}
use Rattle.ob_load.proofs.values.RowScope.row_from.Goals as goal

pub returns-in_err-model-clause-fault : goal.returns-in_err-model-clause-fault
returns-in_err-model-clause-fault c = λ faulty same.
    let s = c.args.self.now in
    let p = err_from_is_err_and c.from_residual.result c.from_residual.ensures.1 in
    let told : c.in_err-model.field-0.0 ≡ load.Module faulty = sym p.2 ∙ err_is p.0 (load.Module faulty) (sym p.1 ∙ same) in
    row-no-model s.scope.schema.now s.scope.groups.now s.first s.refs.now s.scope.owner.now (view c.args.entry.value.now) c.args.taken.now c.args.entry.table.now c.args.entry.number faulty (c.in_err-model.ensures.fault faulty (ap Err told))

pub returns-in_err-test_ref-clause-fault : goal.returns-in_err-test_ref-clause-fault
returns-in_err-test_ref-clause-fault c = λ faulty same.
    let s = c.args.self.now in
    let p = err_from_is_err_and c.from_residual-in_err-test_ref.result c.from_residual-in_err-test_ref.ensures.1 in
    let told : c.in_err-test_ref.field-0.0 ≡ load.Module faulty = sym p.2 ∙ err_is p.0 (load.Module faulty) (sym p.1 ∙ same) in
    row-taken s.scope.schema.now s.scope.groups.now s.first s.refs.now s.scope.owner.now (view c.args.entry.value.now) c.args.taken.now c.in_ok-model.model c.in_ok-model.ensures.named c.args.entry.table.now c.args.entry.number faulty
    (c.in_err-test_ref.ensures.fault faulty (ap Err told))

pub returns-in_err-test_values-clause-fault : goal.returns-in_err-test_values-clause-fault
returns-in_err-test_values-clause-fault c = λ faulty same.
    let s = c.args.self.now in
    let p = err_from_is_err_and c.from_residual-in_err-test_values.result c.from_residual-in_err-test_values.ensures.1 in
    let told : c.in_err-test_values.field-0.0 ≡ load.Module faulty = sym p.2 ∙ err_is p.0 (load.Module faulty) (sym p.1 ∙ same) in
    row-misgiven s.scope.schema.now s.scope.groups.now s.first s.refs.now s.scope.owner.now (view c.args.entry.value.now) c.args.taken.now c.in_ok-model.model c.in_ok-model.ensures.named c.in_ok-test_ref.ensures.free
    c.args.entry.table.now c.args.entry.number faulty (c.in_err-test_values.ensures.fault faulty (ap Err told))

pub returns-clause-fits : goal.returns-clause-fits
returns-clause-fits c =
    let s = c.args.self.now in
    row-fits s.scope.schema.now s.scope.groups.now s.first s.refs.now s.scope.owner.now (view c.args.entry.value.now) c.args.taken.now c.in_ok-model.model c.in_ok-model.ensures.named c.in_ok-test_ref.ensures.free c.in_ok-test_values.ensures.fits

pub returns-clause-made : goal.returns-clause-made
returns-clause-made c =
    let s = c.args.self.now in
    c.in_ok-row.ensures.made ∙ row-made s.scope.schema.now s.scope.groups.now s.first s.refs.now s.scope.owner.now (view c.args.entry.value.now) c.args.entry.number c.in_ok-model.model c.in_ok-model.ensures.named
