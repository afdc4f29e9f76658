-- The model comes before the group.
use Rattle.std.proofs.Common.{◌≡◌, sym, ap, ◌∙◌, Err}
use Rattle.std.proofs.lemmas.Result.{err_from_is_err_and}
use Rattle.toml.specs.View.{view}
use Rattle.ob_load.specs.AccessFaults.{group_is_there, model_is_there}
use Rattle.ob_load.specs.declared.fault.LoadFault.TheVariants as load
use Rattle.ob_load.proofs.AccessForms.{entry-first, entry-second}
use Rattle.ob_load.proofs.EntryParts.{line-fits, line-made, model-there}
use Rattle.ob_load.proofs.Told.{err_is}
use Rattle.ob_load.proofs.scope.Scope.line_from.Goals as goal

pub returns-in_err-model-clause-fault : goal.returns-in_err-model-clause-fault
returns-in_err-model-clause-fault c = λ faulty same.
    let d = view c.args.entry.value.now in
    let p = err_from_is_err_and c.from_residual.result c.from_residual.ensures.1 in
    let told : c.in_err-model.field-0.0 ≡ load.Module faulty = sym p.2 ∙ err_is p.0 (load.Module faulty) (sym p.1 ∙ same) in
    entry-first c.args.self.now.owner.now c.args.entry.table.now c.args.entry.number (model_is_there c.args.self.now.schema.now d) (group_is_there c.args.self.now.groups.now d) faulty (c.in_err-model.ensures.fault faulty (ap Err told))

pub returns-in_err-group-clause-fault : goal.returns-in_err-group-clause-fault
returns-in_err-group-clause-fault c = λ faulty same.
    let models = c.args.self.now.schema.now in
    let d = view c.args.entry.value.now in
    let p = err_from_is_err_and c.from_residual-in_err-group.result c.from_residual-in_err-group.ensures.1 in
    let told : c.in_err-group.field-0.0 ≡ load.Module faulty = sym p.2 ∙ err_is p.0 (load.Module faulty) (sym p.1 ∙ same) in
    entry-second c.args.self.now.owner.now c.args.entry.table.now c.args.entry.number (model_is_there models d) (group_is_there c.args.self.now.groups.now d) faulty (model-there models d c.in_ok-model.model c.in_ok-model.ensures.named)
    (c.in_err-group.ensures.fault faulty (ap Err told))

pub returns-clause-fits : goal.returns-clause-fits
returns-clause-fits c = line-fits c.args.self.now.schema.now c.args.self.now.groups.now (view c.args.entry.value.now) c.in_ok-model.model c.in_ok-model.ensures.named c.in_ok-group.ensures.fits

pub returns-clause-made : goal.returns-clause-made
returns-clause-made c =
    line-made c.args.self.now.schema.now c.args.self.now.groups.now (view c.args.entry.value.now) c.in_ok-model.model c.in_ok-group.group c.granted_ops-ops.result c.in_ok-model.ensures.named
    c.in_ok-group.ensures.found c.granted_ops-ops.ensures
