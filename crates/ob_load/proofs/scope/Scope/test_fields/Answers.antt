-- Where the models of the document break the form first.
use Rattle.std.proofs.Common.{◌≡◌, Some, sym, ap, ◌∙◌}
use Rattle.toml.specs.View.{table_view}
use Rattle.ob_load.specs.AccessFaults.{form_fault, models_fit}
use Rattle.ob_load.specs.declared.fault.LoadFault.TheVariants as load
use Rattle.ob_load.specs.declared.fault.ModuleFault.{ModuleFault}
use Rattle.ob_load.specs.declared.fault.ModuleFault.TheVariants as fault
use Rattle.ob_load.proofs.Told.{err_is, refused-is, refused-of-text}
use Rattle.ob_load.proofs.scope.Scope.test_fields.Goals as goal

pub returns-in_ok-place-in-Some-clause-fault : goal.returns-in_ok-place-in-Some-clause-fault
returns-in_ok-place-in-Some-clause-fault c = λ faulty same.
    let owner = c.args.self.now.owner.now in
    let place = c.in_ok-place-in-Some.place in
    let wrong : models_fit c.args.self.now.groups.now (table_view c.args.document.now) ≡ Some place = sym c.in_ok-wrong.ensures ∙ c.in-Some.is ∙ ap Some (sym c.in_ok-place-in-Some.ensures) in
    let own = refused-is (record { name = owner; place = place; fault = fault.Form }) faulty c.refused_at.result c.refused_at.ensures.fault (err_is c.refused_at.result (load.Module faulty) same) in
    ap (form_fault owner) wrong ∙ ap Some (sym own)

pub returns-in_ok-place-in-Some-clause-read : goal.returns-in_ok-place-in-Some-clause-read
returns-in_ok-place-in-Some-clause-read c =
    refused-of-text (record { name = c.args.self.now.owner.now; place = c.in_ok-place-in-Some.place; fault = fault.Form }) c.refused_at.result c.refused_at.ensures.fault c.refused_at.ensures.not_files
    (λ same. let e : ◌≡◌ {A = ModuleFault} fault.Form fault.Absent = same in cc)
