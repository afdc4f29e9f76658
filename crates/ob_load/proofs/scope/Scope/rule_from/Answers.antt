-- The model comes first, then the domain, the groups and the name.
use Rattle.std.proofs.Common.{◌≡◌, sym, ap, ◌∙◌, Err}
use Rattle.std.proofs.lemmas.Result.{err_from_is_err_and}
use Rattle.toml.specs.View.{view}
use Rattle.ob_domain.specs.Trees.{tree_of_domain}
use Rattle.ob_load.specs.declared.fault.LoadFault.TheVariants as load
use Rattle.ob_load.proofs.EntryParts.{rule-domain, rule-fits, rule-groups, rule-made, rule-model, rule-name}
use Rattle.ob_load.proofs.Told.{err_is}
use Rattle.ob_load.proofs.scope.Scope.rule_from.Goals as goal

pub returns-in_err-model-clause-fault : goal.returns-in_err-model-clause-fault
returns-in_err-model-clause-fault c = λ faulty same.
    let p = err_from_is_err_and c.from_residual.result c.from_residual.ensures.1 in
    let told : c.in_err-model.field-0.0 ≡ load.Module faulty = sym p.2 ∙ err_is p.0 (load.Module faulty) (sym p.1 ∙ same) in
    rule-model c.args.self.now.schema.now c.args.self.now.groups.now c.args.self.now.owner.now (view c.args.entry.value.now) c.args.taken.now c.args.entry.number c.args.entry.table.now faulty c.requires
    (c.in_err-model.ensures.fault faulty (ap Err told))

pub returns-in_err-domain-clause-fault : goal.returns-in_err-domain-clause-fault
returns-in_err-domain-clause-fault c = λ faulty same.
    let p = err_from_is_err_and c.from_residual-in_err-domain.result c.from_residual-in_err-domain.ensures.1 in
    let told : c.in_err-domain.field-0.0 ≡ load.Module faulty = sym p.2 ∙ err_is p.0 (load.Module faulty) (sym p.1 ∙ same) in
    rule-domain c.args.self.now.schema.now c.args.self.now.groups.now c.args.self.now.owner.now (view c.args.entry.value.now) c.args.taken.now c.args.entry.number c.in_ok-model.model c.in_ok-model.ensures.named faulty
    (c.in_err-domain.ensures.fault c.requires faulty (ap Err told))

pub returns-in_err-test_groups-clause-fault : goal.returns-in_err-test_groups-clause-fault
returns-in_err-test_groups-clause-fault c = λ faulty same.
    let p = err_from_is_err_and c.from_residual-in_err-test_groups.result c.from_residual-in_err-test_groups.ensures.1 in
    let told : c.in_err-test_groups.field-0.0 ≡ load.Module faulty = sym p.2 ∙ err_is p.0 (load.Module faulty) (sym p.1 ∙ same) in
    rule-groups c.args.self.now.schema.now c.args.self.now.groups.now c.args.self.now.owner.now (view c.args.entry.value.now) c.args.taken.now c.args.entry.number c.in_ok-model.model c.in_ok-model.ensures.named
    (tree_of_domain c.in_ok-domain.domain) c.in_ok-domain.ensures.told c.args.entry.table.now faulty c.requires (c.in_err-test_groups.ensures.fault faulty (ap Err told))

pub returns-in_err-name-clause-fault : goal.returns-in_err-name-clause-fault
returns-in_err-name-clause-fault c = λ faulty same.
    let p = err_from_is_err_and c.from_residual-in_err-name.result c.from_residual-in_err-name.ensures.1 in
    let told : c.in_err-name.field-0.0 ≡ load.Module faulty = sym p.2 ∙ err_is p.0 (load.Module faulty) (sym p.1 ∙ same) in
    rule-name c.args.self.now.schema.now c.args.self.now.groups.now c.args.self.now.owner.now (view c.args.entry.value.now) c.args.taken.now c.args.entry.number c.in_ok-model.model c.in_ok-model.ensures.named
    (tree_of_domain c.in_ok-domain.domain) c.in_ok-domain.ensures.told c.in_ok-test_groups.ensures.fits c.args.entry.table.now faulty c.requires (c.in_err-name.ensures.fault faulty (ap Err told))

pub returns-clause-fits : goal.returns-clause-fits
returns-clause-fits c =
    rule-fits c.args.self.now.schema.now c.args.self.now.groups.now c.args.self.now.owner.now (view c.args.entry.value.now) c.args.taken.now c.args.entry.number c.in_ok-model.model c.in_ok-model.ensures.named
    (tree_of_domain c.in_ok-domain.domain) c.in_ok-domain.ensures.told c.in_ok-test_groups.ensures.fits c.in_ok-name.ensures.free

pub returns-clause-made : goal.returns-clause-made
returns-clause-made c =
    rule-made c.args.self.now.schema.now c.args.self.now.groups.now c.args.self.now.owner.now (view c.args.entry.value.now) c.in_ok-name.name c.in_ok-model.model c.in_ok-groups_listed.field-0 c.in_ok-asked_ops.field-0
    (tree_of_domain c.in_ok-domain.domain) c.in_ok-name.ensures.named c.in_ok-model.ensures.named c.in_ok-groups_listed.ensures c.in_ok-asked_ops.ensures c.in_ok-domain.ensures.told
