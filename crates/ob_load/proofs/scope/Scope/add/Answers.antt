-- Table by table, each behind those that fit.
use Rattle.std.proofs.Common.{◌≡◌, ◌++◌, [], None, length, map, sym, ap, ◌∙◌, Err}
use Rattle.std.specs.Prelude.{codes}
use Rattle.std.proofs.lemmas.Result.{IfOk-weaker, err_from_is_err_and}
use Rattle.toml.specs.View.{table_view}
use Rattle.ob_load.specs.Access.{entries_of, group_from, line_from, name_of, rule_from}
use Rattle.ob_load.specs.AccessFaults.{document_fault, first_fault, rule_fault}
use Rattle.ob_load.specs.Rooms.{GrowsBy}
use Rattle.ob_load.specs.declared.fault.LoadFault.TheVariants as load
use Rattle.ob_load.proofs.DocumentSteps.{document-grows, document-rest, fields-faulty, groups-faulty, lines-faulty}
use Rattle.ob_load.proofs.Told.{err_is}
use Rattle.ob_load.proofs.scope.Scope.add.Goals as goal

pub returns-in_err-test_fields-clause-fault : goal.returns-in_err-test_fields-clause-fault
returns-in_err-test_fields-clause-fault c = λ faulty same.
    let p = err_from_is_err_and c.from_residual.result c.from_residual.ensures.1 in
    let told : c.in_err-test_fields.field-0.0 ≡ load.Module faulty = sym p.2 ∙ err_is p.0 (load.Module faulty) (sym p.1 ∙ same) in
    fields-faulty c.args.self.now.schema.now c.args.self.now.groups.now c.args.self.now.owner.now (table_view c.args.document.now) c.args.declared.now faulty (c.in_err-test_fields.ensures.fault faulty (ap Err told))

pub returns-in_err-add_groups-clause-fault : goal.returns-in_err-add_groups-clause-fault
returns-in_err-add_groups-clause-fault c = λ faulty same.
    let p = err_from_is_err_and c.from_residual-in_err-add_groups.result c.from_residual-in_err-add_groups.ensures.1 in
    let told : c.in_err-add_groups.field-0.0 ≡ load.Module faulty = sym p.2 ∙ err_is p.0 (load.Module faulty) (sym p.1 ∙ same) in
    groups-faulty c.args.self.now.schema.now c.args.self.now.groups.now c.args.self.now.owner.now (table_view c.args.document.now) c.args.declared.now c.in_ok-test_fields.ensures.fits faulty
    (c.in_err-add_groups.ensures.fault faulty (ap Err told))

pub returns-in_err-add_lines-clause-fault : goal.returns-in_err-add_lines-clause-fault
returns-in_err-add_lines-clause-fault c = λ faulty same.
    let p = err_from_is_err_and c.from_residual-in_err-add_lines.result c.from_residual-in_err-add_lines.ensures.1 in
    let told : c.in_err-add_lines.field-0.0 ≡ load.Module faulty = sym p.2 ∙ err_is p.0 (load.Module faulty) (sym p.1 ∙ same) in
    lines-faulty c.args.self.now.schema.now c.args.self.now.groups.now c.args.self.now.owner.now (table_view c.args.document.now) c.args.declared.now c.in_ok-test_fields.ensures.fits c.in_ok-add_groups.ensures.fits faulty
    (c.in_err-add_lines.ensures.fault faulty (ap Err told))

pub returns-clause-fits : goal.returns-clause-fits
returns-clause-fits c =
    let models = c.args.self.now.schema.now in
    let groups = c.args.self.now.groups.now in
    let owner = c.args.self.now.owner.now in
    let document = table_view c.args.document.now in
    let old = c.args.declared.now in
    let second = c.add_lines.new.declared in
    let rest = document-rest models groups owner document old c.in_ok-test_fields.ensures.fits c.in_ok-add_groups.ensures.fits c.add_groups.new.declared second c.in_ok-add_groups.ensures.grows c.in_ok-add_lines.ensures.fits
    c.in_ok-add_lines.ensures.grows in
    IfOk-weaker c.add_rules.result (λ _. first_fault (rule_fault models groups owner second.names) [] (entries_of (codes "rule") document) ≡ None) (λ _. document_fault models groups owner old.names document ≡ None)
    (λ _ none. rest ∙ none) c.add_rules.ensures.fits

pub returns-clause-grows : goal.returns-clause-grows
returns-clause-grows c =
    let models = c.args.self.now.schema.now in
    let groups = c.args.self.now.groups.now in
    let owner = c.args.self.now.owner.now in
    let document = table_view c.args.document.now in
    let old = c.args.declared.now in
    let second = c.add_lines.new.declared in
    let new = c.add_rules.new.declared in
    let names = map (name_of owner) (entries_of (codes "rule") document) in
    let rules = map (rule_from models groups owner) (entries_of (codes "rule") document) in
    IfOk-weaker c.add_rules.result (λ _. GrowsBy models (length groups) second new names [] [] rules)
    (λ _. GrowsBy models (length groups) old new (map (name_of owner) (entries_of (codes "group") document) ++ names) (map (group_from groups owner) (entries_of (codes "group") document))
    (map (line_from models groups) (entries_of (codes "access") document)) rules)
    (λ _ grows. document-grows models groups owner document old c.in_ok-test_fields.ensures.fits c.in_ok-add_groups.ensures.fits c.add_groups.new.declared second c.in_ok-add_groups.ensures.grows
    c.in_ok-add_lines.ensures.fits c.in_ok-add_lines.ensures.grows new grows) c.add_rules.ensures.grows

pub returns-clause-fault : goal.returns-clause-fault
returns-clause-fault c = λ faulty same.
    document-rest c.args.self.now.schema.now c.args.self.now.groups.now c.args.self.now.owner.now (table_view c.args.document.now) c.args.declared.now c.in_ok-test_fields.ensures.fits c.in_ok-add_groups.ensures.fits
    c.add_groups.new.declared c.add_lines.new.declared c.in_ok-add_groups.ensures.grows c.in_ok-add_lines.ensures.fits c.in_ok-add_lines.ensures.grows ∙ c.add_rules.ensures.fault faulty same
