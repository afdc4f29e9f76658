-- The access first, then the rows.
use Rattle.std.proofs.Common.{◌≡◌, ◌++◌, None, Err, length, map, sym, ap, refl, ◌∙◌}
use Rattle.std.specs.Prelude.{codes}
use Rattle.std.proofs.lemmas.Result.{IfOk-weaker, err_from_is_err_and}
use Rattle.toml.specs.View.{table_view}
use Rattle.ob_load.specs.Access.{entries_of, group_from, line_from, name_of, ref_name, rule_from}
use Rattle.ob_load.specs.RowFaults.{rows_fault, whole_fault}
use Rattle.ob_load.specs.Rooms.{GrowsBy}
use Rattle.ob_load.specs.declared.access.Declared.{Declared}
use Rattle.ob_load.specs.declared.fault.LoadFault.TheVariants as load
use Rattle.ob_load.proofs.ModuleSteps.{access-faulty, module-grows, whole-rest}
use Rattle.ob_load.proofs.Told.{err_is}
use Rattle.ob_load.proofs.scope.Scope.add_module.Goals as goal

pub returns-in_err-add-clause-fault : goal.returns-in_err-add-clause-fault
returns-in_err-add-clause-fault c = λ faulty same.
    let p = err_from_is_err_and c.from_residual.result c.from_residual.ensures.1 in
    let told : c.in_err-add.field-0.0 ≡ load.Module faulty = sym p.2 ∙ err_is p.0 (load.Module faulty) (sym p.1 ∙ same) in
    access-faulty c.args.self.now.schema.now c.args.self.now.groups.now c.args.brought.now.first c.args.self.now.owner.now c.args.brought.now.refs (table_view c.args.document.now) c.args.declared.now faulty
    (c.in_err-add.ensures.fault faulty (ap Err told))

pub returns-clause-fits : goal.returns-clause-fits
returns-clause-fits c =
    let s = c.args.self.now in
    let b = c.args.brought.now in
    let document = table_view c.args.document.now in
    let rest = whole-rest s.schema.now s.groups.now b.first s.owner.now b.refs document c.args.declared.now c.add.new.declared.names c.in_ok-add.ensures.fits c.in_ok-add.ensures.grows.names_grow in
    IfOk-weaker c.add_rows.result (λ _. rows_fault s.schema.now s.groups.now b.first s.owner.now b.refs c.add.new.declared.names document ≡ None)
    (λ _. whole_fault s.schema.now s.groups.now b.first s.owner.now b.refs c.args.declared.now.names document ≡ None) (λ _ none. rest ∙ none) c.add_rows.ensures.fits

pub returns-clause-grows : goal.returns-clause-grows
returns-clause-grows c =
    let s = c.args.self.now in
    let b = c.args.brought.now in
    let document = table_view c.args.document.now in
    let old = c.args.declared.now in
    let middle = c.add.new.declared in
    let new : Declared = record { names = c.add_rows.new.names; groups = middle.groups; lines = middle.lines; rules = middle.rules } in
    let groups = map (group_from s.groups.now s.owner.now) (entries_of (codes "group") document) in
    let lines = map (line_from s.schema.now s.groups.now) (entries_of (codes "access") document) in
    let rules = map (rule_from s.schema.now s.groups.now s.owner.now) (entries_of (codes "rule") document) in
    let names = map (name_of s.owner.now) (entries_of (codes "group") document) ++ map (name_of s.owner.now) (entries_of (codes "rule") document) ++ map (ref_name s.owner.now) (entries_of (codes "row") document) in
    IfOk-weaker c.add_rows.result (λ _. c.add_rows.new.names ≡ middle.names ++ map (ref_name s.owner.now) (entries_of (codes "row") document))
    (λ _. GrowsBy s.schema.now (length s.groups.now) old new names groups lines rules)
    (λ _ named. module-grows s.schema.now s.groups.now b.first s.owner.now b.refs document old middle new groups lines rules c.in_ok-add.ensures.grows named refl refl refl) c.add_rows.ensures.named

pub returns-clause-fault : goal.returns-clause-fault
returns-clause-fault c = λ faulty same.
    let s = c.args.self.now in
    let b = c.args.brought.now in
    whole-rest s.schema.now s.groups.now b.first s.owner.now b.refs (table_view c.args.document.now) c.args.declared.now c.add.new.declared.names c.in_ok-add.ensures.fits c.in_ok-add.ensures.grows.names_grow
    ∙ c.add_rows.ensures.fault faulty same
