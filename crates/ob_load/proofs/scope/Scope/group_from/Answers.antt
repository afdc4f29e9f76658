-- The groups that it implies come before its name.
use Rattle.std.proofs.Common.{◌≡◌, [], sym, ap, ◌∙◌, Err}
use Rattle.std.specs.Prelude.{codes}
use Rattle.std.specs.Option.{option_map_or}
use Rattle.std.proofs.lemmas.Result.{err_from_is_err_and}
use Rattle.toml.specs.View.{view}
use Rattle.ob_load.specs.Access.{group_ids}
use Rattle.ob_load.specs.AccessFaults.{groups_at, name_fits}
use Rattle.ob_module.specs.Meaning.{texts_at}
use Rattle.ob_load.specs.declared.fault.LoadFault.TheVariants as load
use Rattle.ob_load.proofs.AccessForms.{entry-first, entry-second}
use Rattle.ob_load.proofs.EntryParts.{group-fits, group-made, listed-none, listed-some}
use Rattle.ob_load.proofs.Told.{err_is}
use Rattle.ob_load.proofs.scope.Scope.group_from.Goals as goal
use Rattle.ob_load.proofs.scope.Scope.group_from.Goals.{in-Some, in-None}

pub returns-in_err-test_groups-clause-fault : goal.returns-in_err-test_groups-clause-fault
returns-in_err-test_groups-clause-fault c = λ faulty same.
    let owner = c.args.self.now.owner.now in
    let d = view c.args.entry.value.now in
    let p = err_from_is_err_and c.from_residual.result c.from_residual.ensures.1 in
    let told : c.in_err-test_groups.field-0.0 ≡ load.Module faulty = sym p.2 ∙ err_is p.0 (load.Module faulty) (sym p.1 ∙ same) in
    entry-first owner c.args.entry.table.now c.args.entry.number (groups_at (codes "implies") c.args.self.now.groups.now d) (name_fits c.args.taken.now owner d) faulty (c.in_err-test_groups.ensures.fault faulty (ap Err told))

pub returns-in_err-name-clause-fault : goal.returns-in_err-name-clause-fault
returns-in_err-name-clause-fault c = λ faulty same.
    let owner = c.args.self.now.owner.now in
    let d = view c.args.entry.value.now in
    let p = err_from_is_err_and c.from_residual-in_err-name.result c.from_residual-in_err-name.ensures.1 in
    let told : c.in_err-name.field-0.0 ≡ load.Module faulty = sym p.2 ∙ err_is p.0 (load.Module faulty) (sym p.1 ∙ same) in
    entry-second owner c.args.entry.table.now c.args.entry.number (groups_at (codes "implies") c.args.self.now.groups.now d) (name_fits c.args.taken.now owner d) faulty c.in_ok-test_groups.ensures.fits
    (c.in_err-name.ensures.fault faulty (ap Err told))

pub returns-clause-fits : goal.returns-clause-fits
returns-clause-fits c = group-fits c.args.self.now.groups.now c.args.taken.now c.args.self.now.owner.now (view c.args.entry.value.now) c.in_ok-test_groups.ensures.fits c.in_ok-name.ensures.fits

pub returns-clause-made : goal.returns-clause-made
returns-clause-made c =
    let groups = c.args.self.now.groups.now in
    let d = view c.args.entry.value.now in
    let list = texts_at (codes "implies") d in
    let implies : c.match-branch-4.implies ≡ option_map_or (group_ids groups) list [] = elim c.match-branch-4.branch [
      | in-Some w ↦ w.implies-is ∙ listed-some groups list w.in-Some.implies (sym w.in-Some.is ∙ c.in_ok-implies.ensures)
      | in-None w ↦ w.implies-is ∙ w.new-implies.ensures ∙ listed-none groups list (sym w.in-None.is ∙ c.in_ok-implies.ensures)
    ] in
    group-made groups c.args.self.now.owner.now d c.in_ok-name.name c.match-branch-4.implies c.in_ok-name.ensures.named implies
