-- No group is named, or one that there is, or one that there isn't.
use Rattle.std.proofs.Common.{[], ◌∷◌, sym, ap, ◌∙◌}
use Rattle.std.specs.Prelude.{codes, is_some, option_and_then}
use Rattle.toml.specs.View.{view}
use Rattle.ob_base.specs.declared.place.PathStep.TheVariants.{Key}
use Rattle.ob_load.specs.Access.{group_id}
use Rattle.ob_load.specs.AccessFaults.{group_is_there}
use Rattle.ob_load.specs.declared.fault.LoadFault.TheVariants as load
use Rattle.ob_load.proofs.AccessForms.{entry-told}
use Rattle.ob_load.proofs.EntryParts.{group-missing, group-none, group-some}
use Rattle.ob_load.proofs.Told.{err_is}
use Rattle.ob_load.proofs.scope.Scope.group_of.Goals as goal

pub returns-in_default-clause-fits : goal.returns-in_default-clause-fits
returns-in_default-clause-fits c = group-none c.args.self.now.groups.now (view c.args.entry.value.now) (sym c.in_default.ensures)

pub returns-in_default-clause-found : goal.returns-in_default-clause-found
returns-in_default-clause-found c = ap (option_and_then (group_id c.args.self.now.groups.now)) c.in_default.ensures

pub returns-in-Some-group_id-clause-fits : goal.returns-in-Some-group_id-clause-fits
returns-in-Some-group_id-clause-fits c = group-some c.args.self.now.groups.now (view c.args.entry.value.now) c.in-Some.name.now (sym c.in-Some.ensures) (ap is_some (sym c.in-Some-group_id.ensures))

pub returns-in-Some-group_id-clause-found : goal.returns-in-Some-group_id-clause-found
returns-in-Some-group_id-clause-found c = c.in-Some-group_id.ensures ∙ ap (option_and_then (group_id c.args.self.now.groups.now)) c.in-Some.ensures

pub returns-in-None-clause-fault : goal.returns-in-None-clause-fault
returns-in-None-clause-fault c = λ faulty same.
    let groups = c.args.self.now.groups.now in
    let d = view c.args.entry.value.now in
    entry-told c.args.self.now.owner.now c.args.entry.table.now c.args.entry.number (group_is_there groups d) (Key (codes "group") ∷ []) c.refused_key.result faulty
    (group-missing groups d c.in-Some.name.now (sym c.in-Some.ensures) (ap is_some (sym c.in-None.ensures))) c.refused_key.ensures.told (err_is c.refused_key.result (load.Module faulty) same)
