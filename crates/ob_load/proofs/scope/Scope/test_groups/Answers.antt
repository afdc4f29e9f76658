use Rattle.std.proofs.Common.{sym, ◌∙◌}
use Rattle.toml.specs.View.{view}
use Rattle.ob_load.specs.AccessFaults.{groups_at}
use Rattle.ob_load.specs.declared.fault.LoadFault.TheVariants as load
use Rattle.ob_load.proofs.AccessForms.{entry-told}
use Rattle.ob_load.proofs.Told.{err_is}
use Rattle.ob_load.proofs.scope.Scope.test_groups.Goals as goal

pub returns-in-Some-clause-fault : goal.returns-in-Some-clause-fault
returns-in-Some-clause-fault c = λ faulty same.
    entry-told c.args.self.now.owner.now c.args.entry.table.now c.args.entry.number (groups_at c.args.key.now c.args.self.now.groups.now (view c.args.entry.value.now)) c.in-Some.wrong c.refused.result faulty
    (sym c.in_ok-wrong.ensures ∙ c.in-Some.is) c.refused.ensures.told (err_is c.refused.result (load.Module faulty) same)
