use Rattle.std.proofs.Common.{None}
use Rattle.ob_group.proofs.GatheredRows.{group_updates}
use Rattle.ob_group.proofs.gathered.taken_rows.Goals as goal

pub returns-in-Some-clause-groups : goal.returns-in-Some-clause-groups
returns-in-Some-clause-groups c = group_updates c.args.keys.now.items c.args.groups.now c.remove.new.self None c.remove.ensures.updates

pub returns-in-None-clause-groups : goal.returns-in-None-clause-groups
returns-in-None-clause-groups c = group_updates c.args.keys.now.items c.args.groups.now c.remove.new.self None c.remove.ensures.updates
