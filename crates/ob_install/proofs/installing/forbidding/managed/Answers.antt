use Rattle.std.proofs.Common.{ap, sym, true, ◌∙◌}
use Rattle.ob_install.proofs.ForbiddenRows.{owner-group}
use Rattle.ob_install.proofs.installing.forbidding.managed.Goals as goal
use Rattle.ob_install.specs.Install.{is_of_group}

pub returns-in_default-clause-none : goal.returns-in_default-clause-none
returns-in_default-clause-none c = λ _.
    let row = c.index-placed-number.result in
    let is = c.index-placed-number.is in
    let group = ap is_of_group is ∙ sym c.is_of_group.ensures ∙ c.if-not-is_of_group.false in
    owner-group c.args.placed.now c.requires.counted c.requires.all c.args.cell c.in-Some.number row true c.in-Some.ensures.found is group
