use Rattle.ob_install.proofs.ForbiddenRows.{makes-cell, managed-cell, managed-made}
use Rattle.ob_install.proofs.installing.forbidding.managed_by.Goals as goal

pub returns-in-Make : goal.returns-in-Make
returns-in-Make c =
    let models = c.args.schema.now in
    let placed = c.args.placed.now in
    let cell = c.id_cell.result in
    managed-made models placed c.requires.whole c.args.edit.now cell c.managed.result (makes-cell cell c.args.edit.now c.in-Make.model c.in-Make.id c.in-Make.values c.in-Make.is c.id_cell.ensures.row)
    (managed-cell models placed c.requires.whole c.in-Make.model c.in-Make.id c.model_info.result.now cell c.model_info.ensures.at c.if-model_info.true c.id_cell.ensures.row c.id_cell.ensures.field)
    c.managed.ensures.is c.managed.ensures.owned c.managed.ensures.none
