use Rattle.ob_install.proofs.ForbiddenRows.{target-there}
use Rattle.ob_install.proofs.installing.forbidding.own_info.Goals as goal

pub info-requires : goal.info-requires
info-requires c = target-there c.args.schema.now c.parts_fit_together.ensures c.args.model c.args.field c.info-info.result.now c.in-Delegated.at c.info-info.ensures c.in-Delegated.is
