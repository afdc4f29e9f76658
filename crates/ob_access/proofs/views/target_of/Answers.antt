-- The registry has the model to which a relation leads.
use Rattle.ob_access.proofs.Leading.{leads_there}
use Rattle.ob_access.proofs.views.target_of.Goals as goal

pub returns-clause-there : goal.returns-clause-there
returns-clause-there c =
    leads_there c.args.schema.now c.args.cell.model c.model_info-model.result.now c.args.cell.field c.info.result.now c.model_info-model.ensures.at c.model_info-model.ensures.fit c.info.ensures
