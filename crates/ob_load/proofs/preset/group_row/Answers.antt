use Rattle.ob_load.proofs.GroupRowSteps.{fits-behind}
use Rattle.ob_load.proofs.preset.group_row.Goals as goal

pub returns-clause-fit : goal.returns-clause-fit
returns-clause-fit c = λ before. fits-behind c.args.schema.now before _ (c.in_ok-values.ensures.fit before)
