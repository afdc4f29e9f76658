use Rattle.std.proofs.Common.{sym, ◌∙◌}
use Rattle.ob_load.proofs.GroupRowSteps.{groups-none}
use Rattle.ob_load.proofs.preset.group_rows.Goals as goal

pub returns-in-None-clause-made : goal.returns-in-None-clause-made
returns-in-None-clause-made c = λ all own. c.new.ensures ∙ groups-none c.args.schema.now (sym c.in-None.ensures.named) all
