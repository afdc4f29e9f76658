use Rattle.ob_sound.proofs.Alone.{gone_listed}
use Rattle.ob_sound.proofs.lists.gone_rows_are_listed.Goals as goal

pub returns : goal.returns
returns c = gone_listed
