use Rattle.ob_dates.proofs.Readings.{one_moment}
use Rattle.ob_dates.proofs.moment.one_moment_text.Goals as goal

pub returns : goal.returns
returns c = one_moment
