use Rattle.ob_dates.proofs.Readings.{one_day}
use Rattle.ob_dates.proofs.day.one_day_text.Goals as goal

pub returns : goal.returns
returns c = one_day
