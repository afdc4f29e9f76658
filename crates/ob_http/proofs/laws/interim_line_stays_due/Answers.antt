-- By the head that longer bytes keep, and by the one item that they have.
use Rattle.std.proofs.Common.{◌++◌, ap, ◌∙◌}
use Rattle.ob_http.specs.Item.{is_interim_due}
use Rattle.ob_http.proofs.OneItem.{one_item, interim_line_stays_due}
use Rattle.ob_http.proofs.laws.interim_line_stays_due.Goals as goal

pub returns-clause-due : goal.returns-clause-due
returns-clause-due c = interim_line_stays_due

pub returns-clause-each : goal.returns-clause-each
returns-clause-each c bytes more item later rest left due first second =
    let asks = interim_line_stays_due bytes more item rest due first in
    ap is_interim_due (one_item (bytes ++ more) later asks.item left asks.rest second asks.is_item).0 ∙ asks.due
