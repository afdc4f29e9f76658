-- By the one answer of the checks.
use Rattle.ob_http.proofs.OneItem.{one_item}
use Rattle.ob_http.proofs.laws.one_item.Goals as goal

pub returns : goal.returns
returns c = one_item
