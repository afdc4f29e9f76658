-- By the head that is one whatever follows it.
use Rattle.ob_http.proofs.OneItem.{item_of_its_bytes}
use Rattle.ob_http.proofs.laws.item_of_its_bytes.Goals as goal

pub returns : goal.returns
returns c = item_of_its_bytes
