-- By its head, which has a byte at least, and its body.
use Rattle.ob_http.proofs.OneItem.{message_takes_bytes}
use Rattle.ob_http.proofs.laws.message_takes_bytes.Goals as goal

pub returns : goal.returns
returns c = message_takes_bytes
