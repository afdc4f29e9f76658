use Rattle.ob_codec.proofs.OneBody.{one_body_lem}
use Rattle.ob_codec.proofs.kept.one_body.Goals as goal

pub returns : goal.returns
returns c = one_body_lem
