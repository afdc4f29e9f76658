use Rattle.ob_codec.proofs.ReadsBack.{reads_back}
use Rattle.ob_codec.proofs.json.reads_back.Goals as goal

pub returns : goal.returns
returns c = reads_back
