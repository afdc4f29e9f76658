use Rattle.ob_codec.proofs.HeldLaws.{one_json}
use Rattle.ob_codec.proofs.json.one_json.Goals as goal

pub returns : goal.returns
returns c = one_json c.one_day_text.ensures c.one_moment_text.ensures
