use Rattle.ob_sound.proofs.DepthsAdd.{depth_below, depth_once}
use Rattle.ob_sound.proofs.trees.depths_add.Goals as goal

pub returns : goal.returns
returns c = record { below = depth_below; once = depth_once }
