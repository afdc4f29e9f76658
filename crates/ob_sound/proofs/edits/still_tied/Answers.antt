use Rattle.ob_sound.proofs.Ties.{all_tied}
use Rattle.ob_sound.proofs.edits.still_tied.Goals as goal

pub returns : goal.returns
returns c = λ models sides registry tied tests. all_tied models sides tied tests registry
