use Rattle.ob_sound.proofs.Touching.{touches_own}
use Rattle.ob_sound.proofs.touched.edits_touch_their_rows.Goals as goal

pub returns : goal.returns
returns c = λ models tables edits model id. touches_own models (c.one_row_changes.ensures.rows models) tables edits model id
