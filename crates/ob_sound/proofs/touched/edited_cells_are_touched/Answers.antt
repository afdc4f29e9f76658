use Rattle.ob_sound.proofs.Touching.{edited_touched}
use Rattle.ob_sound.proofs.touched.edited_cells_are_touched.Goals as goal

pub returns : goal.returns
returns c = edited_touched
