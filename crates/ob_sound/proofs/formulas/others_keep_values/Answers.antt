use Rattle.ob_sound.proofs.Unchanged.{value_kept}
use Rattle.ob_sound.proofs.formulas.others_keep_values.Goals as goal

pub returns : goal.returns
returns c = λ models sides cell registry sound computed not. value_kept models sides cell (c.sound_values.ensures.valued models sides.before registry sound cell) computed not
