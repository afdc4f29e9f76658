use Rattle.ob_sound.proofs.Outcomes.{broken_changed}
use Rattle.ob_sound.proofs.formulas.broken_is_changed.Goals as goal

pub returns : goal.returns
returns c = λ models sides broken cell registry sound fits tied fails.
    broken_changed models sides registry sound (c.sound_values.ensures.valued models sides.before registry sound) (c.values_from_scratch.ensures.is_val models sides.behind registry fits tied) broken cell fails
