use Rattle.ob_sound.proofs.Everything.{all_sound, pass_tie}
use Rattle.ob_tables.proofs.CallerLemmas.{sound-tied}
use Rattle.ob_sound.proofs.whole.still_sound.Goals as goal

pub returns : goal.returns
returns c = λ models sides cells registry sound fits pass holds formulas.
    let tied = c.still_tied.ensures models sides registry (sound-tied models sides.before sound) (pass_tie models sides pass) in
    all_sound models sides sound pass cells tied (λ broken cell fails. c.broken_is_changed.ensures models sides broken cell registry sound fits tied fails) holds formulas fits
