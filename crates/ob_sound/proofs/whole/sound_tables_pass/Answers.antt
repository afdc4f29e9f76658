use Rattle.ob_sound.proofs.Passing.{edits_pass, formulas_pass}
use Rattle.ob_sound.proofs.whole.sound_tables_pass.Goals as goal

pub returns : goal.returns
returns c = record { edits = edits_pass; formulas = formulas_pass }
