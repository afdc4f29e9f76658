use Rattle.ob_sound.proofs.Found.{formulas_found}
use Rattle.ob_sound.proofs.formulas.broken_formulas_found.Goals as goal

pub returns : goal.returns
returns c = λ models tables broken cell tied fails. formulas_found models tables broken cell tied fails
