use Rattle.ob_sound.proofs.Found.{missing_found, shared_found}
use Rattle.ob_sound.proofs.edits.broken_cells_found.Goals as goal

pub returns : goal.returns
returns c = record {
  required = λ models sides cell fails. fails.1;
  missing = missing_found;
  unique = shared_found;
  limit = λ models sides cell fails. fails.1;
}
