-- Those of the touched rows so far that are gone.
use Rattle.ob_change.specs.Changing.{models_of, sides_of}
use Rattle.ob_change.proofs.GoneRows.{Chosen, GoneKey}
use Rattle.ob_change.proofs.gone.gone_rows.Given as goal

abbrev pub invariant-loop-key : goal.invariant-loop-key
invariant-loop-key l = Chosen (GoneKey (models_of l.fn.change) (sides_of l.fn.change)) l.fn.change.touched.now l.key-index l.gone.items
