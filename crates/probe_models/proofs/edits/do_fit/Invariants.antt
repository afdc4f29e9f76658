-- The edits so far fit.
use Rattle.std.proofs.Common.{All, take}
use Rattle.ob_tables.specs.Fitting.{IsFitEdit}
use Rattle.probe_models.proofs.edits.do_fit.Given as goal

abbrev pub invariant-loop-edit : goal.invariant-loop-edit
invariant-loop-edit l = All (IsFitEdit l.schema) (take l.edit-index l.edits)
