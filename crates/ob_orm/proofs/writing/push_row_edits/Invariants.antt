use Rattle.std.proofs.Common.{◌≡◌, ◌++◌, take}
use Rattle.ob_orm.specs.NewRows.{row_edits}
use Rattle.ob_orm.proofs.writing.push_row_edits.Given as goal

abbrev pub invariant-loop-given : goal.invariant-loop-given
invariant-loop-given l = l.edits.items ≡ l.fn.edits.items ++ row_edits l.model (take l.given-index l.values) l.id
