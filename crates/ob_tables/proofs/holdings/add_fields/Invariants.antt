use Rattle.ob_tables.specs.Holdings.{names_by, names_where}
use Rattle.ob_tables.proofs.Held.{Walking}
use Rattle.ob_tables.proofs.holdings.add_fields.Given as goal

-- those of the fields so far that the other row doesn't have are added
abbrev pub invariant-loop-field : goal.invariant-loop-field
invariant-loop-field l = Walking l.fn.key (names_where l.fn.old l.fn.new) (names_by l.fn.new) l.fn.new l.fn.holdings l.holdings l.field-iterator
