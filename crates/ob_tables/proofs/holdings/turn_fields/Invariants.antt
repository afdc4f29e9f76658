use Rattle.ob_tables.specs.Holdings.{names_by, names_where}
use Rattle.ob_tables.proofs.Held.{Walking}
use Rattle.ob_tables.proofs.holdings.turn_fields.Given as goal

-- the fields so far are turned
abbrev pub invariant-loop-field : goal.invariant-loop-field
invariant-loop-field l = Walking l.fn.key (names_by l.fn.old) (names_where l.fn.old l.fn.new) l.fn.old l.fn.holdings l.holdings l.field-iterator
