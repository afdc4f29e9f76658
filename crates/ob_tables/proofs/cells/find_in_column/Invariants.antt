use Rattle.ob_tables.specs.Finding.{BreaksIn, Is, is_of_plain}
use Rattle.ob_tables.proofs.Finds.{Before}
use Rattle.ob_tables.proofs.cells.find_in_column.Given as goal

-- what is broken in the cells so far is found
abbrev pub invariant-loop-id : goal.invariant-loop-id
invariant-loop-id l = Before l.fn.ids (λ id. BreaksIn l.fn.tables.models l.fn.tables.tables is_of_plain (Is (record { model = l.fn.model; id = id; field = l.fn.number }))) l.id-index l.initial.findings l.findings
