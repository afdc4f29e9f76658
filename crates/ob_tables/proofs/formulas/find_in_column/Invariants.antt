use Rattle.ob_tables.specs.Finding.{BreaksIn, Is, is_of_formulas}
use Rattle.ob_tables.specs.Settling.{AreOutcomes}
use Rattle.ob_tables.proofs.Finds.{Before}
use Rattle.ob_tables.proofs.formulas.find_in_column.Given as goal

-- what formulas break in the cells so far is found
abbrev pub invariant-loop-id : goal.invariant-loop-id
invariant-loop-id l = record {
  right : AreOutcomes l.fn.given.tables.now.models l.fn.given.tables.now.tables l.outcomes;
  found : Before l.fn.ids (λ id. BreaksIn l.fn.given.tables.now.models l.fn.given.tables.now.tables is_of_formulas (Is (record { model = l.fn.model; id = id; field = l.fn.number }))) l.id-index l.initial.findings l.findings;
}
