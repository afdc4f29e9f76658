use Rattle.ob_tables.proofs.DigestedRows.{digested-none}
use Rattle.ob_tables.proofs.FitTables.{fits-empty}
use Rattle.ob_tables.proofs.tables.Tables.empty.Goals as goal

pub invariant_of-result : goal.invariant_of-result
invariant_of-result c = record {
  fits = fits-empty c.args.schema.now c.new.result c.new-3.result c.new.ensures.empty c.new-3.ensures.empty;
  digested = digested-none c.args.schema.now c.new.result c.new-2.result c.new.ensures.empty c.new-2.ensures.empty;
}
