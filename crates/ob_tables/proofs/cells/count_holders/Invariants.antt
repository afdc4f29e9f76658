use Rattle.std.proofs.Common.{◌≡◌, ◌+◌, length, unwrap_or}
use Rattle.std.specs.BTreeMap as tree
use Rattle.std.specs.Ordering.{nat_cmp}
use Rattle.ob_base.specs.declared.id.RecId.{RecId}
use Rattle.ob_schema.specs.Plain.{naming}
use Rattle.ob_tables.proofs.Counted.{AreThere, holders}
use Rattle.ob_tables.proofs.cells.count_holders.Given as goal

-- what is counted and the rows that are left and name a row are all that name it; those that are left are there
abbrev pub invariant-loop-row : goal.invariant-loop-row
invariant-loop-row l = record {
  all : (id : RecId) → unwrap_or (tree.get nat_cmp l.counts id.0) 0 + length (holders l.tables.tables l.fn.model l.fn.field id l.row-iterator) ≡ length (naming l.tables.tables l.fn.model l.fn.field id);
  there : AreThere l.tables.tables l.fn.model l.fn.field l.row-iterator;
}
