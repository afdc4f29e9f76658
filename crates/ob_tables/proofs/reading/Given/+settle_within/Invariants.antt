use Rattle.std.proofs.Common.{◌≡◌, take}
use Rattle.ob_base.specs.declared.id.Cell.{Cell}
use Rattle.ob_expr.specs.Meaning.{row_of}
use Rattle.ob_expr.specs.TypedTree.{typed_tree_of}
use Rattle.ob_schema.specs.Plain.{plain_at}
use Rattle.ob_tables.specs.Settling.{AreOutcomes, IsSettled, KeepsAll, ends_of}
use Rattle.ob_tables.proofs.NamedBack.{Stands}
use Rattle.ob_tables.proofs.reading.Given.+settle_within.Given as goal

abbrev pub decreases-settle_within : goal.decreases-settle_within
decreases-settle_within l = l.chain

-- the ends so far are settled, and what was settled before is
abbrev pub invariant-loop-end : goal.invariant-loop-end
invariant-loop-end l = record {
  right : AreOutcomes l.self.tables.now.models l.self.tables.now.tables l.outcomes;
  kept : KeepsAll l.fn.outcomes l.outcomes;
  done : (d : Cell) → Stands d (take l.end-index l.end-items) → IsSettled l.self.tables.now.models l.self.tables.now.tables l.outcomes d;
  items : l.end-items ≡ ends_of (plain_at l.self.tables.now.tables l.self.tables.now.models) (row_of l.cell) (typed_tree_of l.formula.typed);
}
