use Rattle.std.proofs.Common.{◌≢◌}
use Rattle.std.specs.Ordering.{nat_cmp}
use Rattle.std.specs.BTreeMap as tree
use Rattle.ob_tables.proofs.Copied.{LeadsTo}
use Rattle.ob_tables.proofs.row.copy_but.Given as goal

-- the entries that are left give the copy all other fields of the row
abbrev pub invariant-loop-number : goal.invariant-loop-number
invariant-loop-number l = LeadsTo nat_cmp (λ q. q ≢ l.fn.field.0) (tree.get nat_cmp l.copy) l.number-iterator l.fn.row.entries
