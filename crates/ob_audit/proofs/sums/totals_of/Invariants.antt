use Rattle.std.proofs.Common.{◌≡◌, ℕ}
use Rattle.std.specs.Prelude.{IfSome}
use Rattle.std.specs.BTreeMap as tree
use Rattle.std.specs.Ordering.{nat_cmp}
use Rattle.ob_audit.specs.Sums.{total_of}
use Rattle.ob_audit.proofs.Totals.{IsWithin, goods_to}
use Rattle.ob_audit.proofs.sums.totals_of.Given as goal

-- the quants so far are summed
abbrev pub invariant-loop-id : goal.invariant-loop-id
invariant-loop-id l = record {
  ordered : tree.IsOrdered nat_cmp l.totals;
  each : (q : ℕ) → tree.get nat_cmp l.totals q ≡ total_of (goods_to l.tables.models l.tables.tables l.fields l.id-index l.id-items) q;
  bound : (q : ℕ) → IfSome (tree.get nat_cmp l.totals q) (IsWithin l.id-index);
}
