use Rattle.std.proofs.Common.{◌≡◌, ◌++◌, map}
use Rattle.std.specs.Prelude.{◌↔◌, IsTrue}
use Rattle.std.specs.List.{AllByRecursion}
use Rattle.ob_audit.specs.Report.{sum_line}
use Rattle.ob_audit.proofs.Totals.{IsZero}
use Rattle.ob_audit.proofs.sums.add_sums.Given as goal

-- with the totals that are left, all are told
abbrev pub invariant-loop-product : goal.invariant-loop-product
invariant-loop-product l = record {
  lines : l.report.lines ++ map sum_line l.product-iterator ≡ l.fn.report.lines ++ map sum_line l.initial.product-iterator;
  equal : (IsTrue l.report.equal × AllByRecursion IsZero l.product-iterator) ↔ (IsTrue l.fn.report.equal × AllByRecursion IsZero l.initial.product-iterator);
}
