use Rattle.std.proofs.Common.{◌∙◌}
use Rattle.ob_audit.proofs.Judged.{none-judged, right-more, some-judged, wrong-found}
use Rattle.ob_audit.proofs.comparing.first_difference.Goals as goal

pub returns-in-Some-clause-found : goal.returns-in-Some-clause-found
returns-in-Some-clause-found c =
    let item = c.loop-cell-item.result in
    wrong-found c.args.values.now c.args.at c.args.stored.now c.loop-cell.cell-index item c.loop-cell-test.true c.loop-cell-item.is c.loop-cell.invariant.right c.in-Some.difference
    (some-judged c.args.values.now c.loop-cell.values c.args.at item.0 item.1 c.in_ok-difference.field-0 c.in-Some.difference c.loop-cell.invariant.same c.in-Some.is c.in_ok-difference.ensures.judged)

pub loop-cell-preserved : goal.loop-cell-preserved
loop-cell-preserved c =
    let item = c.loop-cell-item.result in
    record {
      same = c.in_ok-difference.ensures.same ∙ c.loop-cell.invariant.same;
      right = right-more c.args.values.now c.args.at c.args.stored.now c.loop-cell.cell-index item c.loop-cell-test.true c.loop-cell-item.is c.loop-cell.invariant.right
          (none-judged c.args.values.now c.loop-cell.values c.args.at item.0 item.1 c.in_ok-difference.field-0 c.loop-cell.invariant.same c.in_default.is c.in_ok-difference.ensures.judged);
    }
