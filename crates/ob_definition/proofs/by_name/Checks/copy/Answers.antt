use Rattle.ob_definition.proofs.CopiedChecks.{copy-free}
use Rattle.ob_definition.proofs.by_name.Checks.copy.Goals as goal

pub push-requires : goal.push-requires
push-requires c =
    copy-free c.args.entry c.as_slice-check-items.result.now c.loop-check.check-index c.check-item.result c.loop-check.copy c.args.self.now
    c.as_slice-check-items.ensures.same c.as_slice-check-items.ensures.apart c.loop-check-test.true c.check-item.is
    c.loop-check.invariant
