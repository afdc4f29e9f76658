-- Each piece goes after what is done, and a write that fails leaves what is done.
use Rattle.std.proofs.Common.{rules, ◌∙◌}
use Rattle.ob_server.proofs.WrittenParts.{at_any_error, front_so_far, more_so_far}
use Rattle.ob_server.proofs.output.write_all.Goals as goal

pub returns-in_err-done-clause-err : goal.returns-in_err-done-clause-err
returns-in_err-done-clause-err g c =
    at_any_error _ (front_so_far _ _ c.loop-done.done _ (search rules) (c.in_err-done.ensures.failed ∙ c.loop-done.invariant.written))

pub loop-done-preserved : goal.loop-done-preserved
loop-done-preserved g c = record {
  done = search rules;
  written = more_so_far _ _ _ c.loop-done.done c.in_ok-done.field-0 c.args.bytes.now c.loop-done.invariant.written c.in_ok-done.ensures.writes.written;
  faults = search rules;
}
