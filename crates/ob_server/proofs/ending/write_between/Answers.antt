-- A front of one of the three texts, after those before it, is a front of all.
use Rattle.std.proofs.Common.{◌++◌, rules}
use Rattle.std.proofs.lemmas.Result.{on_err_weaker}
use Rattle.ob_server.proofs.WrittenParts.{at_any_error, whole_after, front_of_more, front_after}
use Rattle.ob_server.proofs.ending.write_between.Goals as goal

pub returns-in_err-write_all-clause-err : goal.returns-in_err-write_all-clause-err
returns-in_err-write_all-clause-err g c =
    at_any_error _ (front_of_more _ _ (c.args.before.now ++ c.args.text.now) c.args.after.now (front_of_more _ _ c.args.before.now c.args.text.now (rw c.as_bytes.ensures.value at c.in_err-write_all.ensures.err)))

pub returns-in_err-write_all-2-clause-err : goal.returns-in_err-write_all-2-clause-err
returns-in_err-write_all-2-clause-err g c =
    at_any_error _ (front_of_more _ _ (c.args.before.now ++ c.args.text.now) c.args.after.now (front_after _ (g.W.Sink.written c.write_all.new.output) _ c.args.before.now c.args.text.now
    (search rules) (rw c.as_bytes-2.ensures.value at c.in_err-write_all-2.ensures.err)))

pub returns-clause-err : goal.returns-clause-err
returns-clause-err g c =
    on_err_weaker c.write_all-3.result (λ written. front_after _ (g.W.Sink.written c.write_all-2.new.output) _ (c.args.before.now ++ c.args.text.now) c.args.after.now
    (whole_after _ (g.W.Sink.written c.write_all.new.output) _ c.args.before.now c.args.text.now (search rules) (search rules)) written) (rw c.as_bytes-3.ensures.value at c.write_all-3.ensures.err)
