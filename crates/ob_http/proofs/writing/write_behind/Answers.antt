-- Where there is room nothing is written; else what waits, and then the text, of which nothing waits.
use Rattle.std.proofs.Common.{◌++◌, [], rules}
use Rattle.std.proofs.lemmas.Result.{on_ok_weaker, on_err_weaker}
use Rattle.ob_http.proofs.WrittenParts.{wrote_nothing, wrote_both, front_after}
use Rattle.ob_http.proofs.writing.write_behind.Goals as goal

pub returns-then-is_ok-clause-ok : goal.returns-then-is_ok-clause-ok
returns-then-is_ok-clause-ok g c = ([], search rules, wrote_nothing _)

pub returns-clause-ok : goal.returns-clause-ok
returns-clause-ok g c =
    on_ok_weaker c.write_all-2.result (λ written. (
      c.args.waiting.now.items ++ c.args.text.now,
      search rules,
      wrote_both _ (g.D.Door.written c.write_all.new.door) _ c.args.waiting.now.items c.args.text.now (search rules) written,
    )) c.write_all-2.ensures.ok

pub returns-clause-err : goal.returns-clause-err
returns-clause-err g c =
    on_err_weaker c.write_all-2.result (λ written. front_after _ (g.D.Door.written c.write_all.new.door) _ c.args.waiting.now.items c.args.text.now (search rules) written) c.write_all-2.ensures.err
