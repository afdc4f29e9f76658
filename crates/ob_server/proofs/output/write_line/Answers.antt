-- A front of the text, or the text and a front of the line feed, is a front of the line.
use Rattle.std.proofs.Common.{[], ◌∷◌, rules}
use Rattle.std.proofs.lemmas.Result.{on_err_weaker}
use Rattle.ob_server.proofs.WrittenParts.{at_any_error, front_of_more, front_after}
use Rattle.ob_server.proofs.output.write_line.Goals as goal

pub returns-in_err-write_all-clause-err : goal.returns-in_err-write_all-clause-err
returns-in_err-write_all-clause-err g c =
    at_any_error _ (front_of_more _ _ c.args.text.now (10 ∷ []) (rw c.as_bytes.ensures.value at c.in_err-write_all.ensures.err))

pub returns-clause-err : goal.returns-clause-err
returns-clause-err g c =
    on_err_weaker c.write_all-2.result (λ written. front_after _ _ _ c.args.text.now (10 ∷ []) (search rules) written) c.write_all-2.ensures.err
