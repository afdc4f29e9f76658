-- A user's row is asked for, and then its cell.
use Rattle.std.proofs.lemmas.Result.{err_from_is_err_and}
use Rattle.ob_access.proofs.Asking.{asked_none}
use Rattle.ob_schema.specs.Facts.{one_more}
use Rattle.ob_access.proofs.users.Users.value.Goals as goal

pub returns-in_err-known-clause-failed : goal.returns-in_err-known-clause-failed
returns-in_err-known-clause-failed g c =
    let p = err_from_is_err_and c.from_residual.result c.from_residual.ensures.1 in
    rw (p.1, p.2) (c.args.facts.now, asked_none _, c.in_err-known.ensures.failed)

pub returns-in_err-known-clause-asked : goal.returns-in_err-known-clause-asked
returns-in_err-known-clause-asked g c = one_more _ _ _ (asked_none _) c.known.ensures.asked

pub returns-then-not-branch-clause-asked : goal.returns-then-not-branch-clause-asked
returns-then-not-branch-clause-asked g c = one_more _ _ _ (asked_none _) c.known.ensures.asked

pub returns-in_err-value-clause-failed : goal.returns-in_err-value-clause-failed
returns-in_err-value-clause-failed g c =
    let p = err_from_is_err_and c.from_residual-in_err-value.result c.from_residual-in_err-value.ensures.1 in
    rw (p.1, p.2) (c.known.new.self, one_more _ _ _ (asked_none _) c.known.ensures.asked, c.in_err-value.ensures.failed)

pub returns-in_err-value-clause-asked : goal.returns-in_err-value-clause-asked
returns-in_err-value-clause-asked g c = one_more _ _ _ (one_more _ _ _ (asked_none _) c.known.ensures.asked) c.value.ensures.asked

pub returns-clause-asked : goal.returns-clause-asked
returns-clause-asked g c = one_more _ _ _ (one_more _ _ _ (asked_none _) c.known.ensures.asked) c.value.ensures.asked
