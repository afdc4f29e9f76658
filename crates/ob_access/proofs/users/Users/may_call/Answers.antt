-- The key is asked for behind whether the user is active.
use Rattle.std.specs.Prelude.{IfErr, Result, Ok, Err}
use Rattle.ob_schema.specs.Facts.{Asked, FailedBehind, asked-then}
use Rattle.ob_access.proofs.users.Users.may_call.Goals as goal

-- what failed behind later questions failed behind all of them
failed_behind : {T S Fault : Type 0} {asks : S → S → Type 0} (has_failed : S → S → Fault → Type 0) (first before now : S) (result : Result T Fault) → Asked asks first before
    → IfErr result (FailedBehind asks has_failed before now) → IfErr result (FailedBehind asks has_failed first now)
failed_behind has_failed first before now (Ok answer) were known = tt
failed_behind has_failed first before now (Err why) were (at, asked, failed) = (at, asked-then first before at were asked, failed)

pub returns-clause-failed : goal.returns-clause-failed
returns-clause-failed g c = failed_behind g.F.Facts.has_failed _ _ _ c.has_word.result c.is_active.ensures.asked c.has_word.ensures.failed

pub returns-clause-asked : goal.returns-clause-asked
returns-clause-asked g c = asked-then _ _ _ c.is_active.ensures.asked c.has_word.ensures.asked
