use Rattle.std.proofs.Common.{◌≡◌, false, true, sym, ◌∙◌, arith}
use Rattle.std.proofs.lemmas.Grind.{common_steps}
use Rattle.std.proofs.lemmas.Result.{IfOk-weaker}
use Rattle.ob_access.specs.Users.{has_login, may_call}
use Rattle.ob_query.proofs.CallerLemmas.{asked_then, told_back}
use Rattle.ob_schema.specs.Facts.{Told}
use Rattle.ob_server.proofs.Directories.{opened, unopened}
use Rattle.ob_server.proofs.callers.logs_in.Goals as goal

pub returns-then-not-branch-clause-told : goal.returns-then-not-branch-clause-told
returns-then-not-branch-clause-told g c = λ told tells.
    let users = c.args.users.now in
    let may : c.in_ok-opens.field-0 ≡ false = grind (arith, common_steps) in
    unopened (may_call told users c.args.id c.args.key.now) (has_login told users c.args.id c.args.login.now) (sym (c.in_ok-opens.ensures.told told tells) ∙ may)

pub returns-clause-told : goal.returns-clause-told
returns-clause-told g c =
    let users = c.args.users.now in
    let may : c.in_ok-opens.field-0 ≡ true = grind (arith, common_steps) in
    IfOk-weaker c.is_login.result _ _
    (λ does named told tells.
    let is = told_back g.K.Keeper c.args.engine.now c.opens.new.engine (λ (told : Told). does ≡ has_login told users c.args.id c.args.login.now) c.opens.ensures.asked named told tells in
    opened (may_call told users c.args.id c.args.key.now) (has_login told users c.args.id c.args.login.now) does (sym (c.in_ok-opens.ensures.told told tells) ∙ may) is)
    c.is_login.ensures.told

pub returns-clause-asked : goal.returns-clause-asked
returns-clause-asked g c = asked_then g.K.Keeper c.args.engine.now c.opens.new.engine c.is_login.new.engine c.opens.ensures.asked c.is_login.ensures.asked
