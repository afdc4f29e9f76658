use Rattle.std.proofs.Common.{◌≡◌, Some, None, sym, ◌∙◌}
use Rattle.ob_cache.specs.Calls.{standpoint}
use Rattle.serde_json.specs.Find.{as_str}
use Rattle.serde_json.specs.View.{view}
use Rattle.ob_server.specs.Request.{whole_number}
use Rattle.ob_server.proofs.CallFound.{no_number, no_word, opened_for, shut_for}
use Rattle.ob_server.proofs.Directories.{of_each, then_of}
use Rattle.ob_server.proofs.callers.caller_of.Goals as goal

pub returns-in_default-clause-found : goal.returns-in_default-clause-found
returns-in_default-clause-found g c =
    let user = view c.args.user.now in
    let key = view c.args.key.now in
    let none : whole_number user ≡ None = sym c.as_u64.ensures ∙ c.in_default.is in
    of_each (standpoint g.K.Keeper c.args.engine.now) _ (λ directory. no_number directory user key none)

pub returns-in_default-as_str-clause-found : goal.returns-in_default-as_str-clause-found
returns-in_default-as_str-clause-found g c =
    let user = view c.args.user.now in
    let key = view c.args.key.now in
    let id : whole_number user ≡ Some c.in-Some.id = sym c.as_u64.ensures ∙ c.in-Some.is in
    let none : as_str key ≡ None = sym (rw c.in_default-as_str.is at c.as_str.ensures) in
    of_each (standpoint g.K.Keeper c.args.engine.now) _ (λ directory. no_word directory user key c.in-Some.id id none)

pub returns-then-branch-clause-found : goal.returns-then-branch-clause-found
returns-then-branch-clause-found g c =
    let user = view c.args.user.now in
    let key = view c.args.key.now in
    let may = c.in_ok-may_call.field-0 in
    let id : whole_number user ≡ Some c.in-Some.id = sym c.as_u64.ensures ∙ c.in-Some.is in
    let word : as_str key ≡ Some c.in-Some-as_str.key.now = sym (rw c.in-Some-as_str.is at c.as_str.ensures) in
    then_of (standpoint g.K.Keeper c.args.engine.now) _ _
    (λ directory is. opened_for directory user key c.in-Some.id id c.in-Some-as_str.key.now word may c.if-branch.true is) c.in_ok-may_call.ensures.found

pub returns-clause-found : goal.returns-clause-found
returns-clause-found g c =
    let user = view c.args.user.now in
    let key = view c.args.key.now in
    let may = c.in_ok-may_call.field-0 in
    let id : whole_number user ≡ Some c.in-Some.id = sym c.as_u64.ensures ∙ c.in-Some.is in
    let word : as_str key ≡ Some c.in-Some-as_str.key.now = sym (rw c.in-Some-as_str.is at c.as_str.ensures) in
    then_of (standpoint g.K.Keeper c.args.engine.now) _ _
    (λ directory is. shut_for directory user key c.in-Some.id id c.in-Some-as_str.key.now word may c.if-branch.false is) c.in_ok-may_call.ensures.found
