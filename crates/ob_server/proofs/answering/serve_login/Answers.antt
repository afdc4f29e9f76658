use Rattle.std.proofs.Common.{List, ℕ, subst, sym, Result}
use Rattle.std.specs.Prelude.{IsOk}
use Rattle.ob_cache.specs.Calls.{KeeperRose, standpoint}
use Rattle.ob_query.proofs.CallerLemmas.{rests_on}
use Rattle.ob_query.specs.SearchQuestions.{IsUnanswered}
use Rattle.ob_schema.specs.declared.info.ModelInfo.{ModelInfo}
use Rattle.serde_json.specs.Data.{Data}
use Rattle.serde_json.specs.View.{items_view, view}
use Rattle.ob_server.specs.Body.{Serves}
use Rattle.ob_server.specs.Directory.{directory_of}
use Rattle.ob_server.specs.Reply.{RepliesTo, TellsUnread, text_of}
use Rattle.ob_server.specs.Request.{identified, login_of, telling_by}
use Rattle.ob_server.specs.Setup.{over}
use Rattle.ob_server.proofs.AnswerLaws.{plainly_replies, plainly_serves}
use Rattle.ob_server.proofs.AskedBehind.{keeper_of_login, unread_replies, unread_serves, wrong_of_login}
use Rattle.ob_server.proofs.answering.serve_login.Goals as goal

pub returns-in-Ok-clause-served : goal.returns-in-Ok-clause-served
returns-in-Ok-clause-served g c = λ now tables rests.
    let engine = c.args.engine.now in
    let last = c.login_of.new.engine in
    let id = view c.args.id.now in
    let rose = KeeperRose (standpoint g.K.Keeper engine) (standpoint g.K.Keeper last) in
    let kept = g.K.Keeper.kept last.keeper.now in
    let reply = text_of c.told.result in
    subst (λ (told : Result Data ℕ). Serves (over c.args.terms.now engine.held.models) tables now rose (telling_by id told) reply kept last.held) (sym (c.in-Ok.ensures.found.told tables rests))
    (plainly_serves (over c.args.terms.now engine.held.models) tables now rose (identified id (view c.in-Ok.json)) reply kept last.held (rests_on g.K.Keeper engine last tables c.in-Ok.ensures.asked rests) c.told.ensures)

pub returns-in-Ok-clause-causes : goal.returns-in-Ok-clause-causes
returns-in-Ok-clause-causes g c = λ now.
    let engine = c.args.engine.now in
    let last = c.login_of.new.engine in
    let id = view c.args.id.now in
    let rose = KeeperRose (standpoint g.K.Keeper engine) (standpoint g.K.Keeper last) in
    let reply = text_of c.told.result in
    let found = c.in-Ok.ensures.found in (
      found.one,
      subst (λ (told : Result Data ℕ). RepliesTo (over c.args.terms.now engine.held.models) rose now (telling_by id told) reply) (sym found.of_one)
          (plainly_replies (over c.args.terms.now engine.held.models) rose now (identified id (view c.in-Ok.json)) reply c.told.ensures),
    )

pub returns-in-Err-clause-served : goal.returns-in-Err-clause-served
returns-in-Err-clause-served g c = λ now tables rests.
    let engine = c.args.engine.now in
    let last = c.login_of.new.engine in
    let id = view c.args.id.now in
    let reply = text_of c.unread.result in
    let told = subst (λ (models : List ModelInfo). TellsUnread models id c.in-Err.fault reply) c.in-Err.ensures.asked.same.models (rw c.schema.ensures at c.unread.ensures) in
    unread_serves (over c.args.terms.now engine.held.models) (KeeperRose (standpoint g.K.Keeper engine) (standpoint g.K.Keeper last)) now id (telling_by id) (wrong_of_login engine.held.models id) IsOk (keeper_of_login id)
    (IsUnanswered g.K.Keeper engine last) (λ risen. risen) tables (login_of c.args.terms.now.database.now (directory_of engine.held.models tables) (items_view c.args.elements.now)) c.in-Err.fault reply (g.K.Keeper.kept last.keeper.now) last.held
    (rests_on g.K.Keeper engine last tables c.in-Err.ensures.asked rests) (c.in-Err.ensures.found.told tables rests) c.in-Err.ensures.causes told

pub returns-in-Err-clause-causes : goal.returns-in-Err-clause-causes
returns-in-Err-clause-causes g c = λ now.
    let engine = c.args.engine.now in
    let last = c.login_of.new.engine in
    let id = view c.args.id.now in
    let reply = text_of c.unread.result in
    let found = c.in-Err.ensures.found in
    let told = subst (λ (models : List ModelInfo). TellsUnread models id c.in-Err.fault reply) c.in-Err.ensures.asked.same.models (rw c.schema.ensures at c.unread.ensures) in (
      found.one,
      unread_replies (over c.args.terms.now engine.held.models) (KeeperRose (standpoint g.K.Keeper engine) (standpoint g.K.Keeper last)) now id (telling_by id) (wrong_of_login engine.held.models id) IsOk (keeper_of_login id)
          (IsUnanswered g.K.Keeper engine last) (λ risen. risen) (login_of c.args.terms.now.database.now found.one (items_view c.args.elements.now)) c.in-Err.fault reply found.of_one c.in-Err.ensures.causes told,
    )
