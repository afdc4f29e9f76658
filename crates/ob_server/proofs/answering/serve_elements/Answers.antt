use Rattle.std.proofs.Common.{List, ap, refl, subst, sym}
use Rattle.std.proofs.lemmas.Int.{to_z-of_z}
use Rattle.serde_json.specs.View.{view, items_view}
use Rattle.ob_cache.specs.Calls.{KeeperRose, standpoint}
use Rattle.ob_query.proofs.CallerLemmas.{rests_on}
use Rattle.ob_query.specs.SearchQuestions.{IsUnanswered}
use Rattle.ob_schema.specs.declared.info.ModelInfo.{ModelInfo}
use Rattle.ob_server.specs.Directory.{directory_of}
use Rattle.ob_server.specs.MethodCall.{LooksUpCaller}
use Rattle.ob_server.specs.Reply.{TellsUnread, text_of}
use Rattle.ob_server.specs.Request.{call_of, request_by}
use Rattle.ob_server.specs.Setup.{over}
use Rattle.ob_server.proofs.AnswerLaws.{replies_same, serves_same}
use Rattle.ob_server.proofs.AskedBehind.{keeper_of_call, replies_behind, serves_behind, unread_replies, unread_serves, wrong_of_call}
use Rattle.ob_server.proofs.answering.serve_elements.Goals as goal

pub returns-in-Ok-clause-served : goal.returns-in-Ok-clause-served
returns-in-Ok-clause-served g c = λ tables rests.
    let before = standpoint g.K.Keeper c.args.engine.now in
    let asked = c.in-Ok.ensures.asked in
    let found = c.in-Ok.ensures.found.told tables rests in
    let made = serves_same c.args.terms.now _ _ _ _ _ _ _ (to_z-of_z _ _ c.ranges.now) refl c.serve_call.ensures.served in
    serves_same c.args.terms.now before _ _ _ _ _ _ refl (sym (ap (request_by (view c.args.id.now)) found)) (serves_behind c.args.terms.now before _ _ asked.same asked.count _ _ _ made) tables rests

pub returns-in-Ok-clause-causes : goal.returns-in-Ok-clause-causes
returns-in-Ok-clause-causes g c =
    let before = standpoint g.K.Keeper c.args.engine.now in
    let asked = c.in-Ok.ensures.asked in
    let found = c.in-Ok.ensures.found in
    let made = replies_same (over c.args.terms.now c.call_of.new.engine.held.models) _ _ _ _ _ _ (to_z-of_z _ _ c.ranges.now) (sym (ap (request_by (view c.args.id.now)) found.of_one)) c.serve_call.ensures.causes in
    (found.one, replies_behind c.args.terms.now before (standpoint g.K.Keeper c.call_of.new.engine) (standpoint g.K.Keeper c.serve_call.new.engine) asked.same asked.count _ _ _ made)

pub returns-in-Err-clause-served : goal.returns-in-Err-clause-served
returns-in-Err-clause-served g c = λ tables rests.
    let engine = c.args.engine.now in
    let last = c.call_of.new.engine in
    let asked = c.in-Err.ensures.asked in
    let told = subst (λ (models : List ModelInfo). TellsUnread models (view c.args.id.now) c.in-Err.fault (text_of c.unread.result)) asked.same.models (rw c.schema.ensures at c.unread.ensures) in
    unread_serves (over c.args.terms.now engine.held.models) (KeeperRose (standpoint g.K.Keeper engine) (standpoint g.K.Keeper last)) _ (view c.args.id.now) (request_by (view c.args.id.now)) (wrong_of_call engine.held.models (view c.args.id.now)) LooksUpCaller (keeper_of_call (view c.args.id.now))
    (IsUnanswered g.K.Keeper engine last) (λ risen. risen) tables (call_of (over c.args.terms.now engine.held.models) (directory_of engine.held.models tables) c.args.layout (items_view c.args.elements.now)) c.in-Err.fault _ _ _
    (rests_on g.K.Keeper engine last tables asked rests) (c.in-Err.ensures.found.told tables rests) c.in-Err.ensures.causes told

pub returns-in-Err-clause-causes : goal.returns-in-Err-clause-causes
returns-in-Err-clause-causes g c =
    let engine = c.args.engine.now in
    let last = c.call_of.new.engine in
    let asked = c.in-Err.ensures.asked in
    let found = c.in-Err.ensures.found in
    let told = subst (λ (models : List ModelInfo). TellsUnread models (view c.args.id.now) c.in-Err.fault (text_of c.unread.result)) asked.same.models (rw c.schema.ensures at c.unread.ensures) in (
      found.one,
      unread_replies (over c.args.terms.now engine.held.models) (KeeperRose (standpoint g.K.Keeper engine) (standpoint g.K.Keeper last)) _ (view c.args.id.now) (request_by (view c.args.id.now)) (wrong_of_call engine.held.models (view c.args.id.now)) LooksUpCaller (keeper_of_call (view c.args.id.now))
          (IsUnanswered g.K.Keeper engine last) (λ risen. risen) (call_of (over c.args.terms.now engine.held.models) found.one c.args.layout (items_view c.args.elements.now)) c.in-Err.fault _ found.of_one c.in-Err.ensures.causes told,
    )
