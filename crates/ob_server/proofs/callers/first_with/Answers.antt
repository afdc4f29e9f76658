use Rattle.std.proofs.Common.{◌≡◌, List, ap, subst, sym, ◌∙◌}
use Rattle.std.specs.List.{find}
use Rattle.ob_access.specs.Users.{AreUsers}
use Rattle.ob_query.proofs.CallerLemmas.{asked_itself, asked_then, begins_walk, rests_on, sound_at, tells_tables, told_back}
use Rattle.ob_query.specs.SearchQuestions.{ahead}
use Rattle.ob_schema.specs.Facts.{Told, told_by}
use Rattle.ob_schema.specs.Models.{HasModel}
use Rattle.ob_schema.specs.Tables.{ids_in}
use Rattle.ob_schema.specs.declared.info.ModelInfo.{ModelInfo}
use Rattle.ob_server.specs.Directory.{logs_in}
use Rattle.ob_server.proofs.Directories.{finds_first, finds_later, model_of_users}
use Rattle.ob_server.proofs.callers.first_with.Goals as goal

pub loop-walk-init : goal.loop-walk-init
loop-walk-init g c = record {
  asked = asked_itself g.K.Keeper c.args.engine.now;
  told = λ tables rests.
      let old = c.args.engine.now in
      let models = old.held.models in
      let users = c.args.users.now in
      let registry = rw c.schema.ensures at c.parts_fit_together.ensures in
      let begins = begins_walk models registry tables (sound_at g.K.Keeper old tables rests) users.model (model_of_users models users c.requires.users) c.new-walk.result c.new-walk.ensures.page c.new-walk.ensures.last in
      ap (find (logs_in (told_by models tables) users c.args.login.now c.args.key.now)) (sym begins);
}

pub next-requires-clause-model : goal.next-requires-clause-model
next-requires-clause-model g c =
    let users = c.args.users.now in
    subst (λ (models : List ModelInfo). HasModel models users.model) (sym c.loop-walk.invariant.asked.same.models) (model_of_users c.args.engine.now.held.models users c.requires.users)

pub logs_in-requires : goal.logs_in-requires
logs_in-requires g c =
    let asked = asked_then g.K.Keeper c.args.engine.now c.loop-walk.engine c.next.new.engine c.loop-walk.invariant.asked c.next.ensures.asked in
    subst (λ (models : List ModelInfo). AreUsers models c.args.users.now) (sym asked.same.models) c.requires.users

pub returns-in_err-id-clause-asked : goal.returns-in_err-id-clause-asked
returns-in_err-id-clause-asked g c = asked_then g.K.Keeper c.args.engine.now c.loop-walk.engine c.next.new.engine c.loop-walk.invariant.asked c.next.ensures.asked

pub returns-clause-asked : goal.returns-clause-asked
returns-clause-asked g c = asked_then g.K.Keeper c.args.engine.now c.loop-walk.engine c.next.new.engine c.loop-walk.invariant.asked c.next.ensures.asked

pub returns-in_err-logs_in-clause-asked : goal.returns-in_err-logs_in-clause-asked
returns-in_err-logs_in-clause-asked g c =
    asked_then g.K.Keeper c.args.engine.now c.next.new.engine c.logs_in.new.engine (asked_then g.K.Keeper c.args.engine.now c.loop-walk.engine c.next.new.engine c.loop-walk.invariant.asked c.next.ensures.asked) c.logs_in.ensures.asked

pub returns-then-branch-clause-asked : goal.returns-then-branch-clause-asked
returns-then-branch-clause-asked g c =
    asked_then g.K.Keeper c.args.engine.now c.next.new.engine c.logs_in.new.engine (asked_then g.K.Keeper c.args.engine.now c.loop-walk.engine c.next.new.engine c.loop-walk.invariant.asked c.next.ensures.asked) c.logs_in.ensures.asked

pub returns-then-branch-clause-told : goal.returns-then-branch-clause-told
returns-then-branch-clause-told g c = λ tables rests.
    let old = c.args.engine.now in
    let users = c.args.users.now in
    let ids = ids_in tables users.model in
    let told = told_by old.held.models tables in
    let asked = asked_then g.K.Keeper old c.loop-walk.engine c.next.new.engine c.loop-walk.invariant.asked c.next.ensures.asked in
    let taken = (rw c.in-Some.is at c.in_ok-id.ensures.told) tables (rests_on g.K.Keeper old c.loop-walk.engine tables c.loop-walk.invariant.asked rests) in
    let found = told_back g.K.Keeper old c.next.new.engine (λ (told : Told). c.in_ok-logs_in.field-0 ≡ logs_in told users c.args.login.now c.args.key.now c.in-Some.id) asked c.in_ok-logs_in.ensures.told told (tells_tables g.K.Keeper old tables rests) in
    sym (c.loop-walk.invariant.told tables rests
    ∙ finds_first (logs_in told users c.args.login.now c.args.key.now) (ahead c.loop-walk.walk ids) (ahead c.next.new.self ids) c.in-Some.id taken (sym found ∙ c.if-branch.true))

pub loop-walk-preserved : goal.loop-walk-preserved
loop-walk-preserved g c = record {
  asked = asked_then g.K.Keeper c.args.engine.now c.next.new.engine c.logs_in.new.engine (asked_then g.K.Keeper c.args.engine.now c.loop-walk.engine c.next.new.engine c.loop-walk.invariant.asked c.next.ensures.asked) c.logs_in.ensures.asked;
  told = λ tables rests.
      let old = c.args.engine.now in
      let users = c.args.users.now in
      let ids = ids_in tables users.model in
      let told = told_by old.held.models tables in
      let asked = asked_then g.K.Keeper old c.loop-walk.engine c.next.new.engine c.loop-walk.invariant.asked c.next.ensures.asked in
      let taken = (rw c.in-Some.is at c.in_ok-id.ensures.told) tables (rests_on g.K.Keeper old c.loop-walk.engine tables c.loop-walk.invariant.asked rests) in
      let found = told_back g.K.Keeper old c.next.new.engine (λ (told : Told). c.in_ok-logs_in.field-0 ≡ logs_in told users c.args.login.now c.args.key.now c.in-Some.id) asked c.in_ok-logs_in.ensures.told told (tells_tables g.K.Keeper old tables rests) in
      c.loop-walk.invariant.told tables rests
      ∙ finds_later (logs_in told users c.args.login.now c.args.key.now) (ahead c.loop-walk.walk ids) (ahead c.next.new.self ids) c.in-Some.id taken (sym found ∙ c.if-branch.false);
}
