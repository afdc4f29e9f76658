use Rattle.std.proofs.Common.{◌≡◌, Some, None, refl, sym, ◌∙◌}
use Rattle.std.proofs.lemmas.Result.{IfOk-weaker}
use Rattle.ob_access.specs.Users.{users_of}
use Rattle.ob_query.proofs.CallerLemmas.{tells_tables}
use Rattle.ob_schema.specs.Facts.{told_by}
use Rattle.ob_server.specs.Directory.{nobody}
use Rattle.ob_server.proofs.Directories.{opens_by_rows, opens_nothing, with_answers}
use Rattle.ob_server.proofs.callers.may_call.Goals as goal

pub returns-in-Some-clause-found : goal.returns-in-Some-clause-found
returns-in-Some-clause-found g c =
    let engine = c.args.engine.now in
    let models = engine.held.models in
    let is : users_of models ≡ Some c.in-Some.users = rw (← c.schema.ensures) (sym c.in-Some.ensures.found) in
    IfOk-weaker c.opens.result _ _
    (λ may tells. record {
      told = λ tables rests. tells (told_by models tables) (tells_tables g.K.Keeper engine tables rests) ∙ sym (opens_by_rows models tables c.in-Some.users c.args.id c.args.key.now is);
      one = with_answers may None;
      of_one = refl;
    })
    c.opens.ensures.told

pub returns-in-None-clause-found : goal.returns-in-None-clause-found
returns-in-None-clause-found g c =
    let models = c.args.engine.now.held.models in
    let is : users_of models ≡ None = rw (← c.schema.ensures) (sym c.in-None.ensures.found) in
    record { told = λ tables rests. sym (opens_nothing models tables c.args.id c.args.key.now is); one = nobody; of_one = refl }
