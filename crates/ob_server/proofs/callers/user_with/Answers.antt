use Rattle.std.proofs.Common.{◌≡◌, false, Some, None, refl, sym, ◌∙◌}
use Rattle.std.proofs.lemmas.Result.{IfOk-weaker}
use Rattle.ob_access.specs.Users.{users_of}
use Rattle.ob_server.specs.Directory.{nobody}
use Rattle.ob_server.proofs.Directories.{first_by_rows, first_of_none, with_answers}
use Rattle.ob_server.proofs.callers.user_with.Goals as goal

pub returns-in-Some-clause-found : goal.returns-in-Some-clause-found
returns-in-Some-clause-found g c =
    let models = c.args.engine.now.held.models in
    let is : users_of models ≡ Some c.in-Some.users = rw (← c.schema.ensures) (sym c.in-Some.ensures.found) in
    IfOk-weaker c.first_with.result _ _
    (λ user tells. record {
      told = λ tables rests. tells tables rests ∙ sym (first_by_rows models tables c.in-Some.users c.args.login.now c.args.key.now is);
      one = with_answers false user;
      of_one = refl;
    })
    c.first_with.ensures.told

pub returns-in-None-clause-found : goal.returns-in-None-clause-found
returns-in-None-clause-found g c =
    let models = c.args.engine.now.held.models in
    let is : users_of models ≡ None = rw (← c.schema.ensures) (sym c.in-None.ensures.found) in
    record { told = λ tables rests. sym (first_of_none models tables c.args.login.now c.args.key.now is); one = nobody; of_one = refl }
