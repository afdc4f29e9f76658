-- A key that is put in is found beside those before.
use Rattle.ob_access.proofs.Inserting.{has-insert}
use Rattle.ob_access.proofs.groups.add_if_new.Goals as goal

pub returns-in_ok-push-clause-found : goal.returns-in_ok-push-clause-found
returns-in_ok-push-clause-found c = λ other. has-insert c.args.found.now.keys _ c.args.id c.in_ok-insert.ensures.keys other
