-- What an opened store is: the rows of sound tables, and so connections served over those on that it then had.
use Rattle.std.proofs.Common.{inr, rules}
use Rattle.stockd.specs.Setup.{setup_of}
use Rattle.stockd.proofs.OpeningServed.{door_opened}
use Rattle.stockd.proofs.WholeCall.{others_served}
use Rattle.stockd.proofs.run.received.Goals as goal

pub returns-in-Ok-clause-others : goal.returns-in-Ok-clause-others
returns-in-Ok-clause-others g c =
    let opened = c.in-Ok.ensures in
    others_served g.K.Keeper.faults g.K.Keeper.kept _ _ _ _ c.filled_connections-ending.new.engine.keeper.now _ (search rules) opened.rests.models_are opened.same c.filled_connections-ending.ensures.others

pub returns-in-Ok-clause-outcome : goal.returns-in-Ok-clause-outcome
returns-in-Ok-clause-outcome g c = λ store streams moments written told coming given.
    let opened = c.in-Ok.ensures in
    inr (door_opened g.K.Keeper.faults g.K.Keeper.kept (λ models. record (setup_of c.args.command.now c.args.loaded.now) { models = models }) _ _ c.in-Ok.engine.held store _ _ written written
    _ c.in-Ok.engine.keeper.now c.filled_connections-ending.new.engine.keeper.now _ _ (search rules)
    opened.rests.models_are opened.stands opened.same opened.count told c.args.command.now.limit _ _ (λ first rests. c.filled_connections-ending.ensures.outcome first streams moments written coming given rests))
