-- The store was opened, and connections were served from the tables on that it then had.
use Rattle.std.proofs.Common.{List, inr, refl, subst}
use Rattle.ob_schema.specs.declared.info.ModelInfo.{ModelInfo}
use Rattle.ob_server.specs.Outside.{Surroundings, doorway}
use Rattle.ob_server.specs.Reception.{Reception}
use Rattle.ob_server.specs.Setup.{over}
use Rattle.ob_server.proofs.OpenedStore.{opened_at, still_coming}
use Rattle.ob_server.proofs.opening.filled_connections.Goals as goal

pub returns-in-Ok-clause-outcome : goal.returns-in-Ok-clause-outcome
returns-in-Ok-clause-outcome g c = λ first streams moments written coming given rests.
    let filled = c.in-Ok.ensures.begins first rests in
    let before : Surroundings = record { faults = g.K.Keeper.faults c.args.engine.now.keeper.now; kept = g.K.Keeper.kept c.args.engine.now.keeper.now; coming = g.C.Clock.coming c.args.clock.now; written = written } in
    let mid : Surroundings = record { faults = g.K.Keeper.faults c.fill.new.engine.keeper.now; kept = g.K.Keeper.kept c.fill.new.engine.keeper.now; coming = g.C.Clock.coming c.fill.new.clock; written = written } in
    let now : Surroundings = record {
      faults = g.K.Keeper.faults c.serve_connections.new.engine.keeper.now;
      kept = g.K.Keeper.kept c.serve_connections.new.engine.keeper.now;
      coming = g.C.Clock.coming c.serve_connections.new.clock;
      written = written;
    } in
    let same = c.in-Ok.ensures.rests.models_are in
    let rest = still_coming c.args.engine.now.held.models c.args.preset.now.rows first filled.0 _ _ moments filled.1 given in
    let door = doorway g.D.Door c.args.door.now in
    let door_now = doorway g.D.Door c.serve_connections.new.door in
    inr (
      filled.0,
      mid,
      rest.0,
      opened_at c.args.engine.now.held.models c.args.preset.now.rows first filled.0 c.fill.new.engine.held before mid same filled.1 filled.2 refl c.in-Ok.ensures.others c.in-Ok.ensures.count,
      rest.1,
      subst (λ (models : List ModelInfo). Reception (over c.args.terms.now models) filled.0 c.serve_connections.result c.args.most rest.0 door door_now mid now) same
          (c.serve_connections.ensures.reception filled.0 streams rest.0 written coming rest.1 filled.2),
    )
