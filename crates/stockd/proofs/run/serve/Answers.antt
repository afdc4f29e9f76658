-- The modules were loaded, and what the opening and the connections did follows.
use Rattle.std.proofs.Common.{inl, inr, refl}
use Rattle.stockd.specs.Setup.{setup_of}
use Rattle.stockd.proofs.OpeningServed.{ends_received}
use Rattle.stockd.proofs.run.serve.Goals as goal

pub returns-in-Ok-clause-outcome : goal.returns-in-Ok-clause-outcome
returns-in-Ok-clause-outcome g c = λ store streams moments left written source_faults sink_faults kept coming given.
    ends_received _ _ store _ _ (setup_of c.args.command.now c.in-Ok.loaded) c.in-Ok.loaded.preset.rows c.in-Ok.ensures.ok refl refl (c.received.ensures.outcome store streams moments written kept coming given)

pub returns-in-Ok-clause-others : goal.returns-in-Ok-clause-others
returns-in-Ok-clause-others g c = inr (setup_of c.args.command.now c.in-Ok.loaded, c.in-Ok.loaded.preset.rows, c.in-Ok.ensures.ok, c.received.ensures.others)

pub returns-in-Err-clause-outcome : goal.returns-in-Err-clause-outcome
returns-in-Err-clause-outcome g c = λ store streams moments left written source_faults sink_faults kept coming given.
    let (texts, agrees, stops) = c.in-Err.ensures.told in
    inl (record { texts = texts; agrees = agrees; stops = stops; same = record { left = refl; kept = refl; coming = refl; written = refl } }, refl)
