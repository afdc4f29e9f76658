-- The modules were loaded, and what the opening did follows.
use Rattle.std.proofs.Common.{inl, inr, refl}
use Rattle.stockd.specs.Setup.{setup_of}
use Rattle.stockd.proofs.OpeningServed.{ends_opened}
use Rattle.stockd.proofs.run.call.Goals as goal

pub returns-in-Ok-clause-outcome : goal.returns-in-Ok-clause-outcome
returns-in-Ok-clause-outcome g c = λ store door kept.
    ends_opened _ _ store _ _ _ _ _ _ (setup_of c.args.command.now c.in-Ok.loaded) c.in-Ok.loaded.preset.rows c.in-Ok.ensures.ok (λ rose. rose) (c.opened.ensures.outcome store kept) c.opened.ensures.reason

pub returns-in-Ok-clause-others : goal.returns-in-Ok-clause-others
returns-in-Ok-clause-others g c = inr (setup_of c.args.command.now c.in-Ok.loaded, c.in-Ok.loaded.preset.rows, c.in-Ok.ensures.ok, c.opened.ensures.others)

pub returns-in-Err-clause-outcome : goal.returns-in-Err-clause-outcome
returns-in-Err-clause-outcome g c = λ store door kept.
    let (texts, agrees, stops) = c.in-Err.ensures.told in
    inl (record { texts = texts; agrees = agrees; stops = stops; same = record { left = refl; kept = refl; coming = refl; written = refl } })
