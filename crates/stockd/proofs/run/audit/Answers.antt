-- The modules were loaded, and what of the report was written follows.
use Rattle.std.proofs.Common.{inl, inr, refl}
use Rattle.stockd.specs.Setup.{setup_of}
use Rattle.stockd.proofs.run.audit.Goals as goal

pub returns-in-Ok-clause-outcome : goal.returns-in-Ok-clause-outcome
returns-in-Ok-clause-outcome g c = λ store left door coming source_faults kept.
    let (written, tells, now) = c.audited.ensures.told store kept in
    inr (record {
      setup = setup_of c.args.command.now c.in-Ok.loaded;
      preset = c.in-Ok.loaded.preset.rows;
      loaded = c.in-Ok.ensures.ok;
      written = written;
      tells = tells;
      same = record { left = refl; kept = c.audited.ensures.same; coming = refl; written = now };
    })

pub returns-in-Err-clause-outcome : goal.returns-in-Err-clause-outcome
returns-in-Err-clause-outcome g c = λ store left door coming source_faults kept.
    let (texts, agrees, stops) = c.in-Err.ensures.told in
    inl (record { texts = texts; agrees = agrees; stops = stops; same = record { left = refl; kept = refl; coming = refl; written = refl } })
