use Rattle.ob_effect.proofs.CallerLemmas.{asks_then}
use Rattle.ob_commands.proofs.WriterPassed.{noted-asked}
use Rattle.ob_commands.proofs.judging.own_broken.Goals as goal

pub returns-in_err-broken-2-clause-asked : goal.returns-in_err-broken-2-clause-asked
returns-in_err-broken-2-clause-asked g c = asks_then g.K.Keeper _ _ _ c.some_locked.ensures.asked c.some_restricting.ensures.asked

pub returns-in-Some-3-clause-asked : goal.returns-in-Some-3-clause-asked
returns-in-Some-3-clause-asked g c = asks_then g.K.Keeper _ _ _ c.some_locked.ensures.asked c.some_restricting.ensures.asked

pub some_missing-requires-clause-noted : goal.some_missing-requires-clause-noted
some_missing-requires-clause-noted g c =
    noted-asked g.K.Keeper c.args.engine.now c.some_restricting.new.engine c.args.notes.now (asks_then g.K.Keeper _ _ _ c.some_locked.ensures.asked c.some_restricting.ensures.asked) c.requires.noted

pub returns-clause-asked : goal.returns-clause-asked
returns-clause-asked g c = asks_then g.K.Keeper _ _ _ (asks_then g.K.Keeper _ _ _ c.some_locked.ensures.asked c.some_restricting.ensures.asked) c.some_missing.ensures.asked
