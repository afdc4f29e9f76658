use Rattle.std.proofs.Common.{arith}
use Rattle.ob_cache.proofs.Filling.{models-all}
use Rattle.ob_tables.proofs.CallerLemmas.{sound-tied}
use Rattle.ob_cache.proofs.whole.values_of.Goals as goal

pub of-requires : goal.of-requires
of-requires c = sound-tied c.args.tables.now.models c.args.tables.now.tables c.requires.sound

pub returns : goal.returns
returns c =
    let s = c.args.tables.now in
    models-all s.models s.tables c.fit_together.ensures.registry c.loop-place.place (omega (arith, c.loop-place-test.false)) c.loop-place.values c.loop-place.invariant.right c.loop-place.invariant.done
