use Rattle.std.proofs.Common.{refl, subst, sym}
use Rattle.std.proofs.lemmas.Result.{on_ok_weaker}
use Rattle.ob_cache.proofs.KeptAfter.{held-kept, others-stay}
use Rattle.ob_cache.proofs.Standings.{settled-usable}
use Rattle.ob_cache.specs.Changing.{ChangesTo}
use Rattle.ob_cache.proofs.engine.Engine.keep.Goals as goal

pub returns-clause-kept : goal.returns-clause-kept
returns-clause-kept g c =
    let held = c.args.self.now.held in
    let changes = c.as_slice.result.now in
    on_ok_weaker c.commit.result
    (λ is at stands. held-kept _ _ held at changes stands (settled-usable held.phase c.requires.settled)
    (subst (ChangesTo (record { models = held.models; tables = held.flushed }) (record { models = held.models; tables = held.settled })) (sym c.as_slice.ensures) c.in_ok-changes.ensures) is)
    c.commit.ensures.ok

pub returns-clause-others : goal.returns-clause-others
returns-clause-others g c =
    let held = c.args.self.now.held in
    let changes = c.as_slice.result.now in
    others-stay c.commit.result (record { models = held.models; tables = held.flushed }) (record { models = held.models; tables = held.settled }) _ _ changes refl
    (subst (ChangesTo (record { models = held.models; tables = held.flushed }) (record { models = held.models; tables = held.settled })) (sym c.as_slice.ensures) c.in_ok-changes.ensures)
    c.commit.ensures.ok c.commit.ensures.err
