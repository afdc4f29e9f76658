-- One page has all.
use Rattle.std.proofs.Common.{subst, ◌∙◌}
use Rattle.std.proofs.lemmas.Result.{err_from_is_err_and}
use Rattle.ob_cache.specs.Stages.{resting}
use Rattle.ob_rows.proofs.CallerLemmas.{fault_refuses, rests-sound}
use Rattle.ob_unlink.proofs.OnePage.{page-all}
use Rattle.ob_unlink.proofs.unlinking.deletion.holders.Goals as goal
use Rattle.ob_schema.specs.Models.{IsRegistry}

pub returns-clause-told : goal.returns-clause-told
returns-clause-told g c = λ tables rests.
    let old = c.args.engine.now in
    let registry = subst IsRegistry c.schema.ensures c.parts_fit_together.ensures in
    c.in_ok-holders.ensures.ids (resting old.held.models tables) rests
    ∙ page-all old.held.models tables registry (rests-sound (g.K.Keeper.kept old.keeper.now) old.held tables rests) c.args.relation.model c.args.relation.field c.args.id

pub returns-in_err-holders-clause-causes : goal.returns-in_err-holders-clause-causes
returns-in_err-holders-clause-causes g c =
    let p = err_from_is_err_and c.from_residual.result c.from_residual.ensures.1 in
    let faults = g.K.Keeper.faults in
    rw (p.1, p.2) (fault_refuses (faults c.args.engine.now.keeper.now) (faults c.holders.new.self.keeper.now) c.holders.result c.in_err-holders.field-0.0 c.in_err-holders.was c.holders.ensures.cause)
