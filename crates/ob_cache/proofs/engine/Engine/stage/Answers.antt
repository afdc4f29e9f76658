use Rattle.std.proofs.Common.{◌≤◌, subst, sym}
use Rattle.ob_cache.proofs.Standings.{stands-with_edits}
use Rattle.ob_cache.specs.Stages.{Stages}
use Rattle.ob_schema.specs.Models.{HasModel}
use Rattle.ob_schema.specs.Tables.{next_of}
use Rattle.ob_cache.proofs.engine.Engine.stage.Goals as goal

pub returns-in-Ok-clause-staged : goal.returns-in-Ok-clause-staged
returns-in-Ok-clause-staged g c =
    λ at stands. stands-with_edits _ c.args.self.now.held c.stage.new.self at c.args.edits.now stands c.requires.usable c.in-Ok.ensures.staged c.laws.ensures.fits

pub returns-in-Ok-clause-next_ids : goal.returns-in-Ok-clause-next_ids
returns-in-Ok-clause-next_ids g c =
    let held = c.args.self.now.held in
    λ bound low makes up model has.
    subst (λ (h : Stages). HasModel h.models model → next_of h.staged model ≤ bound) (sym c.in-Ok.ensures.staged)
    (λ there. c.next_ids_after.ensures.bound held.models held.staged c.args.edits.now model bound (makes model) (up model there)) has
