-- Ids that rise are all below what is above their last one.
use Rattle.std.proofs.Common.{◌<◌, List, subst}
use Rattle.std.specs.Prelude.{All}
use Rattle.std.proofs.lemmas.Bool.{ltb-true}
use Rattle.ob_base.specs.declared.id.RecId.{RecId}
use Rattle.ob_effect.proofs.RisingSets.{above_last}
use Rattle.ob_effect.proofs.ids.is_past.Goals as goal

pub returns-in-Some : goal.returns-in-Some
returns-in-Some c = λ lower.
    let below : c.in-Some.last.now.0 < c.args.id.0 = ltb-true c.in-Some.last.now.0 c.args.id.0 lower in
    subst (λ (ids : List RecId). All (λ before. before.0 < c.args.id.0) ids) c.as_slice.ensures.same
    (above_last c.as_slice.result.now c.in-Some.last.now c.args.id c.as_slice.ensures.rising c.in-Some.ensures.item.1 below)
