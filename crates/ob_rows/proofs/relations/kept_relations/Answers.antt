-- One model more.
use Rattle.std.proofs.Common.{◌≤◌, List, length, arith, subst}
use Rattle.std.specs.Prelude.{Contains}
use Rattle.ob_rows.specs.declared.relations.KeptRelation.{KeptRelation}
use Rattle.ob_rows.proofs.RelationNumbers.{models-all, models-more, models-none}
use Rattle.ob_rows.proofs.relations.kept_relations.Goals as goal
use Rattle.ob_schema.proofs.CallerLemmas.{contains-none}

pub loop-place-init : goal.loop-place-init
loop-place-init c = models-none c.args.schema.now c.new-relations.result.items (λ r among. contains-none r (subst (λ (l : List KeptRelation). Contains l r) c.new-relations.ensures.items among))

pub loop-place-preserved : goal.loop-place-preserved
loop-place-preserved c = models-more c.args.schema.now c.loop-place.relations.items c.add_model.new.relations.items c.loop-place.place c.loop-place.invariant c.in_ok-add_model.ensures

pub returns : goal.returns
returns c =
    let few = c.parts_fit_together.ensures.few in
    let all : length c.args.schema.now ≤ c.loop-place.place = omega (arith, few, c.loop-place-test.false) in
    models-all c.args.schema.now c.loop-place.relations.items c.loop-place.place all c.loop-place.invariant
