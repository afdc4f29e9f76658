-- One field more.
use Rattle.std.proofs.Common.{arith}
use Rattle.ob_rows.proofs.RelationNumbers.{fields-all, fields-more, fields-none}
use Rattle.ob_rows.proofs.relations.add_model.Goals as goal

pub loop-place-init : goal.loop-place-init
loop-place-init c = fields-none c.args.schema.now c.args.relations.now.items c.args.model

pub loop-place-preserved : goal.loop-place-preserved
loop-place-preserved c =
    fields-more c.args.schema.now c.args.relations.now.items c.loop-place.relations.items c.args.model c.loop-place.place c.loop-place.invariant c.add_field.new.relations.items c.in_ok-add_field.ensures

pub returns : goal.returns
returns c =
    fields-all c.args.schema.now c.args.relations.now.items c.loop-place.relations.items c.args.model c.loop-place.place c.loop-place.invariant
    (λ field there. let low = c.last_field-count.ensures field there in omega (arith, low, c.loop-place-test.false))
