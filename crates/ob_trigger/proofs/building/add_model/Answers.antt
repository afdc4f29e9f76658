-- One field more.
use Rattle.std.proofs.Common.{arith}
use Rattle.ob_trigger.proofs.Indexing.{OfFields, adds-as, adds-none, adds-then, fields-all, fields-more, fields-none}
use Rattle.ob_trigger.proofs.building.add_model.Goals as goal

pub loop-place-init : goal.loop-place-init
loop-place-init c = adds-none c.args.index.now (OfFields c.args.schema.now c.args.model 0) (fields-none c.args.schema.now c.args.model)

pub loop-place-preserved : goal.loop-place-preserved
loop-place-preserved c =
    adds-as c.args.index.now c.add_field.new.index _ _ (adds-then c.args.index.now c.loop-place.index c.add_field.new.index _ _ c.loop-place.invariant c.in_ok-add_field.ensures)
    (fields-more c.args.schema.now c.args.model c.loop-place.place)

pub returns : goal.returns
returns c = adds-as c.args.index.now c.loop-place.index _ _ c.loop-place.invariant
    (fields-all c.args.schema.now c.args.model c.loop-place.place (λ field there. let low = c.last_field-count.ensures field there in omega (arith, low, c.loop-place-test.false)))
