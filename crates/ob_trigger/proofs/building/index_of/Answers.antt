-- One model more.
use Rattle.std.proofs.Common.{◌≤◌, length, arith}
use Rattle.ob_trigger.proofs.Indexing.{index-begun, index-more, models-all}
use Rattle.ob_trigger.proofs.building.index_of.Goals as goal

pub loop-place-init : goal.loop-place-init
loop-place-init c = index-begun c.args.schema.now c.new-index.result c.new-index.ensures.empty

pub loop-place-preserved : goal.loop-place-preserved
loop-place-preserved c = index-more c.args.schema.now c.loop-place.index c.add_model.new.index c.loop-place.place c.loop-place.invariant c.in_ok-add_model.ensures

pub returns : goal.returns
returns c = λ step reader.
    let few = c.parts_fit_together.ensures.few in
    let all : length c.args.schema.now ≤ c.loop-place.place = omega (arith, few, c.loop-place-test.false) in
    let is = models-all c.args.schema.now c.loop-place.place all step reader in
    let had = c.loop-place.invariant step reader in
    (λ among. is.0 (had.0 among), λ reads. had.1 (is.1 reads))
