-- One step more.
use Rattle.std.proofs.Common.{◌≡◌, ◌<◌, ◌≤◌, get_or, length, take, arith}
use Rattle.std.proofs.lemmas.Grind.{common_steps}
use Rattle.std.proofs.lemmas.List.{get_or_default}
use Rattle.ob_schema.specs.declared.info.Step.{Step}
use Rattle.ob_trigger.specs.declared.index.Reader.{Reader}
use Rattle.ob_trigger.proofs.Indexing.{OfFirst, adds-as, adds-none, adds-one, adds-then, first-all, first-more, first-none}
use Rattle.ob_trigger.proofs.building.add_path.Goals as goal

pub loop-place-init : goal.loop-place-init
loop-place-init c = adds-none c.args.index.now (OfFirst c.args.computed c.args.steps.now 0) (first-none c.args.computed c.args.steps.now)

pub loop-place-preserved : goal.loop-place-preserved
loop-place-preserved c =
    let place = c.loop-place.place in
    let steps = c.args.steps.now in
    let reader : Reader = record { computed = c.args.computed; front = c.in_ok-front.front } in
    let none : Step = record { model = record { 0 = 0 }; field = record { 0 = 0 } } in
    let step = get_or steps place none in
    let within : place < length steps = omega arith in
    let front : c.in_ok-front.front ≡ take place steps = grind (arith, common_steps, c.in_ok-front.ensures) in
    adds-as c.args.index.now c.add_reader.new.index _ _
    (adds-then c.args.index.now c.loop-place.index c.add_reader.new.index _ _ c.loop-place.invariant (adds-one c.loop-place.index c.add_reader.new.index step reader c.in_ok-add_reader.ensures))
    (first-more c.args.computed steps c.in_ok-front.front place step within (get_or_default steps place none step within) front)

pub returns : goal.returns
returns c =
    let all : length c.args.steps.now ≤ c.loop-place.place = omega arith in
    adds-as c.args.index.now c.loop-place.index _ _ c.loop-place.invariant (first-all c.args.computed c.args.steps.now c.loop-place.place all)
