use Rattle.std.proofs.Common.{get_or, None}
use Rattle.std.proofs.lemmas.Option.{slice_get-get_or}
use Rattle.ob_tables.proofs.Stepping.{least-all, least-more}
use Rattle.ob_tables.proofs.forest.least_led_to.Goals as goal

pub loop-step-preserved : goal.loop-step-preserved
loop-step-preserved c =
    let steps = c.args.steps.now in
    let at = c.loop-step.step-index in
    let step = get_or steps at None in
    least-more steps at step c.loop-step.least c.least_of-least.result (slice_get-get_or steps at None c.loop-step-test.true) c.loop-step.invariant c.least_of-least.ensures

pub returns : goal.returns
returns c = least-all c.args.steps.now c.loop-step.step-index c.loop-step.least c.loop-step-test.false c.loop-step.invariant
