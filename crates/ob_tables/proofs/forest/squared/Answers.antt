use Rattle.std.proofs.Common.{◌∙◌, Option, ℕ, ap, sym, map, option_and_then}
use Rattle.std.proofs.lemmas.List.{take_all}
use Rattle.ob_tables.specs.Trees.{step_of}
use Rattle.ob_tables.proofs.Stepping.{squared-more, squared-steps, step-get}
use Rattle.ob_tables.proofs.forest.squared.Goals as goal
use Rattle.ob_tables.proofs.forest.squared.Goals.{in-Some, in-None}

pub loop-step-preserved : goal.loop-step-preserved
loop-step-preserved c =
    squared-more c.args.steps.now c.loop-step.squared.items c.push.new.self.items c.loop-step.step-index c.match-step.next c.loop-step-test.true c.in_ok-push.ensures.items c.loop-step.invariant
    (elim c.match-step.branch [
      | in-Some w ↦ w.next-is ∙ sym (step-get c.args.steps.now w.in-Some.place) ∙ ap (option_and_then (step_of c.args.steps.now)) (sym w.in-Some.is)
      | in-None w ↦ w.next-is ∙ ap (option_and_then (step_of c.args.steps.now)) (sym w.in-None.is)
    ])

pub returns : goal.returns
returns c =
    let twice = map (λ (step : Option ℕ). option_and_then (step_of c.args.steps.now) step) in
    squared-steps c.args.steps.now c.requires c.loop-step.squared.items (c.loop-step.invariant ∙ ap twice (take_all c.loop-step.step-index c.args.steps.now c.loop-step-test.false))
