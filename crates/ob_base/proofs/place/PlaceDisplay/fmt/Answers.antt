-- The first step and the dotted rest are the whole text.
use Rattle.std.proofs.Common.{refl, ◌∙◌}
use Rattle.std.proofs.Output.{has_written_append, has_written_of_eq}
use Rattle.ob_base.proofs.Dotted.{path_text-parts}
use Rattle.ob_base.proofs.place.PlaceDisplay.fmt.Goals as goal

pub returns-after-loop-step-clause-writes : goal.returns-after-loop-step-clause-writes
returns-after-loop-step-clause-writes g c = λ plain _.
    let first = c.in_ok-write.ensures.writes plain refl in
    let rest = c.loop-step.invariant first.plain in
    let text = path_text-parts c.as_slice.result.now c.first-item.result c.loop-step.step-index c.in-len1-up.len_at_least c.first-item.is c.loop-step-test.false in
    has_written_of_eq _ _ _ _ _ (text ∙ rw (c.as_slice.ensures.value, c.self.view_is) refl) (has_written_append _ _ _ _ _ _ first rest)
