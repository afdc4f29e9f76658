use Rattle.std.proofs.Common.{refl, ◌∙◌}
use Rattle.ob_cache.proofs.Questions.{asked-one, fails-behind, no-fall-itself, no-fall-then, stays-itself, stays-then}
use Rattle.ob_cache.proofs.engine.Engine.questions_are_questions.Goals as goal

pub returns-clause-asked : goal.returns-clause-asked
returns-clause-asked g c =
    asked-one _ (λ s. (refl, stays-itself _ _, no-fall-itself _)) (λ a b d one other. (other.0 ∙ one.0, stays-then _ _ _ _ _ _ one.1 other.1, no-fall-then _ _ _ one.2 other.2))

pub returns-clause-failed : goal.returns-clause-failed
returns-clause-failed g c = λ first now fault failed.
    (let (before, asked, fails) = failed in
    let one = asked-one _ (λ s. (refl, stays-itself _ _, no-fall-itself _))
    (λ a b d one other. (other.0 ∙ one.0, stays-then _ _ _ _ _ _ one.1 other.1, no-fall-then _ _ _ one.2 other.2)) first before asked in
    fails-behind _ _ _ _ _ _ _ one.1 one.2 fault fails)
