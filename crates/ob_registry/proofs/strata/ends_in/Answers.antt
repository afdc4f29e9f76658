-- The last step is this one.
use Rattle.std.proofs.Common.{rules, arith, ◌≡◌, ◌↔◌, ◌-◌, true, Option, Some, List, length, ap, ◌∙◌}
use Rattle.std.specs.Prelude.{slice_get}
use Rattle.std.specs.Option.{option_eq}
use Rattle.std.proofs.lemmas.Bool.Decides.{nat_tests}
use Rattle.ob_schema.specs.declared.info.Step.{Step}
use Rattle.ob_schema.specs.contracts.info.StepPartialEq.TheImpl.{eq-value}
use Rattle.ob_registry.proofs.Ends.{ends_in}
use Rattle.ob_registry.proofs.strata.ends_in.Goals as goal

same_step : (a b : Step) → eq-value.it a b ≡ true ↔ (a ≡ b)
same_step a b = first_of (search rules, grind (arith, nat_tests))

pub returns : goal.returns
returns c =
    let found = c.eq.ensures ∙ ap (λ (o : Option Step). option_eq eq-value.it o (Some c.args.step)) (c.copied.ensures ∙ c.last.ensures.value ∙ ap (λ (l : List Step). slice_get l (length l - 1)) c.as_slice.ensures) in
    ends_in eq-value.it same_step c.args.path.now.steps c.args.step c.eq.result found
