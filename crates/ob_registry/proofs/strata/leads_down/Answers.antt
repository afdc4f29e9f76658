use Rattle.std.proofs.Common.{◌-◌, List, length, take, sym, ◌∙◌, arith, rules}
use Rattle.std.proofs.lemmas.Iterator.{cases_from_all, YieldsList-from_slice}
use Rattle.ob_schema.specs.declared.info.Step.{Step}
use Rattle.ob_schema.specs.Strata.{IsToChildren}
use Rattle.ob_registry.proofs.SelfReading.{goes-all}
use borrow.Author.Tests.{tests}
use Rattle.ob_registry.proofs.strata.leads_down.Goals as goal

pub returns-then-not-is_empty : goal.returns-then-not-is_empty
returns-then-not-is_empty c =
    let Through : Step → Type 0 = IsToChildren c.args.models.now c.args.number in
    let front : List Step = take (length c.args.steps.now - 1) c.args.steps.now in
    goes-all Through c.args.steps.now c.all.result (omega (arith, c.in-len1-up.len_at_least)) (sym c.is_empty.ensures ∙ c.if-not-is_empty.true)
    (cases_from_all _ _ _ Through (λ s. Through s → ⊥) c.all.ensures.ran (YieldsList-from_slice front c.iter.ensures.rest) (λ x q k. search (rules, tests)) (λ x q k. search (rules, tests)))
