use Rattle.std.proofs.Common.{rules}
use Rattle.std.proofs.lemmas.Iterator.{cases_from_all, YieldsList-from_slice}
use Rattle.ob_schema.specs.declared.info.Path.{Path}
use Rattle.ob_schema.specs.Strata.{IsToChildren}
use Rattle.ob_registry.proofs.SelfReading.{LeadsHere, leads-all}
use borrow.Author.Tests.{tests}
use Rattle.ob_registry.proofs.strata.reads_down.Goals as goal

pub returns : goal.returns
returns c =
    let Leads : Path → Type 0 = LeadsHere (IsToChildren c.args.models.now c.args.own.model) c.args.own in
    leads-all (IsToChildren c.args.models.now c.args.own.model) c.args.own c.args.paths.now c.all.result
    (cases_from_all _ _ _ Leads (λ path. Leads path → ⊥) c.all.ensures.ran (YieldsList-from_slice c.args.paths.now c.iter.ensures.rest) (λ x q k. search (rules, tests)) (λ x q k. search (rules, tests)))
