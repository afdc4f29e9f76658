use Rattle.std.proofs.Common.{List, rules, tests}
use Rattle.std.proofs.lemmas.Iterator.{YieldsList-from_slice, cases_from_any}
use Rattle.ob_schema.specs.declared.info.Path.{Path}
use Rattle.ob_schema.specs.declared.info.Step.{Step}
use Rattle.ob_schema.specs.Paths.{BeginsWith}
use Rattle.ob_schema.proofs.CallerLemmas.{Any-answered}
use Rattle.ob_registry.proofs.formulas.is_covered.Goals as goal

pub returns : goal.returns
returns c =
    Any-answered (λ (p : Path). p.steps) (λ (steps : List Step). BeginsWith steps c.args.read.now.steps) c.args.paths.now c.any.result
    (cases_from_any _ _ c.any.result (λ (p : Path). BeginsWith p.steps c.args.read.now.steps) (λ (p : Path). BeginsWith p.steps c.args.read.now.steps → ⊥) c.any.ensures.ran (YieldsList-from_slice c.args.paths.now cc)
    (λ x q k. search (rules, tests)) (λ x q k. search (rules, tests)))
