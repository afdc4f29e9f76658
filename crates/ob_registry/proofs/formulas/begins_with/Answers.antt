use Rattle.std.proofs.Common.{List, drop, length, refl, subst}
use Rattle.std.specs.Prelude.{◌↔◌, IsTrue}
use Rattle.std.proofs.lemmas.Slice.Eq.{starts_is}
use Rattle.ob_schema.specs.declared.info.Step.{Step}
use Rattle.ob_schema.specs.Paths.{BeginsWith}
use Rattle.ob_registry.proofs.StepTests.{step_decides}
use Rattle.ob_registry.proofs.formulas.begins_with.Goals as goal

pub returns : goal.returns
returns c =
    let path = c.as_slice.result.now in
    let front = c.as_slice-2.result.now in
    let w = starts_is (step_decides _ (λ a b. refl)) path front c.starts_with.result c.starts_with.ensures.value in
    subst (λ (s : List Step). IsTrue c.starts_with.result ↔ BeginsWith s c.args.front.now.steps) c.as_slice.ensures
    (subst (λ (s : List Step). IsTrue c.starts_with.result ↔ BeginsWith path s) c.as_slice-2.ensures (λ e. (drop (length front) path, w.0 e), λ b. w.1 b.0 b.1))
