use Rattle.std.proofs.Common.{◌⊎◌}
use Rattle.ob_definition.proofs.CallerLemmas.{Adds-both}
use Rattle.ob_registry.specs.Graphs.{IsChainWrong, IsStepFault}
use Rattle.ob_registry.specs.Telling.{AreFormulaFaults, AreKeyFaults}
use Rattle.ob_registry.proofs.build.resolve.Goals as goal

pub returns : goal.returns
returns c =
    let models = c.args.models.now in
    let a = c.args.first.now in
    let b = c.key_faults.new.first in
    let d = c.formulas_of.new.first in
    let e = c.stratify.new.first in
    record {
      formulas = c.in_ok-stratify.ensures.formulas;
      strata = c.in_ok-stratify.ensures.strata;
      faults =
          Adds-both (AreKeyFaults models) (λ why. AreFormulaFaults models why ⊎ IsStepFault models (IsChainWrong models) why) a b e c.in_ok-key_faults.ensures
          (Adds-both (AreFormulaFaults models) (IsStepFault models (IsChainWrong models)) b d e c.in_ok-formulas.ensures.faults c.in_ok-stratify.ensures.faults);
    }
