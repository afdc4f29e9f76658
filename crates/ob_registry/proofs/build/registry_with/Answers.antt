use Rattle.std.proofs.Common.{sym, ◌∙◌}
use Rattle.ob_registry.proofs.NothingFound.{resolved}
use Rattle.ob_registry.proofs.build.registry_with.Goals as goal

pub registry-requires : goal.registry-requires
registry-requires c =
    let none = sym c.into_fault.ensures ∙ c.in-None.is in
    record {
      resolved = resolved c.in_ok-models.models c.args.gathering.now c.in_ok-models.ensures c.args.first c.resolve.new.first c.requires.named c.requires.entered c.in_ok-formulas.ensures.faults none;
      formulas = c.in_ok-formulas.ensures.formulas;
      strata = c.in_ok-formulas.ensures.strata none;
    }
