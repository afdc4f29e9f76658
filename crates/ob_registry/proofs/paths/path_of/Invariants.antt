use Rattle.std.proofs.Common.{◌≡◌, length}
use Rattle.std.specs.Prelude.{IsSome}
use Rattle.ob_definition.specs.Members.{model_at}
use Rattle.ob_schema.specs.Paths.{path_from}
use Rattle.ob_registry.specs.Telling.{texts_in}
use Rattle.ob_registry.proofs.PathSteps.{behind}
use Rattle.ob_registry.proofs.paths.path_of.Given as goal

abbrev pub invariant-loop-rest : goal.invariant-loop-rest
invariant-loop-rest l = record {
  there : IsSome (model_at l.fn.models l.model.0);
  tells : path_from l.fn.models l.fn.number (texts_in l.fn.names) ≡ behind l.steps (path_from l.fn.models l.model (texts_in l.rest));
}

abbrev pub decreases-loop-rest : goal.decreases-loop-rest
decreases-loop-rest l = length l.rest
