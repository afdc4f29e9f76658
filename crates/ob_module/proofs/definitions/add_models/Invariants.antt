use Rattle.std.proofs.Common.{◌≡◌, ◌++◌, map, take}
use Rattle.toml.specs.View.{view}
use Rattle.ob_module.specs.Meaning.{model_from}
use Rattle.ob_module.proofs.definitions.add_models.Given as goal

abbrev pub invariant-loop-model : goal.invariant-loop-model
invariant-loop-model l = l.models ≡ l.fn.models ++ map (λ model. model_from (view model)) (take l.model-index l.model-items)
