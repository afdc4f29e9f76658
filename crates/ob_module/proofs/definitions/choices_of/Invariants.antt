use Rattle.std.proofs.Common.{◌≡◌, map, take}
use Rattle.toml.specs.View.{view}
use Rattle.ob_module.specs.Meaning.{choice_from}
use Rattle.ob_module.proofs.definitions.choices_of.Given as goal

abbrev pub invariant-loop-pair : goal.invariant-loop-pair
invariant-loop-pair l = l.choices ≡ map (λ pair. choice_from (view pair)) (take l.pair-index l.pair-items)
