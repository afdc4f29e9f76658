use Rattle.std.proofs.Common.{◌≡◌, map, take}
use Rattle.toml.specs.View.{view}
use Rattle.ob_module.specs.Meaning.{parent_from}
use Rattle.ob_module.proofs.definitions.parents_from.Given as goal

abbrev pub invariant-loop-pair : goal.invariant-loop-pair
invariant-loop-pair l = l.parents ≡ map (λ pair. parent_from (view pair)) (take l.pair-index l.pair-items)
