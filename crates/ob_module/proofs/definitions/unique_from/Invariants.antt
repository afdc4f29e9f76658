use Rattle.std.proofs.Common.{◌≡◌, map, take}
use Rattle.toml.specs.View.{view}
use Rattle.ob_module.specs.Meaning.{texts_of}
use Rattle.ob_module.proofs.definitions.unique_from.Given as goal

abbrev pub invariant-loop-set : goal.invariant-loop-set
invariant-loop-set l = l.sets ≡ map (λ set. texts_of (view set)) (take l.set-index l.set-items)
