-- Chains get shorter; the names that were passed are taken.
use Rattle.std.proofs.Common.{map, take}
use Rattle.toml.specs.View.{view}
use Rattle.ob_module.specs.Meaning.{text_of}
use Rattle.ob_load.specs.Rooms.{TakesOn}
use Rattle.ob_module.specs.Rooms.{modules_in}
use Rattle.ob_load.proofs.dependencies.+take.Given as goal

abbrev pub decreases-take : goal.decreases-take
decreases-take l = l.left

abbrev pub invariant-loop-other : goal.invariant-loop-other
invariant-loop-other l = TakesOn (modules_in l.modules) l.fn.taken.items (map (λ item. text_of (view item)) (take l.other-index l.other-items)) l.taken.items
