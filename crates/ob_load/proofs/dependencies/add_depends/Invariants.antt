-- The names that were passed are added.
use Rattle.std.proofs.Common.{map, take}
use Rattle.toml.specs.View.{view}
use Rattle.ob_module.specs.Meaning.{text_of}
use Rattle.ob_module.specs.Rooms.{modules_in}
use Rattle.ob_load.proofs.Adding.{Adds}
use Rattle.ob_load.proofs.dependencies.add_depends.Given as goal

abbrev pub invariant-loop-name : goal.invariant-loop-name
invariant-loop-name l = Adds (modules_in l.modules) (map (λ item. text_of (view item)) (take l.name-index l.name-items)) l.fn.reached.items l.reached.items
