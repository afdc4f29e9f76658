-- The names that were passed are taken, behind those that are taken in any case.
use Rattle.std.proofs.Common.{[], ◌∷◌, take}
use Rattle.std.specs.Prelude.{codes}
use Rattle.ob_load.specs.Rooms.{TakesOn}
use Rattle.ob_module.specs.Rooms.{modules_in}
use Rattle.ob_load.proofs.dependencies.in_order.Given as goal

abbrev pub invariant-loop-name : goal.invariant-loop-name
invariant-loop-name l = TakesOn (modules_in l.modules) [] (codes "base" ∷ codes "stock" ∷ take l.name-index l.names) l.taken.items
