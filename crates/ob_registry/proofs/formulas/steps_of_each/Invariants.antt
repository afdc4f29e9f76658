use Rattle.std.proofs.Common.{◌≡◌, map, take}
use Rattle.ob_schema.specs.Paths.{steps_of_route}
use Rattle.ob_registry.specs.Telling.{steps_in}
use Rattle.ob_registry.proofs.formulas.steps_of_each.Given as goal

abbrev pub invariant-loop-path : goal.invariant-loop-path
invariant-loop-path l = steps_in l.made ≡ map (steps_of_route l.number) (take l.path-index l.paths)
