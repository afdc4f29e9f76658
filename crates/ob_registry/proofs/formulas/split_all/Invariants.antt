use Rattle.std.proofs.Common.{◌≡◌, map, take}
use Rattle.ob_schema.specs.Paths.{split_path}
use Rattle.ob_registry.specs.Telling.{names_in}
use Rattle.ob_registry.proofs.formulas.split_all.Given as goal

abbrev pub invariant-loop-path : goal.invariant-loop-path
invariant-loop-path l = names_in l.all.items ≡ map split_path (take l.path-index l.paths)
