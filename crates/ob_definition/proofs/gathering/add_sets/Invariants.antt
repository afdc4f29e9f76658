use Rattle.std.proofs.Common.{◌≡◌, ◌++◌, map, take}
use Rattle.ob_definition.specs.ByName.{sets_of}
use Rattle.ob_definition.specs.Gathered.{set_at}
use Rattle.ob_definition.proofs.gathering.add_sets.Given as goal

abbrev pub invariant-loop-names : goal.invariant-loop-names
invariant-loop-names l = sets_of l.sets.items ≡ sets_of l.initial.sets.items ++ map (set_at l.entry) (take l.names-index l.given)
