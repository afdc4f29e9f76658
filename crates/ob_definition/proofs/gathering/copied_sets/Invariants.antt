use Rattle.std.proofs.Common.{◌≡◌, map, take}
use Rattle.ob_definition.specs.ByName.{sets_of}
use Rattle.ob_definition.specs.Gathered.{set_at}
use Rattle.ob_definition.proofs.gathering.copied_sets.Given as goal

abbrev pub invariant-loop-set : goal.invariant-loop-set
invariant-loop-set l = sets_of l.copies.items ≡ map (λ set. set_at l.entry set.names) (sets_of (take l.set-index l.sets))
