use Rattle.std.specs.List.Sorted.{IsStrictlySortedBy}
use Rattle.ob_shared.proofs.map.SharedMap.new.Goals as goal

pub invariant_of-result : goal.invariant_of-result
unfolding IsStrictlySortedBy
invariant_of-result g c = tt

pub returns-clause-ordered : goal.returns-clause-ordered
unfolding IsStrictlySortedBy
returns-clause-ordered g c = tt
