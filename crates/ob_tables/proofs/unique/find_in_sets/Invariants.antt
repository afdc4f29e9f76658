use Rattle.ob_tables.specs.Sets.{SharesInSet}
use Rattle.ob_tables.proofs.Finds.{Before}
use Rattle.ob_tables.proofs.unique.find_in_sets.Given as goal

-- what shares one of the sets so far is found
abbrev pub invariant-loop-set : goal.invariant-loop-set
invariant-loop-set l = Before l.set-items (λ set. SharesInSet l.fn.tables.models l.fn.tables.tables l.fn.model set) l.set-index l.initial.findings l.findings
