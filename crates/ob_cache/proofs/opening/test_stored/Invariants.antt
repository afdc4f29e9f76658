use Rattle.std.proofs.Common.{◌≡◌, take, Ok}
use Rattle.std.specs.List.{AllByRecursion}
use Rattle.ob_schema.specs.Val.{val}
use Rattle.ob_cache.proofs.opening.test_stored.Given as goal

-- those so far are right
abbrev pub invariant-loop-cell : goal.invariant-loop-cell
invariant-loop-cell l = AllByRecursion (λ s. val l.whole.models l.whole.tables s.0 ≡ Ok s.1) (take l.cell-index l.stored)
