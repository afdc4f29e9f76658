-- The list has those so far behind its own.
use Rattle.std.proofs.Common.{◌≡◌, ◌++◌, take}
use Rattle.ob_effect.proofs.ids.push_each.Given as goal

abbrev pub invariant-loop-id : goal.invariant-loop-id
invariant-loop-id l = l.list ≡ l.fn.list ++ take l.id-index l.ids
