use Rattle.std.proofs.Common.{◌^◌}
use Rattle.ob_tables.specs.Trees.{AreSteps}
use Rattle.ob_tables.proofs.forest.doubled.Given as goal

-- they are doubled so often
abbrev pub invariant-loop-done : goal.invariant-loop-done
invariant-loop-done l = AreSteps l.initial.doubled.items (2 ^ l.done) l.doubled.items
