-- The names that were passed were read; each pass leaves one less.
use Rattle.std.proofs.Common.{length}
use Rattle.ob_module.specs.Rooms.{modules_in}
use Rattle.ob_load.proofs.Passing.{PassedTo}
use Rattle.ob_load.proofs.reading.next_unread.Given as goal

abbrev pub invariant-loop-name : goal.invariant-loop-name
invariant-loop-name l = PassedTo (modules_in l.modules) l.fn.coming l.coming

abbrev pub decreases-loop-name : goal.decreases-loop-name
decreases-loop-name l = length l.coming
