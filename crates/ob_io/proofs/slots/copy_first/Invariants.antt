use Rattle.std.proofs.Common.{◌≡◌, ◌≤◌, ◌++◌, length}
use Rattle.std.specs.List.{filter_map}
use Rattle.ob_io.proofs.slots.copy_first.Given as goal

-- the rows so far and those in the slots that are left are all, and they are not too many
abbrev pub invariant-loop-slot : goal.invariant-loop-slot
invariant-loop-slot l = record {
  all : l.rows ++ filter_map (λ e. e.1) l.slot-iterator ≡ filter_map (λ e. e.1) l.fn.slots;
  few : length l.rows ≤ l.most;
}
