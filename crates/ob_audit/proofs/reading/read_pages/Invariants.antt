use Rattle.std.proofs.Common.{◌≡◌, ◌≤◌, ◌-◌, ◌^◌}
use Rattle.ob_audit.specs.Reading.{ReadsRows, TellsUpTo}
use Rattle.ob_io.specs.Store.{Fits63}
use Rattle.ob_audit.proofs.reading.read_pages.Given as goal

-- the rows up to an id were read
abbrev pub invariant-loop-page : goal.invariant-loop-page
invariant-loop-page g l =
    let keeper = g.K.Keeper in
    record {
      read : ReadsRows l.schema l.model l.next (TellsUpTo (keeper.kept l.fn.keeper) l.model l.after) l.fn.rows l.rows;
      same : keeper.kept l.keeper ≡ keeper.kept l.fn.keeper;
      count : keeper.faults l.fn.keeper ≤ keeper.faults l.keeper;
      fits : Fits63 l.after.0;
    }

-- how far the id may rise
abbrev pub decreases-loop-page : goal.decreases-loop-page
decreases-loop-page g l = 2 ^ 63 - l.after.0
