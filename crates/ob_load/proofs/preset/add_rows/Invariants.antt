-- The rows so far and those of the groups that are left are all.
use Rattle.std.proofs.Common.{◌≡◌, ◌++◌, All, drop, map}
use Rattle.std.specs.List.{enumerate_from}
use Rattle.toml.specs.View.{view}
use Rattle.ob_load.specs.Rooms.{FitsAnywhere}
use Rattle.ob_load.proofs.GroupRowSteps.{numbered_row}
use Rattle.ob_load.proofs.preset.add_rows.Given as goal

abbrev pub invariant-loop-number : goal.invariant-loop-number
invariant-loop-number l =
    (l.rows ++ map (numbered_row l.schema l.model l.owner) (enumerate_from l.number (drop l.number (map view l.entries))) ≡ l.fn.rows ++ map (numbered_row l.schema l.model l.owner) (enumerate_from 0 (map view l.entries)))
    × (All (FitsAnywhere l.schema) l.fn.rows → All (FitsAnywhere l.schema) l.rows)
