-- The rows of the groups of the modules that were passed.
use Rattle.std.proofs.Common.{◌≡◌, All, List, take}
use Rattle.ob_load.specs.Preset.{group_rows}
use Rattle.ob_module.specs.Modules.{Module, numbered}
use Rattle.ob_load.specs.Rooms.{FitsAnywhere}
use Rattle.ob_module.specs.Rooms.{modules_in}
use Rattle.ob_load.proofs.preset.rows_of.Given as goal

abbrev pub invariant-loop-number : goal.invariant-loop-number
invariant-loop-number l = ((all : List Module) → numbered (modules_in l.modules) l.taken all → l.rows ≡ group_rows l.schema (take l.number-index all)) × All (FitsAnywhere l.schema) l.rows
