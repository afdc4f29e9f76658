-- How far reading is, and that files tell what they told and have failed no less often.
use Rattle.std.proofs.Common.{◌≡◌, ◌≤◌}
use Rattle.ob_module.specs.Rooms.{modules_in}
use Rattle.ob_load.proofs.ReadingSteps.{IsReading}
use Rattle.ob_load.proofs.reading.read_modules.Given as goal

abbrev pub invariant-loop : goal.invariant-loop
invariant-loop g l = record {
  reading : IsReading (g.F.Files.texts l.fn.files) l.folder l.names (modules_in l.modules) l.coming l.counter;
  same : g.F.Files.texts l.files ≡ g.F.Files.texts l.fn.files;
  no_fall : g.F.Files.faults l.fn.files ≤ g.F.Files.faults l.files;
}
