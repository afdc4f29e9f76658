-- The count doesn't fall, and the bytes are no more than a module may have.
use Rattle.std.proofs.Common.{◌≤◌, length}
use Rattle.ob_io.proofs.host_files.DiskFilesFiles.read_file.Given as goal

abbrev pub invariant-loop : goal.invariant-loop
invariant-loop g l = record {
  no_fall : l.fn.self ≤ l.self;
  few : length l.bytes.items ≤ 1048576;
}
