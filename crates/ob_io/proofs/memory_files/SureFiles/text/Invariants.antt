-- No text that was passed has the name.
use Rattle.std.proofs.Common.{◌≡◌, drop}
use Rattle.ob_io.specs.MemoryFiles.{text_at, texts_in}
use Rattle.ob_io.proofs.memory_files.SureFiles.text.Given as goal

abbrev pub invariant-loop-own : goal.invariant-loop-own
invariant-loop-own l = text_at (texts_in (drop l.own-index l.own-items)) l.name ≡ text_at l.self l.name
