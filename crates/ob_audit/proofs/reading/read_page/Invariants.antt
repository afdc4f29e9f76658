use Rattle.std.proofs.Common.{◌≡◌, take}
use Rattle.ob_audit.specs.Reading.{ReadsRows}
use Rattle.ob_audit.proofs.reading.read_page.Given as goal

-- the rows so far were read
abbrev pub invariant-loop-row : goal.invariant-loop-row
invariant-loop-row l = ReadsRows l.schema l.model l.next (λ read. read ≡ take l.row-index l.page) l.fn.rows l.rows
