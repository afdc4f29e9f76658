use Rattle.std.proofs.Common.{◌≡◌, take}
use Rattle.ob_tables.specs.After.{after}
use Rattle.ob_tables.proofs.tables.Tables.edit.Given as goal

-- the edits so far are carried out
abbrev pub invariant-loop-edit : goal.invariant-loop-edit
invariant-loop-edit l = record { models : l.self.models ≡ l.fn.self.models; done : l.self.tables ≡ after l.fn.self.models l.fn.self.tables (take l.edit-index l.edits) }
