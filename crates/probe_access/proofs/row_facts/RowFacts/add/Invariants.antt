use Rattle.std.proofs.Common.{◌≡◌}
use Rattle.probe_access.proofs.row_facts.RowFacts.add.Given as goal

-- the registry stays
abbrev pub invariant-loop-place : goal.invariant-loop-place
invariant-loop-place l = l.self.schema.now ≡ l.fn.self.schema.now
