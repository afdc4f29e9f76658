use Rattle.std.proofs.Common.{◌≡◌}
use Rattle.probe_access.proofs.row_facts.RowFacts.add_all.Given as goal

-- the registry stays
abbrev pub invariant-loop-row : goal.invariant-loop-row
invariant-loop-row l = l.self.schema.now ≡ l.fn.self.schema.now
