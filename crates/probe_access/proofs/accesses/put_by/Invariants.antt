use Rattle.std.proofs.Common.{◌≡◌}
use Rattle.probe_access.proofs.accesses.put_by.Given as goal

-- the registry stays
abbrev pub invariant-loop : goal.invariant-loop
invariant-loop l = l.facts.schema.now ≡ l.initial.facts.schema.now
