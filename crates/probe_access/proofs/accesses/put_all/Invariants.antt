use Rattle.std.proofs.Common.{◌≡◌}
use Rattle.probe_access.proofs.accesses.put_all.Given as goal

-- the registry stays
abbrev pub invariant-loop-question : goal.invariant-loop-question
invariant-loop-question l = l.facts.schema.now ≡ l.fn.facts.schema.now
