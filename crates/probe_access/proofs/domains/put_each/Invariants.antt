use Rattle.std.proofs.Common.{◌≡◌}
use Rattle.probe_access.proofs.domains.put_each.Given as goal

-- the registry stays
abbrev pub invariant-loop-domain : goal.invariant-loop-domain
invariant-loop-domain l = l.facts.schema.now ≡ l.fn.facts.schema.now
