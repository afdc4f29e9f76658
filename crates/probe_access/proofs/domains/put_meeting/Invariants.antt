use Rattle.std.proofs.Common.{◌≡◌}
use Rattle.probe_access.proofs.domains.put_meeting.Given as goal

-- the registry stays
abbrev pub invariant-loop-id : goal.invariant-loop-id
invariant-loop-id l = l.facts.schema.now ≡ l.fn.facts.schema.now
