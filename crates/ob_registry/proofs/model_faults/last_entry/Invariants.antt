use Rattle.std.proofs.Common.{take}
use Rattle.ob_registry.proofs.LastEntry.{IsLast}
use Rattle.ob_registry.proofs.model_faults.last_entry.Given as goal

abbrev pub invariant-loop-member : goal.invariant-loop-member
invariant-loop-member l = IsLast (λ m. m.entry) (take l.member-index l.member-items) l.last
