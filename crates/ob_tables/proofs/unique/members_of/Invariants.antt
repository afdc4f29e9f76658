use Rattle.std.proofs.Common.{take}
use Rattle.ob_tables.specs.Sets.{AreMembers}
use Rattle.ob_tables.proofs.unique.members_of.Given as goal

-- those of the rows so far
abbrev pub invariant-loop-id : goal.invariant-loop-id
invariant-loop-id l = AreMembers l.fn.tables.tables l.fn.model l.fn.set (take l.id-index l.ids) l.members.items
