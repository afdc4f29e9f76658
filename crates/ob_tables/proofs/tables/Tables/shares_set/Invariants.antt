use Rattle.std.proofs.Common.{map}
use Rattle.ob_base.specs.declared.id.RecId.{RecId}
use Rattle.ob_schema.specs.Broken.{SharesWith}
use Rattle.ob_tables.proofs.NamedBack.{Stands}
use Rattle.ob_tables.proofs.tables.Tables.shares_set.Given as goal

-- each row that shares the set is among those that are left
abbrev pub invariant-loop-entry : goal.invariant-loop-entry
invariant-loop-entry l = (other : RecId) → SharesWith l.self.models l.self.tables l.fn.model l.fn.set l.fn.id other → Stands other (map (λ entry. entry.0.id) l.entry-iterator)
