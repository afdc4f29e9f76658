use Rattle.std.proofs.Common.{◌≡◌, ◌++◌, map}
use Rattle.ob_schema.specs.Plain.{naming}
use Rattle.ob_tables.proofs.tables.Tables.naming.Given as goal

-- the ids so far and those that are left are all
abbrev pub invariant-loop-holding : goal.invariant-loop-holding
invariant-loop-holding l = l.ids ++ map (λ entry. entry.0.holder) l.holding-iterator ≡ naming l.self.tables l.fn.model l.fn.field l.fn.id
