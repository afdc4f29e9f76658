use Rattle.std.proofs.Common.{◌≡◌, ◌+◌, take, unwrap_or, count_by}
use Rattle.std.specs.BTreeMap as tree
use Rattle.std.specs.Ordering.{nat_cmp}
use Rattle.ob_base.specs.declared.id.RecId.{RecId}
use Rattle.ob_tables.proofs.Counted.{is_id}
use Rattle.ob_tables.proofs.cells.count_targets.Given as goal

-- each of the rows so far is counted
abbrev pub invariant-loop-target : goal.invariant-loop-target
invariant-loop-target l = (id : RecId) → unwrap_or (tree.get nat_cmp l.counts id.0) 0 ≡ unwrap_or (tree.get nat_cmp l.initial.counts id.0) 0 + count_by (is_id id) (take l.target-index l.targets)
