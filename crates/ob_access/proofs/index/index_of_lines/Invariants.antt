-- What is listed, and what the lines that are left add to it, are the lines for what is asked.
use Rattle.std.proofs.Common.{◌≡◌, ◌++◌, drop, filter, map}
use Rattle.ob_base.specs.declared.id.ModelNo.{ModelNo}
use Rattle.ob_base.specs.declared.refusal.Op.{Op}
use Rattle.ob_access.specs.Index.{asks_for, list_at}
use Rattle.ob_access.specs.declared.policy.AccessLine.{AccessLine}
use Rattle.ob_access.proofs.index.index_of_lines.Given as goal

abbrev pub invariant-loop-line : goal.invariant-loop-line
invariant-loop-line l = (model : ModelNo) (op : Op) → list_at l.index model op ++ map (λ (line : AccessLine). line.group) (filter (λ (line : AccessLine). asks_for model op line.model line.ops) (drop l.line-index l.lines))
    ≡ map (λ (line : AccessLine). line.group) (filter (λ (line : AccessLine). asks_for model op line.model line.ops) l.lines)
