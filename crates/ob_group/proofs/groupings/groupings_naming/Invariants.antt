use Rattle.std.proofs.Common.{◌≡◌, map, take}
use Rattle.ob_schema.specs.Paths.{step_at}
use Rattle.ob_group.proofs.groupings.groupings_naming.Given as goal

abbrev pub invariant-loop-grouping : goal.invariant-loop-grouping
invariant-loop-grouping l = l.fields.items ≡ map (λ g. step_at l.model g.field) (take l.grouping-index l.written.groupings.items)
