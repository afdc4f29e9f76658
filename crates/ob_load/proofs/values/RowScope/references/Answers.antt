-- Item by item.
use Rattle.std.proofs.Common.{List, ℕ, ap}
use Rattle.ob_load.proofs.References.{rows_left}
use Rattle.ob_load.proofs.values.RowScope.references.Goals as goal

pub loop-item-init : goal.loop-item-init
loop-item-init c = let s = c.args.self.now in ap (λ (l : List ℕ). rows_left s.scope.schema.now s.scope.groups.now s.first s.refs.now c.args.field.now l c.args.items.now) c.new-rows.ensures.empty
