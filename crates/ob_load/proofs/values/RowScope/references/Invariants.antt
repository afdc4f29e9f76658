-- The numbers so far, and those that the items left name, are all.
use Rattle.std.proofs.Common.{◌≡◌, drop, map}
use Rattle.toml.specs.View.{view}
use Rattle.ob_load.specs.Preset.{references, rising}
use Rattle.ob_load.proofs.References.{rows_left}
use Rattle.ob_load.proofs.values.RowScope.references.Given as goal

abbrev pub invariant-loop-item : goal.invariant-loop-item
invariant-loop-item l =
    rows_left l.self.scope.schema.now l.self.scope.groups.now l.self.first l.self.refs.now l.field l.rows.keys (drop l.item-index l.items)
    ≡ rising (references l.self.scope.schema.now l.self.scope.groups.now l.self.first l.self.refs.now l.field (map view l.items))
