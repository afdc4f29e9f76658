-- The entries so far fit, and their rows were added.
use Rattle.std.proofs.Common.{map}
use Rattle.toml.specs.View.{view}
use Rattle.ob_load.proofs.Bringing.{AreRowsTo}
use Rattle.ob_load.proofs.scope.Scope.add_rows.Given as goal

abbrev pub invariant-loop-number : goal.invariant-loop-number
invariant-loop-number l = AreRowsTo l.self.schema.now l.self.groups.now l.self.owner.now l.fn.names l.fn.brought (map view l.entries) l.number l.names l.brought
