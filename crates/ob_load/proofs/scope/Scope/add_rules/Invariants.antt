-- The entries so far fit, and were added.
use Rattle.std.proofs.Common.{map}
use Rattle.toml.specs.View.{view}
use Rattle.ob_load.proofs.Entering.{RulesTo}
use Rattle.ob_load.proofs.scope.Scope.add_rules.Given as goal

abbrev pub invariant-loop-number : goal.invariant-loop-number
invariant-loop-number l = RulesTo l.self.schema.now l.self.groups.now l.self.owner.now l.fn.declared (map view l.entries) l.number l.declared
