-- What the fields so far are given, and what those that are left are, is all.
use Rattle.toml.specs.View.{view}
use Rattle.ob_load.proofs.ValueSteps.{AreValuesTo}
use Rattle.ob_load.proofs.values.RowScope.values_in.Given as goal

abbrev pub invariant-loop-place : goal.invariant-loop-place
invariant-loop-place l = AreValuesTo l.self.scope.schema.now l.self.scope.groups.now l.self.first l.self.refs.now (view l.values) l.fields l.place l.given
