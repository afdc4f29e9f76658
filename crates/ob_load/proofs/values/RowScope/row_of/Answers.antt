use Rattle.ob_load.proofs.ValueSteps.{row-given}
use Rattle.ob_load.proofs.values.RowScope.row_of.Goals as goal

pub returns-clause-fit : goal.returns-clause-fit
returns-clause-fit c = let s = c.args.self.now in row-given s.scope.schema.now s.scope.groups.now s.first s.refs.now _ c.in_ok-values.ensures.fit
