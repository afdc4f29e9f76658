use Rattle.std.proofs.Common.{ℕ, Option, subst}
use Rattle.std.specs.Prelude.{IsTrue}
use Rattle.ob_change.specs.TreeRows.{NoneSinks, StandsWell, TellsDepth}
use Rattle.ob_change.proofs.TreeEdits.{ok_on}
use Rattle.ob_change.proofs.TreeSteps.{depth-no_circle}
use Rattle.ob_change.proofs.trees.row_passes.Goals as goal

pub returns-in-Some-clause-pass : goal.returns-in-Some-clause-pass
returns-in-Some-clause-pass c =
    let models = c.args.tables.now.models in
    let tables = c.args.tables.now.tables in
    let cell = c.args.cell in
    let depth = subst (λ (o : Option ℕ). TellsDepth models tables cell o) c.in-Some.is c.in_ok-depth.ensures in
    ok_on c.none_sinks.result (λ passes. IsTrue passes → NoneSinks models tables cell) (λ passes. IsTrue passes → StandsWell models tables cell)
    (λ passes sinks is. record {
      circled = depth-no_circle models tables cell.model cell.field (c.depths_add.ensures.once models tables cell.model cell.field) c.in-Some.depth cell.id depth.0;
      none_sinks = sinks is;
    }) c.none_sinks.ensures.pass
