-- One cell more.
use Rattle.std.proofs.Common.{subst}
use Rattle.std.specs.Prelude.{All}
use Rattle.std.proofs.lemmas.List.{take_all}
use Rattle.std.proofs.lemmas.List.Elements.{All-more}
use Rattle.ob_base.specs.declared.id.Cell.{Cell}
use Rattle.ob_rows.proofs.CallerLemmas.{both_ways}
use Rattle.ob_unlink.specs.DeletionSteps.{IsRestricting}
use Rattle.ob_rows.specs.RowSets.{has_key}
use Rattle.ob_unlink.proofs.unlinking.barring.test_cells.Goals as goal

pub loop-cell-preserved : goal.loop-cell-preserved
loop-cell-preserved c =
    let none : Cell = record { model = record { 0 = 0 }; id = record { 0 = 0 }; field = record { 0 = 0 } } in
    All-more (λ (cell : Cell). IsRestricting c.args.schema.now (has_key c.args.rows.now) cell → ⊥) c.args.cells.now c.loop-cell.cell-index none c.loop-cell-test.true c.loop-cell.invariant
    (λ is. both_ways c.is_restricting.result (c.is_restricting.ensures.1 is) c.if-is_restricting.false)

pub returns-clause-ok : goal.returns-clause-ok
returns-clause-ok c =
    subst (All (λ (cell : Cell). IsRestricting c.args.schema.now (has_key c.args.rows.now) cell → ⊥)) (take_all c.loop-cell.cell-index c.args.cells.now c.loop-cell-test.false) c.loop-cell.invariant
