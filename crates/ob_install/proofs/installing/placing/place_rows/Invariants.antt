-- The rows so far are placed.
use Rattle.std.proofs.Common.{◌≡◌}
use Rattle.ob_install.proofs.PlacedRows.{MadeSo, count_of}
use Rattle.ob_install.proofs.installing.placing.place_rows.Given as goal
use Rattle.ob_install.specs.InstallSteps.{ArePlaced}
use Rattle.ob_orm.specs.NewRowSteps.{HoldsNextIds}
use Rattle.ob_schema.specs.Tables.{empty_tables}

abbrev pub invariant-loop-row : goal.invariant-loop-row
invariant-loop-row l = record {
  fit : ArePlaced l.maker.schema.now l.placed;
  rows : l.placed.rows.now ≡ l.rows;
  count : count_of l.placed ≡ l.row-index;
  made : HoldsNextIds l.maker.schema.now (empty_tables l.maker.schema.now) l.fn.making → MadeSo l.maker.schema.now l.maker.author l.rows l.placed;
}
