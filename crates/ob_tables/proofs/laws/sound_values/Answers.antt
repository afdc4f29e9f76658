use Rattle.ob_schema.specs.Val.{enough}
use Rattle.ob_tables.proofs.TypedValues.{computed-held}
use Rattle.ob_tables.proofs.Valued.{each-valued}
use Rattle.ob_tables.proofs.laws.sound_values.Goals as goal

pub returns-clause-valued : goal.returns-clause-valued
returns-clause-valued c =
    λ models tables registry sound cell row field. each-valued (record { along = c.reads_along_paths.ensures.meaning; lacks = c.reads_along_paths.ensures.lacks }) models tables registry sound cell row field

pub returns-clause-typed : goal.returns-clause-typed
returns-clause-typed c =
    λ models tables registry sound cell info at computed v is native. computed-held (record { along = c.reads_along_paths.ensures.meaning; lacks = c.reads_along_paths.ensures.lacks }) c.values_of_kinds.ensures c.values_from_cells.ensures
    models tables registry sound.fits (enough models tables) cell info v at computed is native
