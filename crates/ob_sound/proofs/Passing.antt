-- Where nothing is broken, all tests pass.
use Rattle.std.proofs.Common.{List}
use Rattle.ob_base.specs.declared.id.Cell.{Cell}
use Rattle.ob_base.specs.declared.refusal.BrokenKind.{BrokenKind}
use Rattle.ob_base.specs.declared.refusal.BrokenKind.TheVariants as kind
use Rattle.ob_schema.specs.Broken.{Sound}
use Rattle.ob_schema.specs.Links.{Sides}
use Rattle.ob_schema.specs.Tables.{Tables}
use Rattle.ob_schema.specs.Tied.{IsTied}
use Rattle.ob_schema.specs.declared.info.ModelInfo.{ModelInfo}
use Rattle.ob_sound.specs.EditsBreak.{EditsBreak}
use Rattle.ob_sound.specs.FormulasBreak.{FormulasPass}
use Rattle.ob_sound.proofs.Found.{depth_found, formulas_found, missing_found, shared_found, tree_found}

pub edits_pass : (models : List ModelInfo) (sides : Sides) → Sound models sides.behind → (broken : BrokenKind) (cell : Cell) → EditsBreak models sides broken cell → ⊥
edits_pass models sides sound kind.Required cell fails = sound (record { kind = kind.Required; cell = cell }) fails.1
edits_pass models sides sound kind.MissingRef cell fails = sound (record { kind = kind.MissingRef; cell = cell }) (missing_found models sides cell fails)
edits_pass models sides sound kind.Unique cell fails = sound (record { kind = kind.Unique; cell = cell }) (shared_found models sides cell fails)
edits_pass models sides sound kind.Tree cell fails = tree_found models sides cell fails sound
edits_pass models sides sound kind.Depth cell fails = depth_found models sides cell fails sound
edits_pass models sides sound kind.Limit cell fails = sound (record { kind = kind.Limit; cell = cell }) fails.1
edits_pass models sides sound _ cell fails = absurd fails

-- rows of tables in which nothing is broken can be followed
all_tied : (models : List ModelInfo) (tables : Tables) → Sound models tables → IsTied models tables
all_tied models tables sound = (
  λ cell is. sound (record { kind = kind.MissingRef; cell = cell }) is,
  λ cell is. sound (record { kind = kind.Tree; cell = cell }) is,
  λ cell is. sound (record { kind = kind.Depth; cell = cell }) is,
)

pub formulas_pass : (models : List ModelInfo) (tables : Tables) (cells : List Cell) → Sound models tables → FormulasPass models tables cells
formulas_pass models tables cells sound = λ broken cell among fails. sound (record { kind = broken; cell = cell }) (formulas_found models tables broken cell (all_tied models tables sound) fails)
