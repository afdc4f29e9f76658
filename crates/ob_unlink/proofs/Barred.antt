-- Refusals of rows that may not go.
use Rattle.std.proofs.Common.{List}
use Rattle.ob_base.specs.declared.id.RowKey.{RowKey}
use Rattle.ob_base.specs.declared.refusal.Refusal.{Refusal}
use Rattle.ob_base.specs.declared.refusal.Refusal.TheVariants as refusal
use Rattle.ob_cache.specs.Calls.{Refuses}
use Rattle.ob_unlink.specs.DeletionSteps.{BarsRow}
use Rattle.ob_schema.specs.Tables.{Tables}
use Rattle.ob_schema.specs.declared.info.ModelInfo.{ModelInfo}

pub bars-refuses : (models : List ModelInfo) (tables : Tables) (row : RowKey) (rose : Type 0) (w : Refusal) → BarsRow models tables row w → Refuses rose (BarsRow models tables row) w
bars-refuses models tables row rose (refusal.Constraint b) h = h
bars-refuses models tables row rose _ h = absurd h
