-- The law of values from scratch, by the laws of expressions.
use Rattle.std.proofs.Common.{◌≡◌, ◌+◌, ◌<◌, List, Some, arith}
use Rattle.ob_base.specs.Limits.{max_stratum}
use Rattle.ob_base.specs.declared.id.Cell.{Cell}
use Rattle.ob_schema.specs.declared.info.FieldInfo.{FieldInfo}
use Rattle.ob_schema.specs.declared.info.Formula.{Formula}
use Rattle.ob_schema.specs.declared.info.ModelInfo.{ModelInfo}
use Rattle.ob_schema.specs.declared.info.Origin.TheVariants as origin
use Rattle.ob_schema.specs.Models.{IsRegistry, field_at}
use Rattle.ob_schema.specs.Tied.{IsTied}
use Rattle.ob_schema.specs.Tables.{Fits, Tables}
use Rattle.ob_schema.specs.Val.{AgreesOnRows, IsVal, ReadsNoneInVain, enough, val}
use Rattle.ob_tables.proofs.KnownFields.{Field-at, Formula-at}
use Rattle.ob_tables.proofs.Settled.{only_steps, steps_give}
use Rattle.ob_tables.proofs.Expressions.{AreLaws}
use Rattle.ob_tables.proofs.Whole.{reads_none}

-- each stratum is within the limit
pub low_strata : (models : List ModelInfo) → IsRegistry models → (c : Cell) (f : FieldInfo) (formula : Formula) → field_at models c.model c.field ≡ Some f → f.origin ≡ origin.Computed formula
    → formula.stratum < max_stratum + 1
low_strata models registry c f formula at from = let low = (Formula-at models c.model c.field f formula (Field-at models c.model c.field f registry at) from).low in omega (arith, low)

module _ (laws : AreLaws) (models : List ModelInfo) (tables : Tables) (registry : IsRegistry models) (fits : Fits models tables) (tied : IsTied models tables) where
  -- values from scratch are one step of their definition over themselves
  pub is_val : IsVal models tables (val models tables)
  is_val = steps_give laws models tables registry fits tied (max_stratum + 1) (low_strata models registry) (enough models tables) (omega arith)

  -- so are no others
  pub only : AgreesOnRows models tables
  only values law cell row field = only_steps laws models tables registry fits tied (max_stratum + 1) (low_strata models registry) (enough models tables) (omega arith) values law cell

  -- and no cell of a row that is there reads one of a row that isn't
  pub whole : ReadsNoneInVain models tables
  whole cell other row field is = reads_none laws models tables registry tied fits (max_stratum + 1) (low_strata models registry) (enough models tables) (omega arith) cell other row field is
