-- What `apply` tells of the tables that edits make.
use Rattle.std.specs.Prelude.{⊤, List, Option, Some, None}
use Rattle.ob_base.specs.declared.refusal.Broken.{Broken}
use Rattle.ob_schema.specs.declared.info.ModelInfo.{ModelInfo}
use Rattle.ob_tables.specs.declared.applying.ApplyFault.{ApplyFault}
use Rattle.ob_tables.specs.declared.applying.ApplyFault.TheVariants as apply
use Rattle.ob_schema.specs.Broken.{IsFirstBroken, Sound}
use Rattle.ob_schema.specs.Tables.{Tables}

module _ (models : List ModelInfo) (tables : Tables) where
  -- the fault of edits that make these tables: the first that they break, or want of memory
  abbrev pub FirstBroken : ApplyFault → Type 0
  FirstBroken (apply.Broken broken) = IsFirstBroken models tables broken
  FirstBroken apply.NoMemory = ⊤

  -- the first that is broken, or nothing where tables are sound
  abbrev pub IsFirstOrSound : Option Broken → Type 0
  IsFirstOrSound (Some broken) = IsFirstBroken models tables broken
  IsFirstOrSound None = Sound models tables
