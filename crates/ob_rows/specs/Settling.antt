-- What stands against edits that are settled.
use Rattle.std.specs.Prelude.{◌≡◌, List, Option}
use Rattle.ob_base.specs.declared.refusal.Refusal.{Refusal}
use Rattle.ob_cache.specs.Stages.{Stages}
use Rattle.ob_cache.specs.Standing.{Holding, Stands}
use Rattle.ob_io.specs.Store.{Store}
use Rattle.ob_schema.specs.Broken.{IsBroken}
use Rattle.ob_schema.specs.Models.{HasField}
use Rattle.ob_schema.specs.Tables.{Tables}
use Rattle.ob_schema.specs.declared.info.ModelInfo.{ModelInfo}
use Rattle.ob_base.specs.declared.refusal.Refusal.TheVariants as refusal

-- the refusal is of something that these tables break
abbrev pub IsBrokenBy : List ModelInfo → Tables → Refusal → Type 0
IsBrokenBy models tables (refusal.Constraint b) = IsBroken models tables b
IsBrokenBy models tables _ = ⊥

-- the refusal is of something that is broken at a cell of the models
abbrev pub BreaksField : List ModelInfo → Refusal → Type 0
BreaksField models (refusal.Constraint b) = HasField models b.cell.model b.cell.field
BreaksField models _ = ⊥

-- an engine stands at stages whose first tables these are
abbrev pub KeepsTables : Option Store → Holding → Tables → Type 0
KeepsTables kept held tables = (at : Stages) × Stands kept held at × (at.models ≡ held.models) × (at.flushed ≡ tables)
