-- The objects that calls tell of rows.
use Rattle.std.specs.Prelude.{◌≡◌, ℕ, List, Option, Some, None}
use Rattle.ob_base.specs.declared.id.ModelNo.{ModelNo}
use Rattle.ob_query.specs.Read.{IsLeastFailing, TellsRows}
use Rattle.ob_schema.specs.Facts.{Told}
use Rattle.ob_schema.specs.Fields.{Column}
use Rattle.serde_json.specs.Data.{Data, array}
use Rattle.serde_json.specs.View.{items_of}

-- the objects that tell of the rows of these ids in their order; or not all are known, and this is the least that isn't
abbrev pub AreFetched : Told → ModelNo → List Column → List ℕ → List Data → Option ℕ → Type 0
AreFetched told model fields ids objects None = TellsRows told model fields ids objects
AreFetched told model fields ids objects (Some id) = IsLeastFailing (told.knows model) ids id

-- the list of the objects that tell of the rows of these ids, in their order
abbrev pub ListsRows : Told → ModelNo → List Column → List ℕ → Data → Type 0
ListsRows told model fields ids json = (objects : List Data) × TellsRows told model fields ids objects × (json ≡ array (items_of objects))
