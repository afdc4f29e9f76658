-- Next ids, and the ids that rows take.
use Rattle.std.specs.Prelude.{◌≤◌, ◌<◌, ℕ}
use Rattle.ob_base.specs.declared.id.ModelNo.{ModelNo}
use Rattle.ob_schema.specs.Tables.{Tables, next_of}

-- the next ids rose or stayed
abbrev pub NextIdsRise : (old new : Tables) → Type 0
NextIdsRise old new = (model : ModelNo) → next_of old model ≤ next_of new model

-- an id that a row of the model took
abbrev pub IsTaken : ModelNo → (old new : Tables) → ℕ → Type 0
IsTaken model old new id = (next_of old model ≤ id) × (id < next_of new model)
