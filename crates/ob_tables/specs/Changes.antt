-- What one edit changes of rows and of the lists that they make: its own row alone.
use Rattle.std.specs.Prelude.{◌≡◌, ◌<◌, ◌++◌, ℕ, ⊤, Bool, false, List, [], ◌∷◌, cond, filter, is_some, nat_lt}
use Rattle.std.specs.Option.{option_map_or}
use Rattle.ob_base.specs.declared.id.FieldNo.{FieldNo}
use Rattle.ob_base.specs.declared.id.ModelNo.{ModelNo}
use Rattle.ob_base.specs.declared.id.RecId.{RecId}
use Rattle.ob_base.specs.declared.id.RowKey.{RowKey}
use Rattle.ob_schema.specs.Plain.{names}
use Rattle.ob_schema.specs.Tables.{Tables, kept_in, key_of, row_at}
use Rattle.ob_tables.specs.declared.edit.Edit.{Edit}
use Rattle.ob_tables.specs.declared.edit.Edit.TheVariants as edit

-- the row that an edit makes, changes or takes out
abbrev pub edited_row : Edit → RowKey
edited_row (edit.Make model id values) = key_of model id
edited_row (edit.Set cell v) = key_of cell.model cell.id
edited_row (edit.Gone model id) = key_of model id

-- rising ids with one more in its place, or without it
abbrev pub with_id_if : Bool → RecId → List RecId → List RecId
with_id_if is_in id ids = filter (λ other. nat_lt other.0 id.0) ids ++ cond is_in (id ∷ []) [] ++ filter (λ other. nat_lt id.0 other.0) ids

-- whether a row is there
abbrev pub has_row : Tables → RowKey → Bool
has_row tables key = is_some (row_at tables key.model key.id)

-- whether a row is there whose field names another
abbrev pub row_names : Tables → RowKey → FieldNo → RecId → Bool
row_names tables key field id = option_map_or (λ row. names id (kept_in row field)) (row_at tables key.model key.id) false

-- a row of the model that an edit makes has an id below a bound
abbrev pub MakesBelow : ModelNo → ℕ → Edit → Type 0
MakesBelow model bound (edit.Make other id values) = other ≡ model → id.0 < bound
MakesBelow model bound _ = ⊤
