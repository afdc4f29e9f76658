-- The value of each cell that no expression gives: what a row keeps, its id, and the lists that other rows make.
use Rattle.std.specs.Prelude.{◌-◌, ◌==◌, ◌^◌, List, [], ◌∷◌, filter, map, min, Bool, false, Option, Some, None, option_and_then, pos}
use Rattle.std.specs.List.{list_any}
use Rattle.std.specs.Option.{option_map_or}
use Rattle.ob_base.specs.declared.id.Cell.{Cell}
use Rattle.ob_base.specs.declared.id.FieldNo.{FieldNo}
use Rattle.ob_base.specs.declared.id.ModelNo.{ModelNo}
use Rattle.ob_base.specs.declared.id.RecId.{RecId}
use Rattle.ob_base.specs.declared.value.Value.{Value}
use Rattle.ob_base.specs.declared.value.Value.TheVariants as value
use Rattle.ob_schema.specs.declared.info.FieldInfo.{FieldInfo}
use Rattle.ob_schema.specs.declared.info.ModelInfo.{ModelInfo}
use Rattle.ob_schema.specs.declared.info.Origin.{Origin}
use Rattle.ob_schema.specs.declared.info.Origin.TheVariants as origin
use Rattle.ob_schema.specs.Models.{field_at}
use Rattle.ob_schema.specs.Tables.{PlainRow, Tables, kept_in, row_at, rows_in}

-- the rows that a value names
abbrev pub targets_of : Value → List RecId
targets_of (value.Ref id) = id ∷ []
targets_of (value.Refs ids) = ids
targets_of _ = []

-- whether a value names a row: as the one of a many2one, or among those of a many2many
abbrev pub names : RecId → Value → Bool
names id (value.Ref other) = other.0 == id.0
names id (value.Refs ids) = list_any (λ other. other.0 == id.0) ids
names id _ = false

-- an id as an integer; the greatest one stands for those past it, which are past the limit of ids too
abbrev pub id_value : RecId → Value
id_value id = value.Int (pos (min id.0 (2 ^ 63 - 1)))

module _ (tables : Tables) where
  -- the rows of a model whose field names a row, rising
  abbrev pub naming : ModelNo → FieldNo → RecId → List RecId
  naming model field id = map (λ entry. entry.0) (filter (λ entry. names id (kept_in entry.1 field)) (rows_in tables model))

  -- those in the model that a relation leads to
  abbrev pub naming_back : Option ModelNo → FieldNo → RecId → Value
  naming_back model field id = value.Refs (option_map_or (λ target. naming target field id) model [])

  -- the value of a plain field: of a one2many and of a mirror the rows that name this one by the field back
  abbrev pub plain_by : Option FieldNo → Option FieldNo → FieldInfo → FieldNo → RecId → PlainRow → Value
  plain_by (Some inverse) mirror info field id row = naming_back info.relation inverse id
  plain_by None (Some mirror) info field id row = naming_back info.relation mirror id
  plain_by None None info field id row = kept_in row field

  -- by where the field's value comes from; none of a field that has it from elsewhere
  abbrev pub plain_from : Origin → FieldInfo → FieldNo → RecId → PlainRow → Option Value
  plain_from origin.Id info field id row = Some (id_value id)
  plain_from origin.Plain info field id row = Some (plain_by info.inverse info.mirror info field id row)
  plain_from _ info field id row = None

  -- the value of a plain cell; none where its row isn't there
  abbrev pub plain_at : List ModelInfo → Cell → Option Value
  plain_at models cell =
      option_and_then (λ info. option_and_then (plain_from info.origin info cell.field cell.id) (row_at tables cell.model cell.id)) (field_at models cell.model cell.field)
