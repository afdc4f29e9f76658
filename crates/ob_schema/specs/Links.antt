-- What links between rows tell: to which rows a cell leads, and which rows lead to a row, before edits and after them.
use Rattle.std.specs.Prelude.{◌≡◌, ◌==◌, Bool, true, false, List, [], ◌∷◌, cond, filter, is_some}
use Rattle.std.specs.List.{list_any}
use Rattle.std.specs.Option.{option_map_or}
use Rattle.ob_base.specs.declared.id.Cell.{Cell}
use Rattle.ob_base.specs.declared.id.FieldNo.{FieldNo}
use Rattle.ob_base.specs.declared.id.ModelNo.{ModelNo}
use Rattle.ob_base.specs.declared.id.RecId.{RecId}
use Rattle.ob_definition.specs.Types.{is_relation}
use Rattle.ob_schema.specs.Models.{field_at}
use Rattle.ob_schema.specs.Plain.{plain_at, targets_of}
use Rattle.ob_schema.specs.Tables.{Tables, ids_in, row_at}
use Rattle.ob_schema.specs.declared.info.FieldInfo.{FieldInfo}
use Rattle.ob_schema.specs.declared.info.ModelInfo.{ModelInfo}
use Rattle.ob_schema.specs.declared.info.Origin.{Origin}
use Rattle.ob_schema.specs.declared.info.Origin.TheVariants as origin
use Rattle.ob_schema.specs.declared.links.Side.{Side}
use Rattle.ob_schema.specs.declared.links.Side.TheVariants as side

-- the tables before edits and after them
pub record Sides : Type 0 where
  pub before : Tables
  pub behind : Tables

-- those of a side
abbrev pub tables_on : Sides → Side → Tables
tables_on sides side.Old = sides.before
tables_on sides side.New = sides.behind

-- the value is the row's id, or calls give it to a relation
abbrev pub leads_from : Origin → FieldInfo → Bool
leads_from origin.Id field = true
leads_from origin.Plain field = is_relation field.field_type
leads_from _ field = false

-- a field whose cells lead to rows: `id`, or a plain relation
abbrev pub Leads : FieldInfo → Type 0
Leads field = leads_from field.origin field ≡ true

module _ (models : List ModelInfo) (tables : Tables) where
  -- the rows to which a cell leads by where its value comes from: its own, or those that the value names
  abbrev pub led_from : Origin → Cell → List RecId
  led_from origin.Id cell = cond (is_some (row_at tables cell.model cell.id)) (cell.id ∷ []) []
  led_from _ cell = option_map_or targets_of (plain_at tables models cell) []

  -- the rows to which a cell leads; none where its row isn't there
  abbrev pub led_to : Cell → List RecId
  led_to cell = option_map_or (λ field. led_from field.origin cell) (field_at models cell.model cell.field) []

  -- the rows of a model whose cell of a field leads to a row, rising
  abbrev pub leading_to : ModelNo → FieldNo → RecId → List RecId
  leading_to model field target =
      filter (λ id. list_any (λ other. other.0 == target.0) (led_to (record { model = model; id = id; field = field }))) (ids_in tables model)
