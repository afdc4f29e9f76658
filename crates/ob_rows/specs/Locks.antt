-- Which rows are locked, and by which of its cells a locked row is told.
use Rattle.std.specs.Prelude.{◌≡◌, ◌+◌, ◌||◌, suc, List, length, codes, bytes_eq, position, true, if◌then◌else◌, Option, None, option_map, option_and_then, IsSomeAnd, Ok}
use Rattle.std.specs.Option.{option_or}
use Rattle.ob_base.specs.declared.id.FieldNo.{FieldNo}
use Rattle.ob_base.specs.declared.id.RowKey.{RowKey}
use Rattle.ob_base.specs.declared.value.Value.TheVariants as value
use Rattle.ob_schema.specs.Models.{field_named, model_at}
use Rattle.ob_schema.specs.Tables.{Tables}
use Rattle.ob_schema.specs.Val.{val}
use Rattle.ob_schema.specs.declared.info.ModelInfo.{ModelInfo}

-- the condition that locks rows of a model, where it has one; conditions are numbered behind the named fields
abbrev pub locking_field : ModelInfo → Option FieldNo
locking_field info = option_map (λ i. record { 0 = length info.fields + suc i }) (position (λ field. bytes_eq field.name (codes "locked")) info.hidden)

-- the condition is true of a row
abbrev pub IsLocked : List ModelInfo → Tables → RowKey → Type 0
IsLocked models tables row =
    IsSomeAnd (option_and_then locking_field (model_at models row.model)) (λ field. val models tables (record { model = row.model; id = row.id; field = field }) ≡ Ok (value.Bool true))

-- the state of a picking or a move of stock
abbrev pub state_field : ModelInfo → Option FieldNo
state_field info = if bytes_eq info.name (codes "stock.picking") || bytes_eq info.name (codes "stock.move") then field_named info.fields (codes "state") else None

-- the field by which a locked row is told: the state where the model has one that counts, else the id
abbrev pub told_field : ModelInfo → Option FieldNo
told_field info = option_or (state_field info) (field_named info.fields (codes "id"))
