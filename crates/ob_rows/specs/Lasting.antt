-- Which rows no call deletes.
use Rattle.std.specs.Prelude.{◌≡◌, ◌==◌, ◌&&◌, ◌||◌, Bool, List, true, bytes_eq, codes, IsSomeAnd}
use Rattle.ob_base.specs.declared.id.RecId.{RecId}
use Rattle.ob_base.specs.declared.id.RowKey.{RowKey}
use Rattle.ob_schema.specs.Models.{model_at}
use Rattle.ob_schema.specs.declared.info.ModelInfo.{ModelInfo}

-- a row of a model is one of the places that Inventory names by their ids: vendors, customers, adjustments, scrap
abbrev pub is_stock_place : ModelInfo → RecId → Bool
is_stock_place info id = bytes_eq info.name (codes "stock.location") && (id.0 == 2 || id.0 == 3 || id.0 == 5 || id.0 == 7)

-- no call deletes a row: its model is managed, or it is such a place
abbrev pub Lasts : List ModelInfo → RowKey → Type 0
Lasts models row = IsSomeAnd (model_at models row.model) (λ info. (info.managed || is_stock_place info row.id) ≡ true)
