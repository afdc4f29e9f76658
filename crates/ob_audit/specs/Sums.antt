-- What stands in stock of each product: the quantities of its quants together.
use Rattle.std.specs.Prelude.{◌≡◌, ◌==◌, ℕ, ℤ, pos, ◌+ℤ◌, List, [], ◌∷◌, Option, Some, None, option_map, option_and_then, if◌then◌else◌, codes, Bool, false}
use Rattle.std.specs.List.{filter_map, list_any}
use Rattle.std.specs.List.Sorted.{IsStrictlySortedBy}
use Rattle.std.specs.Map.{keys_of, lookup}
use Rattle.std.specs.Option.{option_map_or}
use Rattle.std.specs.Ordering.{is_eq, nat_cmp}
use Rattle.ob_base.specs.declared.id.FieldNo.{FieldNo}
use Rattle.ob_base.specs.declared.id.ModelNo.{ModelNo}
use Rattle.ob_base.specs.declared.id.RecId.{RecId}
use Rattle.ob_base.specs.declared.value.Value.{Value}
use Rattle.ob_base.specs.declared.value.Value.TheVariants as value
use Rattle.ob_audit.specs.declared.sums.QuantFields.{QuantFields}
use Rattle.ob_schema.specs.Built.{numbered}
use Rattle.ob_schema.specs.Fields.{is_plain_kept}
use Rattle.ob_schema.specs.Models.{field_named, fields_of, model_at, model_named}
use Rattle.ob_schema.specs.Plain.{plain_at}
use Rattle.ob_schema.specs.Tables.{Tables, ids_in}
use Rattle.ob_schema.specs.declared.info.ModelInfo.{ModelInfo}

-- whether a field of a model is plain and kept
abbrev pub is_plain_at : ModelInfo → FieldNo → Bool
is_plain_at info field = option_map_or is_plain_kept (numbered (fields_of info) field.0) false

-- the plain kept field of a name
abbrev pub plain_named : List ℕ → ModelInfo → Option FieldNo
plain_named name info = option_and_then (λ field. if is_plain_at info field then Some field else None) (field_named info.fields name)

-- the fields of a model of quants
abbrev pub quant_fields_in : ModelNo → ModelInfo → Option QuantFields
quant_fields_in model info =
    option_and_then (λ product. option_map (λ quantity. record { model = model; product = product; quantity = quantity }) (plain_named (codes "quantity") info)) (plain_named (codes "product_id") info)

-- the model `stock.quant` with its fields `product_id` and `quantity`, where the registry has them
abbrev pub quant_fields : List ModelInfo → Option QuantFields
quant_fields models = option_and_then (λ model. option_and_then (quant_fields_in model) (model_at models model)) (model_named models (codes "stock.quant"))

-- the product that a value names
abbrev pub product_from : Option Value → Option ℕ
product_from (Some (value.Ref id)) = Some id.0
product_from _ = None

-- the number that a value is; 0 of another one
abbrev pub quantity_from : Option Value → ℤ
quantity_from (Some (value.Int n)) = n
quantity_from _ = pos 0

-- a product with a quantity of it
abbrev pub Goods : Type 0
Goods = ℕ × ℤ

module _ (models : List ModelInfo) (tables : Tables) where
  abbrev pub quant_value : QuantFields → FieldNo → RecId → Option Value
  quant_value fields field id = plain_at tables models (record { model = fields.model; id = id; field = field })

  -- the goods of a quant; none where it names no product
  abbrev pub goods_of : QuantFields → RecId → Option Goods
  goods_of fields id = option_map (λ product. (product, quantity_from (quant_value fields fields.quantity id))) (product_from (quant_value fields fields.product id))

  -- the goods of all quants
  abbrev pub goods_in : List Goods
  goods_in = option_map_or (λ fields. filter_map (goods_of fields) (ids_in tables fields.model)) (quant_fields models) []

-- the sum of a product
abbrev pub sum_of : ℕ → List Goods → ℤ
sum_of product [] = pos 0
sum_of product (one ∷ goods) = if one.0 == product then one.1 +ℤ sum_of product goods else sum_of product goods

-- the sum of a product of which there are goods
abbrev pub total_of : List Goods → ℕ → Option ℤ
total_of goods product = if list_any (λ one. one.0 == product) goods then Some (sum_of product goods) else None

-- the products of which there are goods, rising, each with its sum
pub record AreTotals (goods totals : List Goods) : Type 0 where
  pub rising : IsStrictlySortedBy nat_cmp (keys_of totals)
  pub each : (product : ℕ) → lookup (λ other. is_eq (nat_cmp product other)) totals ≡ total_of goods product
