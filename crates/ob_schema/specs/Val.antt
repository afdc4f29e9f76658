-- The value of each cell from scratch, from what rows keep alone.
use Rattle.std.specs.Prelude.{◌≡◌, ◌*◌, ◌+◌, ℕ, zero, suc, List, IsSome, Result, Ok, Err}
use Rattle.std.specs.Option.{option_map_or}
use Rattle.std.specs.Result.{result_ok}
use Rattle.ob_base.specs.Limits.{max_stratum, max_tree_depth}
use Rattle.ob_base.specs.declared.id.Cell.{Cell}
use Rattle.ob_base.specs.declared.id.RecId.{RecId}
use Rattle.ob_base.specs.declared.value.Value.{Value}
use Rattle.ob_expr.specs.Chain.{and_then}
use Rattle.ob_expr.specs.Computing.{Lack, unread}
use Rattle.ob_expr.specs.Meaning.{follow, meaning, row_of, value_at}
use Rattle.ob_expr.specs.TypedTree.{typed_tree_of}
use Rattle.ob_schema.specs.declared.info.Delegation.{Delegation}
use Rattle.ob_schema.specs.declared.info.FieldInfo.{FieldInfo}
use Rattle.ob_schema.specs.declared.info.Formula.{Formula}
use Rattle.ob_schema.specs.declared.info.ModelInfo.{ModelInfo}
use Rattle.ob_schema.specs.declared.info.Origin.{Origin}
use Rattle.ob_schema.specs.declared.info.Origin.TheVariants as origin
use Rattle.ob_schema.specs.Models.{field_at}
use Rattle.ob_definition.specs.Values.{initial_value}
use Rattle.ob_schema.specs.Limited.{limited}
use Rattle.ob_schema.specs.Plain.{plain_at}
use Rattle.ob_schema.specs.Tables.{Tables, row_at}

-- what a formula means by what the others have, if its field can hold that
abbrev pub formula_value : (Cell → Result Value Lack) → Formula → FieldInfo → Cell → Result Value Lack
formula_value held formula info cell = limited info.field_type (meaning (λ other. result_ok (held other)) (row_of cell) (typed_tree_of formula.typed))

-- a cell that reads one without a value lacks what that one lacks
abbrev pub or_inherited : (Cell → Result Value Lack) → Result Value Lack → Result Value Lack
or_inherited held (Err (unread other)) = held other
or_inherited held meant = meant

module _ (models : List ModelInfo) (tables : Tables) where
  -- the cell behind a link, as a delegated field has it
  abbrev pub behind : Delegation → RecId → Cell
  behind at id = record { model = at.model; id = id; field = at.field }

  -- the value of a cell of a row that is there, by what the others have: what it keeps; what the row behind the link has; or what the formula means
  abbrev pub value_from : (Cell → Result Value Lack) → Origin → FieldInfo → Cell → Result Value Lack
  value_from held (origin.Delegated at) info cell =
      and_then (held (record cell { field = at.link })) (follow (λ id. held (behind at id)) (Ok (initial_value info.field_type)))
  value_from held (origin.Computed formula) info cell = or_inherited held (formula_value held formula info cell)
  value_from held _ info cell = value_at cell (plain_at tables models cell)

  -- one step of the value of a cell; nothing where its row isn't there
  abbrev pub value_by : (Cell → Result Value Lack) → Cell → Result Value Lack
  value_by held cell = option_map_or (λ row. option_map_or (λ info. value_from held info.origin info cell) (field_at models cell.model cell.field) (Err (unread cell))) (row_at tables cell.model cell.id) (Err (unread cell))

  -- so many steps
  abbrev pub value_in : ℕ → Cell → Result Value Lack
  value_in zero cell = Err (unread cell)
  value_in (suc n) cell = value_by (value_in n) cell

  -- as many as there can be: down the strata, and in each along a tree; behind a link one more
  abbrev pub enough : ℕ
  enough = max_tree_depth * (max_stratum + 1) + 2

  -- the value of a cell from scratch, or why it has none
  abbrev pub val : Cell → Result Value Lack
  val cell = value_in enough cell

-- the law of values from scratch, which says what they are without counting steps
abbrev pub IsVal : List ModelInfo → Tables → (Cell → Result Value Lack) → Type 0
IsVal models tables values = (cell : Cell) → values cell ≡ value_by models tables values cell

-- a function with this law agrees with values from scratch on the fields of rows that are there
abbrev pub AgreesOnRows : List ModelInfo → Tables → Type 0
AgreesOnRows models tables = (values : Cell → Result Value Lack) → IsVal models tables values
    → (cell : Cell) → IsSome (row_at tables cell.model cell.id) → IsSome (field_at models cell.model cell.field) → values cell ≡ val models tables cell

-- no field of a row that is there reads a cell that is none
abbrev pub ReadsNoneInVain : List ModelInfo → Tables → Type 0
ReadsNoneInVain models tables =
    (cell other : Cell) → IsSome (row_at tables cell.model cell.id) → IsSome (field_at models cell.model cell.field) → val models tables cell ≡ Err (unread other) → ⊥
