-- What a checked expression means in a row, by what the cells hold. A form of the tree that is added has its value here.
use Rattle.std.specs.Prelude.{List, [], ◌∷◌, Option, Some, None, Result, Ok, Err, if◌then◌else◌, pos}
use Rattle.ob_base.specs.declared.id.Cell.{Cell}
use Rattle.ob_base.specs.declared.id.FieldNo.{FieldNo}
use Rattle.ob_base.specs.declared.id.ModelNo.{ModelNo}
use Rattle.ob_base.specs.declared.id.RecId.{RecId}
use Rattle.ob_base.specs.declared.value.Value.{Value}
use Rattle.ob_base.specs.declared.value.Value.TheVariants as value
use Rattle.ob_expr.specs.declared.kind.Kind.{Kind}
use Rattle.ob_expr.specs.declared.row.Row.{Row}
use Rattle.ob_expr.specs.declared.typed.Link.{Link}
use Rattle.ob_expr.specs.Chain.{and_then, each}
use Rattle.ob_expr.specs.Computing.{Lack, unread, fitted, joined_value, digits_value, is_true, prefixed_value, decides, operated_value, chosen_value, gathered_value}
use Rattle.ob_expr.specs.Kinds.{empty_value}
use Rattle.ob_expr.specs.Route.{Route}
use Rattle.ob_expr.specs.TypedTree.{TypedTree, TypedTrees, no_trees, one_more, row_id, integer, a_text, truth, unset, path, prefix, binary, chosen, choice, joined, digits, over, kind_of}

-- the row of a cell
abbrev pub row_of : Cell → Row
row_of cell = record { model = cell.model; id = cell.id }

-- the cell of a field in a row
abbrev pub cell_in : Row → FieldNo → Cell
cell_in row field = record { model = row.model; id = row.id; field = field }

-- the row of a model
abbrev pub row_at : ModelNo → RecId → Row
row_at model id = record { model = model; id = id }

-- the rows that a list names
abbrev pub ids_of : Value → List RecId
ids_of (value.Refs ids) = ids
ids_of _ = []

-- on to the row that a reference names, or no further
abbrev pub follow : {A : Type 0} → (RecId → A) → A → Value → A
follow next ended (value.Ref id) = next id
follow next ended _ = ended

-- the value of a cell, where it has one
abbrev pub value_at : Cell → Option Value → Result Value Lack
value_at cell (Some v) = Ok v
value_at cell None = Err (unread cell)

-- what each cell holds, where it has a value
module _ (held : Cell → Option Value) where
  -- the value at the end of links: behind an unset one stands nothing
  abbrev pub at_end : Row → List Link → FieldNo → Kind → Result Value Lack
  at_end row [] field k = value_at (cell_in row field) (held (cell_in row field))
  at_end row (link ∷ links) field k =
      and_then (value_at (cell_in row link.field) (held (cell_in row link.field))) (follow (λ id. at_end (row_at link.target id) links field k) (Ok (empty_value k)))

  -- the value of a path
  abbrev pub path_value : Row → Route → Result Value Lack
  path_value row route = at_end row route.links route.field route.kind

  -- the value of an expression in a row, or the first lack: operands are evaluated from the left, and those that decide nothing not at all
  abbrev mutual
    pub meaning : Row → TypedTree → Result Value Lack
    meaning row row_id = fitted (pos row.id.0)
    meaning row (integer n) = Ok (value.Int n)
    meaning row (a_text bytes) = Ok (value.Word bytes)
    meaning row (truth b) = Ok (value.Bool b)
    meaning row (unset k) = Ok value.Nil
    meaning row (path route) = path_value row route
    meaning row (prefix word inner) = and_then (meaning row inner) (prefixed_value word)
    meaning row (binary op left right) = and_then (meaning row left) (λ a. if decides op a then Ok a else and_then (meaning row right) (operated_value op a))
    meaning row (chosen which left right) = and_then (meaning row left) (λ a. and_then (meaning row right) (λ b. Ok (chosen_value which a b)))
    meaning row (choice condition first second) = and_then (meaning row condition) (λ c. if is_true c then meaning row first else meaning row second)
    meaning row (joined all) = and_then (values_of row all) joined_value
    meaning row (digits inner) = and_then (meaning row inner) (λ n. Ok (digits_value n))
    meaning row (over aggregate route target inner) = and_then (path_value row route) (λ targets. and_then (each (λ id. meaning (row_at target id) inner) (ids_of targets)) (gathered_value aggregate (kind_of inner)))

    -- a value for each part, or the first lack
    pub values_of : Row → TypedTrees → Result (List Value) Lack
    values_of row no_trees = Ok []
    values_of row (one_more tree rest) = and_then (meaning row tree) (λ v. and_then (values_of row rest) (λ vs. Ok (v ∷ vs)))
