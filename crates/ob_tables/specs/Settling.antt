-- Private: which cells an evaluation must have settled before, and what it leaves behind.
use Rattle.std.specs.Prelude.{◌≡◌, ⊤, ℕ, zero, suc, List, [], ◌∷◌, true, Option, Some, None, IsSome, IfSome, IsSomeAnd, Result, Ok, Err}
use Rattle.std.specs.List.{flat_map}
use Rattle.std.specs.Result.{result_ok}
use Rattle.std.specs.BTreeMap as tree
use Rattle.ob_base.specs.BrokenOrder.{cell_order}
use Rattle.ob_base.specs.declared.id.Cell.{Cell}
use Rattle.ob_base.specs.declared.id.FieldNo.{FieldNo}
use Rattle.ob_base.specs.declared.id.RecId.{RecId}
use Rattle.ob_base.specs.declared.value.Value.{Value}
use Rattle.ob_base.specs.declared.value.Value.TheVariants as value
use Rattle.ob_expr.specs.declared.kind.Kind.{Kind}
use Rattle.ob_expr.specs.declared.row.Row.{Row}
use Rattle.ob_expr.specs.declared.typed.Link.{Link}
use Rattle.ob_expr.specs.Computing.{Lack, overflow, too_long, zero_divisor, unread}
use Rattle.ob_expr.specs.Kinds.{HasKind}
use Rattle.ob_expr.specs.Meaning.{cell_in, row_at as place_at, row_of}
use Rattle.ob_expr.specs.Reads.{IsAlong}
use Rattle.ob_expr.specs.TypedTree.{TypedTree, paths_of, typed_tree_of}
use Rattle.ob_schema.specs.declared.info.FieldInfo.{FieldInfo}
use Rattle.ob_schema.specs.declared.info.Formula.{Formula}
use Rattle.ob_schema.specs.declared.info.ModelInfo.{ModelInfo}
use Rattle.ob_schema.specs.declared.info.Origin.TheVariants as origin
use Rattle.ob_schema.specs.Models.{field_at, is_computed_from, kind_of_info}
use Rattle.ob_tables.specs.declared.outcome.Outcome.{Outcome}
use Rattle.ob_tables.specs.declared.outcome.Outcome.TheVariants as outcome
use Rattle.ob_tables.specs.declared.outcome.Reason.{Reason}
use Rattle.ob_tables.specs.declared.outcome.Reason.TheVariants as reason
use Rattle.ob_tables.specs.declared.outcome.Unread.{Unread}
use Rattle.ob_tables.specs.declared.outcome.Unread.TheVariants as fault
use Rattle.ob_tables.specs.declared.fault.ScratchFault.{ScratchFault}
use Rattle.ob_tables.specs.declared.fault.ScratchFault.TheVariants as scratch
use Rattle.ob_schema.specs.Plain.{plain_at}
use Rattle.ob_schema.specs.Plain.{targets_of}
use Rattle.ob_schema.specs.Tables.{Tables, row_at}
use Rattle.ob_schema.specs.Val.{formula_value, val}

-- the rows to which a cell leads by what it holds
abbrev pub rows_led : Option Value → List RecId
rows_led None = []
rows_led (Some v) = targets_of v

-- the row that a reference names, where it is set
abbrev pub row_named : Value → Option RecId
row_named (value.Ref id) = Some id
row_named _ = None

-- the cells at the end of links from a row
abbrev pub ends_along : (Cell → Option Value) → Row → List Link → FieldNo → List Cell
ends_along held row [] field = cell_in row field ∷ []
ends_along held row (link ∷ links) field = flat_map (λ id. ends_along held (place_at link.target id) links field) (rows_led (held (cell_in row link.field)))

-- those at the ends of all paths of an expression
abbrev pub ends_of : (Cell → Option Value) → Row → TypedTree → List Cell
ends_of held row typed = flat_map (λ route. ends_along held row route.links route.field) (paths_of typed)

-- values from scratch, as what stands in itself in proofs
unfoldable pub values_of : List ModelInfo → Tables → Cell → Result Value Lack
values_of models tables = val models tables

-- what each cell has, where it has a value
abbrev pub had_in : List ModelInfo → Tables → Cell → Option Value
had_in models tables cell = result_ok (values_of models tables cell)

-- what a cell lacks for this reason
abbrev pub lack_for : Reason → Lack
lack_for reason.Overflow = overflow
lack_for reason.TooLong = too_long
lack_for reason.ZeroDivisor = zero_divisor

-- why an outcome has no value
abbrev pub reason_of : Outcome → Option Reason
reason_of (outcome.Value v) = None
reason_of (outcome.Own why) = Some why
reason_of (outcome.Inherited why) = Some why

-- an outcome tells what a formula gives by these values
abbrev pub Tells : (Cell → Result Value Lack) → Outcome → Result Value Lack → Type 0
Tells values (outcome.Value v) given = given ≡ Ok v
Tells values (outcome.Own why) given = given ≡ Err (lack_for why)
Tells values (outcome.Inherited why) given = (other : Cell) × (given ≡ Err (unread other)) × (values other ≡ Err (lack_for why))

-- a value that it gives is of the field's kind
abbrev pub IsKinded : FieldInfo → Outcome → Type 0
IsKinded info (outcome.Value v) = (k : Kind) → kind_of_info info ≡ Some k → HasKind k v
IsKinded info _ = ⊤

-- the fault of a cell that has none of these values for this reason; it is of a row that is there
abbrev pub Lacks : Result Value Lack → ScratchFault → Type 0
Lacks had scratch.Missing = ⊥
Lacks had scratch.Overflow = had ≡ Err overflow
Lacks had scratch.TooLong = had ≡ Err too_long
Lacks had scratch.ZeroDivisor = had ≡ Err zero_divisor
Lacks had scratch.NoMemory = ⊤

-- what a cell holds after an evaluation that had this outcome; else its plain value
abbrev pub held_or : Option Outcome → Option Value → Option Value
held_or (Some (outcome.Value v)) plain = Some v
held_or None plain = plain
held_or _ plain = None

-- a read fails at a cell that holds nothing, or for want of memory
abbrev pub FailsAt : (Cell → Option Value) → Unread → Cell → Type 0
FailsAt held (fault.NoValue other) cell = (other ≡ cell) × (held cell ≡ None)
FailsAt held fault.NoMemory cell = ⊤

module _ (models : List ModelInfo) (tables : Tables) where
  -- what cells hold by these outcomes
  abbrev pub held_in : tree.BTreeMap Cell Outcome → Cell → Option Value
  held_in outcomes cell = held_or (tree.get cell_order outcomes cell) (plain_at tables models cell)

  -- the outcome is that of the cell's formula
  abbrev pub IsFormulaOutcome : Cell → Outcome → FieldInfo → Type 0
  IsFormulaOutcome cell o info =
      (formula : Formula) × (info.origin ≡ origin.Computed formula) × Tells (values_of models tables) o (formula_value (values_of models tables) formula info cell) × IsKinded info o

  -- the outcome is that of a computed cell of a row that is there
  abbrev pub IsOutcomeOf : Cell → Outcome → Type 0
  IsOutcomeOf cell o = IsSome (row_at tables cell.model cell.id) × IsSomeAnd (field_at models cell.model cell.field) (IsFormulaOutcome cell o)

  -- so is each
  abbrev pub AreOutcomes : tree.BTreeMap Cell Outcome → Type 0
  AreOutcomes outcomes = (cell : Cell) → IfSome (tree.get cell_order outcomes cell) (IsOutcomeOf cell)

  -- a formula computes the cell
  abbrev pub IsComputedCell : Cell → Type 0
  IsComputedCell cell = IsSomeAnd (field_at models cell.model cell.field) (λ info. is_computed_from info.origin ≡ true)

  -- if a formula computes the cell, its outcome is there
  abbrev pub IsSettled : tree.BTreeMap Cell Outcome → Cell → Type 0
  IsSettled outcomes cell = IsComputedCell cell → IsSome (tree.get cell_order outcomes cell)

  -- of a row that is there, a cell reads others in turn so many times at most
  unfoldable pub IsWithin : ℕ → Cell → Type 0
  IsWithin zero cell = ⊥
  IsWithin (suc n) cell =
      IsSome (row_at tables cell.model cell.id) → (info : FieldInfo) (formula : Formula) → field_at models cell.model cell.field ≡ Some info → info.origin ≡ origin.Computed formula
      → (other : Cell) → IsAlong (had_in models tables) (row_of cell) (typed_tree_of formula.typed) other → IsWithin n other

-- what stood stands
abbrev pub KeepsAll : tree.BTreeMap Cell Outcome → tree.BTreeMap Cell Outcome → Type 0
KeepsAll old new = (cell : Cell) → IsSome (tree.get cell_order old cell) → IsSome (tree.get cell_order new cell)
