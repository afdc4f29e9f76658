-- Private: which rows name which, as an index of all rows has it.
use Rattle.std.specs.Prelude.{◌≡◌, ◌≢◌, ◌==◌, ℕ, List, ◌∷◌, [], Bool, false, cond, Option, Some, None, is_some, unwrap_or}
use Rattle.std.specs.List.{list_any}
use Rattle.std.specs.Option.{option_map_or}
use Rattle.std.specs.Ordering.{eq_by_cmp, nat_cmp, on, then_cmp}
use Rattle.std.specs.declared.cmp.Ordering.{Ordering}
use Rattle.std.specs.FinMap as finite
use Rattle.std.specs.BTreeMap as tree
use Rattle.ob_base.specs.Ids.{row_key_cmp}
use Rattle.ob_base.specs.declared.id.Cell.{Cell}
use Rattle.ob_base.specs.declared.id.FieldNo.{FieldNo}
use Rattle.ob_base.specs.declared.id.RecId.{RecId}
use Rattle.ob_base.specs.declared.id.RowKey.{RowKey}
use Rattle.ob_base.specs.declared.value.Value.{Value}
use Rattle.ob_base.specs.declared.value.Value.TheVariants as value
use Rattle.ob_schema.specs.Plain.{names}
use Rattle.ob_schema.specs.Tables.{Tables, key_of}
use Rattle.ob_tables.specs.Rooms.{shown_rows}
use Rattle.ob_tables.specs.declared.holdings.Holding.{Holding}
use Rattle.ob_tables.specs.declared.holdings.Step.{Step}
use Rattle.ob_tables.specs.declared.holdings.Step.TheVariants as step

-- rows as the program has them
abbrev pub RowMap : Type 0
RowMap = tree.BTreeMap RowKey (tree.BTreeMap ℕ Value)

-- by model, then field, then the row that is named, then the one that names it
abbrev pub holding_order : Holding → Holding → Ordering
holding_order =
    then_cmp (on (λ h. h.model.0) nat_cmp) (then_cmp (on (λ h. h.field.0) nat_cmp) (then_cmp (on (λ h. h.target.0) nat_cmp) (on (λ h. h.holder.0) nat_cmp)))

-- the cell by which a row names another, and the row
abbrev pub cell_of : Holding → Cell
cell_of h = record { model = h.model; id = h.holder; field = h.field }

abbrev pub row_of : Holding → RowKey
row_of h = key_of h.model h.holder

-- a row names another by a field, as its cell does
abbrev pub holding_at : RowKey → FieldNo → RecId → Holding
holding_at key field target = record { model = key.model; field = field; target = target; holder = key.id }

abbrev pub holding_of : Cell → RecId → Holding
holding_of cell target = record { model = cell.model; field = cell.field; target = target; holder = cell.id }

-- whether an index has a holding
abbrev pub is_held : {X : Type 0} → tree.BTreeMap Holding X → Holding → Bool
is_held holdings h = is_some (tree.get holding_order holdings h)

-- whether an id is one of these
abbrev pub has_id : List RecId → RecId → Bool
has_id ids id = list_any (λ other. other.0 == id.0) ids

-- what a row has for a field; unset where it has nothing
abbrev pub kept_by : tree.BTreeMap ℕ Value → FieldNo → Value
kept_by row field = unwrap_or (tree.get nat_cmp row field.0) value.Nil

-- whether a row names another by a field
abbrev pub names_by : tree.BTreeMap ℕ Value → FieldNo → RecId → Bool
names_by row field target = names target (kept_by row field)

-- whether the row of a holding is there, and names the other by the field
abbrev pub does_hold : RowMap → Holding → Bool
does_hold rows h = option_map_or (λ row. names_by row h.field h.target) (tree.get row_key_cmp rows (row_of h)) false

-- an index has the holdings of these rows and no other
abbrev pub IsIndexOf : {X : Type 0} → RowMap → tree.BTreeMap Holding X → Type 0
IsIndexOf rows holdings = (h : Holding) → is_held holdings h ≡ does_hold rows h

-- the holdings of a cell became those of these targets, and no other changed
pub record CellHeld {X : Type 0} (cell : Cell) (targets : List RecId) (old new : tree.BTreeMap Holding X) : Type 0 where
  pub here : (target : RecId) → is_held new (holding_of cell target) ≡ has_id targets target
  pub elsewhere : (h : Holding) → cell_of h ≢ cell → is_held new h ≡ is_held old h

-- the holdings of a row became those that pass, and no other changed
pub record RowHeld {X : Type 0} (key : RowKey) (passes : FieldNo → RecId → Bool) (old new : tree.BTreeMap Holding X) : Type 0 where
  pub here : (field : FieldNo) (target : RecId) → is_held new (holding_at key field target) ≡ passes field target
  pub elsewhere : (h : Holding) → row_of h ≢ key → is_held new h ≡ is_held old h

-- of the rows with another at a key an index has the holdings
abbrev pub IsTurned : {X : Type 0} → RowKey → tree.BTreeMap ℕ Value → RowMap → tree.BTreeMap Holding X → Type 0
IsTurned key row rows holdings = (h : Holding) → is_held holdings h ≡ cond (eq_by_cmp row_key_cmp key (row_of h)) (names_by row h.field h.target) (does_hold rows h)

-- of the fields that one row has, what another names by them
abbrev pub names_where : tree.BTreeMap ℕ Value → tree.BTreeMap ℕ Value → FieldNo → RecId → Bool
names_where row other field target = cond (is_some (tree.get nat_cmp row field.0)) (names_by other field target) false

-- the first of two lists in which they differ, or which both have, with what is left
abbrev pub IsStep : List RecId → List RecId → Option Step → Type 0
IsStep gone come None = (gone ≡ []) × (come ≡ [])
IsStep gone come (Some (step.Goes target rest)) = gone ≡ target ∷ rest.now
IsStep gone come (Some (step.Comes target rest)) = (come ≡ target ∷ rest.now) × (has_id gone target ≡ false)
IsStep gone come (Some (step.Stays target rest others)) = (gone ≡ target ∷ rest.now) × (come ≡ target ∷ others.now)

-- rows as tables without next ids
abbrev pub rows_alone : RowMap → Tables
rows_alone rows = record { rows = shown_rows rows; next_ids = finite.empty }
