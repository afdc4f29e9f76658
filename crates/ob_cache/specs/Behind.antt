-- Private: what is known of computed cells behind a change of tables, while their values are renewed.
use Rattle.std.specs.Prelude.{◌≡◌, ◌≤◌, ◌⊎◌, ℕ, List, All, Contains, IfSome, IsSome, None, Ok, length}
use Rattle.std.specs.BTreeMap as tree
use Rattle.ob_base.specs.BrokenOrder.{cell_order}
use Rattle.ob_base.specs.Tally.{Tally, ticked_times}
use Rattle.ob_base.specs.declared.id.Cell.{Cell}
use Rattle.ob_base.specs.declared.id.RowKey.{RowKey}
use Rattle.ob_base.specs.declared.refusal.BrokenKind.{BrokenKind}
use Rattle.ob_base.specs.declared.value.Value.{Value}
use Rattle.ob_cache.specs.Evaluating.{AreEvaluated}
use Rattle.ob_cache.specs.Rooms.{AreRight, AreValues, IsComputedCell}
use Rattle.ob_schema.specs.Links.{Sides}
use Rattle.ob_schema.specs.Models.{HasField}
use Rattle.ob_schema.specs.Tables.{Tables, key_of, row_at}
use Rattle.ob_schema.specs.Val.{val}
use Rattle.ob_schema.specs.declared.info.ModelInfo.{ModelInfo}
use Rattle.ob_sound.specs.FormulasBreak.{FormulasBreak, FormulasPass}
use Rattle.ob_trigger.specs.Affected.{Affected, Changed, IsComputedBehind}
use Rattle.ob_trigger.specs.CellSets.{CellsRise}

module _ (models : List ModelInfo) (sides : Sides) where
  -- of each computed cell whose row is there on both sides the value is told, or it is among these
  abbrev pub HaveOthers : List Cell → tree.BTreeMap Cell Value → Type 0
  HaveOthers cells values = (cell : Cell) → IsSome (row_at sides.before cell.model cell.id) → IsComputedCell models sides.behind cell → IsSome (tree.get cell_order values cell) ⊎ Contains cells cell

  -- computed cells of rows that are there behind the change, each once, which it can reach; among them all to which it gives another outcome
  pub record AreMarked (cells : List Cell) : Type 0 where
    pub rising : CellsRise cells
    pub behind : All (IsComputedBehind models sides) cells
    pub affected : All (Affected models sides) cells
    pub changed : (cell : Cell) → Changed models sides cell → Contains cells cell

  -- values of before, of computed cells whose rows are there still, of all but some that are marked
  pub record AreUnmarked (marked : List Cell) (values : tree.BTreeMap Cell Value) : Type 0 where
    pub right : (cell : Cell) → IfSome (tree.get cell_order values cell) (λ v. IsComputedCell models sides.behind cell × (val models sides.before cell ≡ Ok v) × (Contains marked cell → ⊥))
    pub all : HaveOthers marked values

module _ (models : List ModelInfo) (tables : Tables) where
  -- the value of a cell, which formulas don't break
  pub record IsUnbroken (cell : Cell) (v : Value) : Type 0 where
    pub value : val models tables cell ≡ Ok v
    pub passes : (broken : BrokenKind) → FormulasBreak models tables broken cell → ⊥

  -- the values of all computed cells, none of which formulas break among these
  pub record AreUnbroken (cells : List Cell) (values : tree.BTreeMap Cell Value) : Type 0 where
    pub passes : FormulasPass models tables cells
    pub told : AreValues models tables values

-- values that are right, as a fact that stands in itself in proofs
unfoldable pub AreKnown : List ModelInfo → Tables → tree.BTreeMap Cell Value → Type 0
AreKnown models tables values = AreRight models tables values

-- each cell has what it had, or has lost it with its row, which isn't there
abbrev pub LosesGone : Tables → tree.BTreeMap Cell Value → tree.BTreeMap Cell Value → Type 0
LosesGone tables old new = (cell : Cell) → (tree.get cell_order new cell ≡ tree.get cell_order old cell) ⊎ ((row_at tables cell.model cell.id ≡ None) × (tree.get cell_order new cell ≡ None))

-- no cell of a row has a value
abbrev pub HasNoneOf : List ModelInfo → RowKey → tree.BTreeMap Cell Value → Type 0
HasNoneOf models key values = (cell : Cell) → key_of cell.model cell.id ≡ key → HasField models cell.model cell.field → tree.get cell_order values cell ≡ None

-- at most so many ticks, and all of them where what they count is done
abbrev pub TicksUpTo : {L : Type 0} → (L → L) → ℕ → Type 0 → Tally L → Tally L → Type 0
TicksUpTo noted most is_done old new = (n : ℕ) × (n ≤ most) × (new ≡ ticked_times n noted old) × (is_done → n ≡ most)

-- a tick for each of some cells that were evaluated
pub record TicksEach {L : Type 0} (noted : L → L) (models : List ModelInfo) (sides : Sides) (are_settled : Type 0) (old new : Tally L) : Type 0 where
  pub cells : List Cell
  pub ticks : new ≡ ticked_times (length cells) noted old
  pub evaluated : AreEvaluated models sides are_settled cells
