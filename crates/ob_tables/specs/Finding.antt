-- Private: what the rooms that look for broken cells tell one another.
use Rattle.std.specs.Prelude.{◌≡◌, ◌↔◌, ◌⊎◌, ◌&&◌, ◌||◌, ⊤, ℕ, List, Bool, true, false, length, Some, IfSome, IsSomeAnd, is_some}
use Rattle.std.specs.declared.cmp.Ordering.TheVariants.{Less}
use Rattle.ob_base.specs.BrokenOrder.{broken_order}
use Rattle.ob_base.specs.declared.id.Cell.{Cell}
use Rattle.ob_base.specs.declared.id.FieldNo.{FieldNo}
use Rattle.ob_base.specs.declared.id.ModelNo.{ModelNo}
use Rattle.ob_base.specs.declared.id.RecId.{RecId}
use Rattle.ob_base.specs.declared.refusal.Broken.{Broken}
use Rattle.ob_base.specs.declared.refusal.BrokenKind.{BrokenKind}
use Rattle.ob_base.specs.declared.refusal.BrokenKind.TheVariants as kind
use Rattle.ob_base.specs.declared.value.Value.TheVariants as value
use Rattle.ob_schema.specs.declared.info.FieldInfo.{FieldInfo}
use Rattle.ob_schema.specs.declared.info.ModelInfo.{ModelInfo}
use Rattle.ob_schema.specs.Fields.{is_plain_from}
use Rattle.ob_tables.specs.declared.findings.Findings.{Findings}
use Rattle.ob_tables.specs.declared.outcome.Reason.{Reason}
use Rattle.ob_tables.specs.declared.outcome.Reason.TheVariants as reason
use Rattle.ob_schema.specs.Broken.{IsBroken}
use Rattle.ob_schema.specs.Plain.{plain_at}
use Rattle.ob_schema.specs.Tables.{Tables}

-- where a cell is broken in this way, rows can't be followed
abbrev pub unties : BrokenKind → Bool
unties kind.MissingRef = true
unties kind.Tree = true
unties kind.Depth = true
unties _ = false

-- one stands before another, or where it does
abbrev pub IsUpTo : Broken → Broken → Type 0
IsUpTo a b = broken_order b a ≡ Less → ⊥

-- to what was found before, these are added: the first of all is kept, and whether rows can be followed
pub record Finds (Found : Broken → Type 0) (old new : Findings) : Type 0 where
  pub among : IfSome new.first (λ b. (old.first ≡ Some b) ⊎ Found b)
  pub least : (b : Broken) → (old.first ≡ Some b) ⊎ Found b → IsSomeAnd new.first (λ first. IsUpTo first b)
  pub tied : (new.is_tied ≡ true) ↔ ((old.is_tied ≡ true) × ((b : Broken) → Found b → unties b.kind ≡ false))

-- the kinds that one cell, set of fields or tree breaks by what rows keep
abbrev pub is_of_plain : BrokenKind → Bool
is_of_plain kind.Required = true
is_of_plain kind.MissingRef = true
is_of_plain kind.Limit = true
is_of_plain _ = false

abbrev pub is_of_sets : BrokenKind → Bool
is_of_sets kind.Unique = true
is_of_sets _ = false

abbrev pub is_of_trees : BrokenKind → Bool
is_of_trees kind.Tree = true
is_of_trees kind.Depth = true
is_of_trees _ = false

-- those that formulas break
abbrev pub is_of_formulas : BrokenKind → Bool
is_of_formulas kind.Overflow = true
is_of_formulas kind.TooLong = true
is_of_formulas kind.ZeroDivisor = true
is_of_formulas kind.Check = true
is_of_formulas _ = false

-- what a cell breaks whose own formula has no value for this reason
abbrev pub broken_by : Reason → BrokenKind
broken_by reason.Overflow = kind.Overflow
broken_by reason.TooLong = kind.TooLong
broken_by reason.ZeroDivisor = kind.ZeroDivisor

-- all that rows break by what they keep
abbrev pub is_of_rows : BrokenKind → Bool
is_of_rows k = is_of_plain k || is_of_sets k || is_of_trees k

module _ (models : List ModelInfo) (tables : Tables) where
  -- a cell of these that is broken in one of these ways
  abbrev pub BreaksIn : (BrokenKind → Bool) → (Cell → Type 0) → Broken → Type 0
  BreaksIn is_such Where b = (is_such b.kind ≡ true) × Where b.cell × IsBroken models tables b

  -- a cell's list has so many targets
  abbrev pub Counts : ℕ → Cell → Type 0
  Counts count cell = (ids : List RecId) → plain_at tables models cell ≡ Some (value.Refs ids) → count ≡ length ids

-- a plain field whose list is made of the rows that name this one
abbrev pub is_mirror : FieldInfo → Bool
is_mirror field = is_plain_from field.origin && is_some field.mirror

-- the cells of a model, those of one of its fields, and one of them
abbrev pub IsOf : ModelNo → Cell → Type 0
IsOf model cell = cell.model ≡ model

pub record IsIn (model : ModelNo) (field : FieldNo) (cell : Cell) : Type 0 where
  pub model_is : cell.model ≡ model
  pub field_is : cell.field ≡ field

abbrev pub Is : Cell → Cell → Type 0
Is one cell = cell ≡ one

abbrev pub Anywhere : Cell → Type 0
Anywhere cell = ⊤
