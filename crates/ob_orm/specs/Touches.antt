-- What edits do to rows: those that they make or change, for which rights and rules are asked.
use Rattle.std.specs.Prelude.{◌==◌, ◌||◌, ◌++◌, List, [], ◌∷◌, map, filter, Bool, true, false, if◌then◌else◌}
use Rattle.std.specs.List.{list_any}
use Rattle.ob_base.specs.declared.id.ModelNo.{ModelNo}
use Rattle.ob_base.specs.declared.id.RowKey.{RowKey}
use Rattle.ob_base.specs.declared.refusal.Op.{Op}
use Rattle.ob_base.specs.declared.refusal.Op.TheVariants as op
use Rattle.ob_orm.specs.NewRows.{parents_of}
use Rattle.ob_rows.specs.Rights.{Asking}
use Rattle.ob_schema.specs.Tables.{Tables, key_of}
use Rattle.ob_schema.specs.declared.info.ModelInfo.{ModelInfo}
use Rattle.ob_tables.specs.After.{edited}
use Rattle.ob_tables.specs.Changes.{has_row}
use Rattle.ob_tables.specs.declared.edit.Edit.{Edit}
use Rattle.ob_tables.specs.declared.edit.Edit.TheVariants as edit

-- an operation on a row
pub record Touch : Type 0 where
  pub op : Op
  pub row : RowKey

-- the operation that is asked for, on rows of the model
abbrev pub asking_of : Touch → Asking
asking_of touch = (touch.op, touch.row.model)

-- where some rows are there: an operation on one of them; another isn't touched
module _ (is_there : RowKey → Bool) where
  abbrev pub touch_there : Op → RowKey → List Touch
  touch_there op row = if is_there row then record { op = op; row = row } ∷ [] else []

  -- what an edit does: it makes a row, or changes or deletes one that is there
  abbrev pub touch_by : Edit → List Touch
  touch_by (edit.Make model id values) = record { op = op.Create; row = key_of model id } ∷ []
  touch_by (edit.Set cell v) = touch_there op.Write (key_of cell.model cell.id)
  touch_by (edit.Gone model id) = touch_there op.Unlink (key_of model id)

-- what edits do to rows of tables, one behind another
abbrev pub touches_of : List ModelInfo → Tables → List Edit → List Touch
touches_of models tables [] = []
touches_of models tables (one ∷ more) = touch_by (has_row tables) one ++ touches_of models (edited models tables one) more

-- ---- of what is done

abbrev pub is_create : Op → Bool
is_create op.Create = true
is_create _ = false

abbrev pub is_write : Op → Bool
is_write op.Write = true
is_write _ = false

-- the rows that are made
abbrev pub rows_made : List Touch → List RowKey
rows_made touches = map (λ touch. touch.row) (filter (λ touch. is_create touch.op) touches)

-- those of some rows that are changed
abbrev pub rows_changed : (RowKey → Bool) → List Touch → List RowKey
rows_changed is_among touches = filter is_among (map (λ touch. touch.row) (filter (λ touch. is_write touch.op) touches))

-- ---- whatever the tables

-- a model is that of a parent of another
abbrev pub is_parent : List ModelInfo → ModelNo → ModelNo → Bool
is_parent models model other = list_any (λ parent. parent.model.0 == other.0) (parents_of models model)

-- what a create of rows of a model may come to: it makes these, and makes or changes rows of the parents
abbrev pub may_touch : List ModelInfo → ModelNo → Op → ModelNo → Bool
may_touch models model op.Create other = (other.0 == model.0) || is_parent models model other
may_touch models model op.Write other = is_parent models model other
may_touch models model _ other = false
