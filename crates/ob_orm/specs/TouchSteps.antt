-- What the code has of what edits do to rows, and of sets of rows.
use Rattle.std.specs.Prelude.{◌≡◌, ◌↔◌, ◌||◌, ◌++◌, ◌∷◌, List, map, find, filter, All, Bool, true, Contains, Option, is_some}
use Rattle.ob_base.specs.declared.id.ModelNo.{ModelNo}
use Rattle.ob_base.specs.declared.id.RowKey.{RowKey}
use Rattle.ob_base.specs.declared.refusal.Op.{Op}
use Rattle.ob_base.specs.declared.refusal.Op.TheVariants as op
use Rattle.ob_rows.specs.Rights.{Asking, first_withheld}
use Rattle.ob_orm.specs.Touches.{Touch, asking_of, rows_changed, rows_made, touches_of}
use Rattle.ob_rows.specs.declared.asking.Caller.{Caller}
use Rattle.ob_orm.specs.declared.touching.Touched.{Touched}
use Rattle.ob_schema.specs.Facts.{Told}
use Rattle.ob_schema.specs.Models.{model_at}
use Rattle.ob_schema.specs.Tables.{Tables}
use Rattle.ob_schema.specs.declared.info.ModelInfo.{ModelInfo}
use Rattle.ob_tables.specs.Changes.{has_row}
use Rattle.ob_tables.specs.declared.edit.Edit.{Edit}
use Rattle.ob_tables.specs.declared.edit.Edit.TheVariants as edit
use Rattle.ob_rows.specs.RowSets.{has_key}

-- the first of some operations that he may not do
abbrev pub first_withheld_by : Caller → List Asking → Option Asking
first_withheld_by by askings = first_withheld by.policy.now by.groups.now by.user askings

-- a row is known, by what is told
abbrev pub knows_row : Told → RowKey → Bool
knows_row told row = told.knows row.model row.id

-- it is, or was made since
abbrev pub is_there_by : Told → Touched → RowKey → Bool
is_there_by told touched row = knows_row told row || has_key touched.made row

-- rows are among some exactly where they are among others
abbrev pub SameRows : (some others : List RowKey) → Type 0
SameRows some others = (row : RowKey) → Contains some row ↔ Contains others row

-- of what is asked for, whatever is withheld, the first is the same
abbrev pub AsksSame : (some others : List Asking) → Type 0
AsksSame some others = (test : Asking → Bool) → find test some ≡ find test others

-- what is done is added, where some rows were there before all
pub record Adds (was_there : RowKey → Bool) (touches : List Touch) (old new : Touched) : Type 0 where
  pub askings : AsksSame new.askings.items (old.askings.items ++ map asking_of touches)
  pub made : SameRows new.made.keys (old.made.keys ++ rows_made touches)
  pub changed : SameRows new.changed.keys (old.changed.keys ++ rows_changed was_there touches)

-- what edits do to rows of tables, behind what is asked for before all
pub record IsTouched (models : List ModelInfo) (tables : Tables) (first : Asking) (edits : List Edit) (touched : Touched) : Type 0 where
  pub askings : AsksSame touched.askings.items (first ∷ map asking_of (touches_of models tables edits))
  pub made : SameRows touched.made.keys (rows_made (touches_of models tables edits))
  pub changed : SameRows touched.changed.keys (rows_changed (has_row tables) (touches_of models tables edits))

-- ---- whatever the tables

-- what an edit may do to a row is among what may be done
abbrev pub MayDo : (Op → ModelNo → Bool) → Edit → Type 0
MayDo may (edit.Make model id values) = may op.Create model ≡ true
MayDo may (edit.Set cell v) = may op.Write cell.model ≡ true
MayDo may (edit.Gone model id) = may op.Unlink model ≡ true

-- so is all that is done
pub record IsWithin (may : Op → ModelNo → Bool) (touched : Touched) : Type 0 where
  pub askings : All (λ asking. may asking.0 asking.1 ≡ true) touched.askings.items
  pub made : All (λ row. may op.Create row.model ≡ true) touched.made.keys
  pub changed : All (λ row. may op.Write row.model ≡ true) touched.changed.keys

-- the models of all rows that are made or changed are there
abbrev pub AreOfModels : List ModelInfo → Touched → Type 0
AreOfModels models touched = IsWithin (λ op model. is_some (model_at models model)) touched

-- ---- rules

-- those of some rows that are known
abbrev pub rows_known : Told → List RowKey → List RowKey
rows_known told rows = filter (knows_row told) rows
