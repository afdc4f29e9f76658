-- Private: what changes make of each row and each next id.
use Rattle.std.specs.Prelude.{◌≡◌, ◌≢◌, ◌⊎◌, ℕ, List, [], ◌∷◌, All, Contains, Option, Some, None, option_and_then, option_map, if◌then◌else◌}
use Rattle.std.specs.Ordering.{eq_by_cmp, nat_cmp}
use Rattle.ob_base.specs.Ids.{row_key_cmp}
use Rattle.ob_base.specs.declared.id.ModelNo.{ModelNo}
use Rattle.ob_base.specs.declared.id.RowKey.{RowKey}
use Rattle.ob_cache.specs.Kept.{kept_row}
use Rattle.ob_io.specs.Store.{IsChangeFit, in_order}
use Rattle.ob_io.specs.declared.store.Change.{Change}
use Rattle.ob_io.specs.declared.store.Change.TheVariants.{Put, Gone, Next}
use Rattle.ob_io.specs.declared.store.KeptRow.{KeptRow}
use Rattle.ob_schema.specs.Models.{HasModel, model_at}
use Rattle.ob_schema.specs.Tables.{Standing, next_of, row_at}
use Rattle.ob_schema.specs.declared.info.ModelInfo.{ModelInfo}

-- what is kept of a row after changes, by what was kept before
abbrev pub row_made : List Change → RowKey → Option KeptRow → Option KeptRow
row_made [] key row = row
row_made (Put model put ∷ changes) key row = row_made changes key (if eq_by_cmp row_key_cmp key (record { model = model; id = put.id }) then Some (in_order put) else row)
row_made (Gone model id ∷ changes) key row = row_made changes key (if eq_by_cmp row_key_cmp key (record { model = model; id = id }) then None else row)
row_made (Next model next ∷ changes) key row = row_made changes key row

-- a model's next id after changes, by the one before
abbrev pub next_made : List Change → ModelNo → ℕ → ℕ
next_made [] model next = next
next_made (Put other put ∷ changes) model next = next_made changes model next
next_made (Gone other id ∷ changes) model next = next_made changes model next
next_made (Next other given ∷ changes) model next = next_made changes model (if eq_by_cmp nat_cmp model.0 other.0 then given else next)

-- the kept form of a row of tables, where they have it
abbrev pub form_of : Standing → RowKey → Option KeptRow
form_of standing key = option_and_then (λ info. option_map (kept_row standing.models standing.tables key.model info key.id) (row_at standing.tables key.model key.id)) (model_at standing.models key.model)

-- each row that isn't among these is kept in the same form
abbrev pub KeepsOthers : Standing → Standing → List RowKey → Type 0
KeepsOthers old new keys = (key : RowKey) → (Contains keys key → ⊥) → form_of old key ≡ form_of new key

-- the kept form of one row turns from this to that, whichever of both was made of it before; other rows, rows of no model and next ids are made as before
pub record TurnsRow (models : List ModelInfo) (key : RowKey) (before now : Option KeptRow) (old new : List Change) : Type 0 where
  pub fit : All IsChangeFit old → All IsChangeFit new
  pub turned : (row_made old key before ≡ before) ⊎ (row_made old key before ≡ now) → row_made new key before ≡ now
  pub others : (other : RowKey) (row : Option KeptRow) → (other ≢ key) ⊎ (model_at models other.model ≡ None) → row_made new other row ≡ row_made old other row
  pub next : (model : ModelNo) (next : ℕ) → next_made new model next ≡ next_made old model next

-- all rows are made as before
abbrev pub RowsStay : List Change → List Change → Type 0
RowsStay old new = (key : RowKey) (row : Option KeptRow) → row_made new key row ≡ row_made old key row

-- so are the next ids of other models
abbrev pub NextsStay : ModelNo → List Change → List Change → Type 0
NextsStay model old new = (other : ModelNo) (next : ℕ) → other ≢ model → next_made new other next ≡ next_made old other next

-- the changes of rows alone from tables that are kept to others of the same registry
pub record RowsTo (old new : Standing) (changes : List Change) : Type 0 where
  pub fit : All IsChangeFit changes
  pub rows : (key : RowKey) → row_made changes key (form_of old key) ≡ form_of new key
  pub others : (key : RowKey) (row : Option KeptRow) → model_at old.models key.model ≡ None → row_made changes key row ≡ row
  pub next : (model : ModelNo) (next : ℕ) → next_made changes model next ≡ next

-- the changes from tables that are kept to others of the same registry
pub record ChangesTo (old new : Standing) (changes : List Change) : Type 0 where
  pub fit : All IsChangeFit changes
  pub rows : (key : RowKey) → HasModel old.models key.model → row_made changes key (form_of old key) ≡ form_of new key
  pub next : (model : ModelNo) → HasModel old.models model → next_made changes model (next_of old.tables model) ≡ next_of new.tables model
  pub other_rows : (key : RowKey) (row : Option KeptRow) → model_at old.models key.model ≡ None → row_made changes key row ≡ row
  pub other_next : (model : ModelNo) (next : ℕ) → model_at old.models model ≡ None → next_made changes model next ≡ next
