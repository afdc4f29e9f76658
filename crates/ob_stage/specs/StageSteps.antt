-- What the steps that gather edits say of their results.
use Rattle.std.specs.Prelude.{◌+◌, ◌<◌, ◌≤◌, ◌^◌, ℕ, List, All, ⊤}
use Rattle.ob_base.specs.declared.id.ModelNo.{ModelNo}
use Rattle.ob_cache.specs.Standing.{Holding, NextIdsUpTo, max_next_id}
use Rattle.ob_tables.specs.Changes.{MakesBelow}
use Rattle.ob_tables.specs.Fitting.{IsFitId}
use Rattle.ob_tables.specs.declared.edit.Edit.{Edit}
use Rattle.ob_tables.specs.declared.edit.Edit.TheVariants as edit

-- a row that an edit makes has an id above which there is a next one
abbrev pub MakesFit : Edit → Type 0
MakesFit (edit.Make model id values) = IsFitId id
MakesFit _ = ⊤

-- each row that edits make has an id below a bound
abbrev pub MakesUpTo : ℕ → List Edit → Type 0
MakesUpTo bound edits = (model : ModelNo) → All (MakesBelow model bound) edits

-- next ids, of what is held with the rows that edits make, leave room for so many rows more
pub record LeaveRoom (rows : ℕ) (held : Holding) (edits : List Edit) : Type 0 where
  pub bound : ℕ
  pub low : max_next_id ≤ bound
  pub high : bound + rows < 2 ^ 64
  pub next_ids : NextIdsUpTo bound held
  pub made : MakesUpTo bound edits

-- one row more: a bound of what is held and of the rows so far need rise by one only
abbrev pub RaisesBound : Holding → (old new : List Edit) → Type 0
RaisesBound held old new = (told bound : ℕ) → max_next_id ≤ told → told ≤ bound → NextIdsUpTo told held → MakesUpTo bound old → MakesUpTo (bound + 1) new
