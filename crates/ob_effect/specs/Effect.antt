-- What the steps of a call do to the engine and to what is noted of it, whatever their edits are.
use Rattle.std.specs.Prelude.{◌≡◌, ◌≤◌, ◌<◌, ◌+◌, ◌++◌, ◌∷◌, [], ℕ, List, All, IfSome, length, Result, Ok, Err}
use Rattle.ob_access.specs.Policies.{IsPolicyOver}
use Rattle.ob_base.specs.Limits.{max_id}
use Rattle.ob_base.specs.Times.{IsMoment}
use Rattle.ob_base.specs.declared.id.ModelNo.{ModelNo}
use Rattle.ob_base.specs.declared.id.RecId.{RecId}
use Rattle.ob_base.specs.declared.id.RowKey.{RowKey}
use Rattle.ob_base.specs.declared.refusal.Op.{Op}
use Rattle.ob_base.specs.declared.refusal.Op.TheVariants as op
use Rattle.ob_base.specs.declared.refusal.Refusal.{Refusal}
use Rattle.ob_base.specs.declared.refusal.Refusal.TheVariants as refusal
use Rattle.ob_cache.specs.Calls.{Refuses}
use Rattle.ob_cache.specs.Stages.{IsUsable, Stages}
use Rattle.ob_cache.specs.Standing.{Holding, KeepsBounds, NextIdsUpTo, OfStages, Stands, Stays, max_next_id}
use Rattle.ob_cache.specs.declared.engine.Engine.{Engine}
use Rattle.ob_effect.specs.NextIds.{IsTaken, NextIdsRise}
use Rattle.ob_effect.specs.Relations.{IsRelation}
use Rattle.ob_effect.specs.Rights.{IsWithheld}
use Rattle.ob_effect.specs.declared.asking.Caller.{Caller}
use Rattle.ob_effect.specs.declared.notes.Notes.{Notes}
use Rattle.ob_effect.specs.declared.rows.Writer.{Writer}
use Rattle.ob_io.specs.Cause.{Rose}
use Rattle.ob_io.specs.declared.keeper.Keeper.{Ghosts}
use Rattle.ob_schema.specs.Models.{HasField, HasModel}
use Rattle.ob_schema.specs.Tables.{next_of}
use Rattle.ob_schema.specs.declared.info.ModelInfo.{ModelInfo}
use Rattle.ob_tables.specs.Fitting.{IsFitEdit}
use Rattle.ob_tables.specs.declared.edit.Edit.{Edit}
use Rattle.ob_tables.specs.declared.edit.Edit.TheVariants as edit

-- ---- the engine

module _ {K : Type 0} (g : Ghosts K) where
  -- it was only asked: the keeper is still the lender's, all that is told is what it was, and the keeper's count didn't fall
  pub record Asks (old new : Engine K) : Type 0 where
    pub lender : new.keeper.ghost_name ≡ old.keeper.ghost_name
    pub same : Stays (g.kept old.keeper.now) old.held (g.kept new.keeper.now) new.held
    pub count : g.faults old.keeper.now ≤ g.faults new.keeper.now

  -- whatever came of it: the keeper is still the lender's, keeps what it kept, and its count didn't fall; the models stay, and so do the tables that were kept last
  pub record Keeps (old new : Engine K) : Type 0 where
    pub lender : new.keeper.ghost_name ≡ old.keeper.ghost_name
    pub kept : g.kept new.keeper.now ≡ g.kept old.keeper.now
    pub count : g.faults old.keeper.now ≤ g.faults new.keeper.now
    pub models : new.held.models ≡ old.held.models
    pub stands : OfStages (g.kept old.keeper.now) old.held (λ at. (now : Stages) × Stands (g.kept new.keeper.now) new.held now × (now.flushed ≡ at.flushed))

  -- edits were staged, or none: it may be asked, the tables that were settled last stay, and no next id fell
  pub record Edits (old new : Engine K) : Type 0 where
    pub keeps : Keeps old new
    pub usable : IsUsable new.held.phase
    pub stands : OfStages (g.kept old.keeper.now) old.held (λ at. (now : Stages) × Stands (g.kept new.keeper.now) new.held now
        × (now.flushed ≡ at.flushed) × (now.settled ≡ at.settled) × NextIdsRise at.staged now.staged)

  -- these stages come of edits over those; and a fact that goes by both
  abbrev pub ComesOf : (Stages → Stages → Type 0) → (old new : Engine K) → Type 0
  ComesOf Holds old new = OfStages (g.kept old.keeper.now) old.held (λ at. (now : Stages) × Stands (g.kept new.keeper.now) new.held now
      × (now.flushed ≡ at.flushed) × (now.settled ≡ at.settled) × NextIdsRise at.staged now.staged × Holds at now)

  -- a row of the model took the id by edits
  abbrev pub Takes : ModelNo → RecId → (old new : Engine K) → Type 0
  Takes model id old new = ComesOf (λ at now. IsTaken model at.staged now.staged id.0) old new

  -- a row was made
  pub record MakesRow (row : RowKey) (old new : Engine K) : Type 0 where
    pub edits : Edits old new
    pub risen : ComesOf (λ at now. row.id.0 < next_of now.staged row.model) old new
    pub next_ids : (bound : ℕ) → max_next_id ≤ bound → row.id.0 < bound → NextIdsUpTo bound old.held → NextIdsUpTo bound new.held

  -- edits were staged, none of which makes a row
  pub record ChangesSome (old new : Engine K) : Type 0 where
    pub edits : Edits old new
    pub bounds : KeepsBounds old.held new.held

-- an edit that may be asked for, and makes no row
abbrev pub IsFitChange : List ModelInfo → Edit → Type 0
IsFitChange models (edit.Make model id values) = ⊥
IsFitChange models one = IsFitEdit models one

-- ---- what is noted

-- rows and cells of the models; and next ids are no more than rows were made above those that a keeper keeps, and not above these while no row has an id past the limit
pub record IsNoted (models : List ModelInfo) (notes : Notes) (held : Holding) : Type 0 where
  pub touched : All (λ touch. HasModel models touch.row.model) notes.touched.keys
  pub made : All (λ row. HasModel models row.model) notes.made.items
  pub gone : All (λ row. HasModel models row.model) notes.gone.items
  pub cells : All (λ named. HasField models named.cell.model named.cell.field) notes.named.items
  pub targets : All (λ named. HasModel models named.target.model) notes.named.items
  pub broken : IfSome notes.broken (λ b. HasField models b.cell.model b.cell.field)
  pub next_ids : NextIdsUpTo (max_next_id + length notes.made.items) held
  pub low : All (λ row. row.id.0 ≤ max_id) notes.made.items → NextIdsUpTo max_next_id held

-- more may be noted
abbrev pub KeepsNoted : List ModelInfo → (old new : Notes) → Type 0
KeepsNoted models old new = (held : Holding) → IsNoted models old held → IsNoted models new held

-- the same, and no row that is made
pub record KeepsNotes (models : List ModelInfo) (old new : Notes) : Type 0 where
  pub noted : KeepsNoted models old new
  pub made : new.made ≡ old.made

-- the rows that are made, with one behind them where it is made
abbrev pub made_behind : Op → RowKey → List RowKey → List RowKey
made_behind op.Create row rows = rows ++ row ∷ []
made_behind _ row rows = rows

-- ---- steps

-- a step is refused for a right that the caller lacks
abbrev pub LacksRight : Caller → Refusal → Type 0
LacksRight by (refusal.Right model operation) = IsWithheld by.policy.now by.user operation model by.groups.now
LacksRight by _ = ⊥

-- rows of these models are made and changed with the relations that they keep, at a moment, by a caller whom a policy over them judges
pub record IsWriterOver (models : List ModelInfo) (writer : Writer) : Type 0 where
  pub schema : writer.schema.now ≡ models
  pub relations : All (IsRelation models) writer.relations.now
  pub moment : IsMoment writer.author.now
  pub policy : IsPolicyOver models writer.by.policy.now

module _ {K : Type 0} (g : Ghosts K) (by : Caller) (old new : Engine K) where
  -- a step is carried out and noted; or refused, for a right that the caller lacks
  abbrev pub IsStep : {A : Type 0} → Notes → Result A Refusal → Type 0
  IsStep notes (Ok _) = Edits g old new × IsNoted old.held.models notes new.held
  IsStep notes (Err why) = Keeps g old new × Refuses (Rose (g.faults old.keeper.now) (g.faults new.keeper.now)) (LacksRight by) why
