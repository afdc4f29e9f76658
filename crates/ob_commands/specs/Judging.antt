-- How what a call has staged is judged.
use Rattle.std.specs.Prelude.{◌≡◌, Some}
use Rattle.ob_base.specs.declared.id.RowKey.{RowKey}
use Rattle.ob_base.specs.declared.refusal.Op.{Op}
use Rattle.ob_base.specs.declared.refusal.Op.TheVariants as op
use Rattle.ob_base.specs.declared.refusal.Refusal.{Refusal}
use Rattle.ob_base.specs.declared.refusal.Refusal.TheVariants as refusal
use Rattle.ob_cache.specs.Stages.{Stages}
use Rattle.ob_cache.specs.Standing.{NextIdsUpTo, OfStages, Stands, max_next_id}
use Rattle.ob_cache.specs.Telling.{TellsFacts}
use Rattle.ob_cache.specs.declared.engine.Engine.{Engine}
use Rattle.ob_cache.specs.declared.stages.Phase.TheVariants as phase
use Rattle.ob_effect.specs.Effect.{Keeps}
use Rattle.ob_effect.specs.Rights.{IsDeniedBy}
use Rattle.ob_effect.specs.declared.asking.Caller.{Caller}
use Rattle.ob_io.specs.declared.keeper.Keeper.{Ghosts}
use Rattle.ob_schema.specs.Broken.{AreSound}
use Rattle.ob_schema.specs.Facts.{OfAllTold, Told, told_by}
use Rattle.ob_schema.specs.Models.{HasField}
use Rattle.ob_schema.specs.Tables.{Tables}

-- a rule denies the caller the row, by all that is told
abbrev pub DeniesBy : (Told → Type 0) → Caller → Op → RowKey → Refusal → Type 0
DeniesBy tells by operation row (refusal.Rule model own id (Some name)) = (own ≡ operation) × (model ≡ row.model) × (id ≡ row.id) × OfAllTold tells (IsDeniedBy by operation row name)
DeniesBy tells by operation row _ = ⊥

module _ {K : Type 0} (g : Ghosts K) where
  -- what was staged is settled: the tables that were kept last stay, and next ids can be kept
  pub record Settles (old new : Engine K) : Type 0 where
    pub keeps : Keeps g old new
    pub phase_is : new.held.phase ≡ phase.Settled
    pub next_ids : NextIdsUpTo max_next_id new.held
    pub stands : OfStages (g.kept old.keeper.now) old.held (λ at. (now : Stages) × Stands (g.kept new.keeper.now) new.held now
        × (now.flushed ≡ at.flushed) × (now.settled ≡ at.staged) × (now.staged ≡ at.staged))

  module _ (by : Caller) (engine : Engine K) where
    -- a rule denies the caller a row that was made, once all is settled
    abbrev pub DeniesMade : Refusal → Type 0
    DeniesMade (refusal.Rule model op.Create id (Some name)) = OfAllTold (TellsFacts (g.kept engine.keeper.now) engine.held) (IsDeniedBy by op.Create (record { model = model; id = id }) name)
    DeniesMade _ = ⊥

    -- a rule denies the caller a row as it was settled last, or one that is made in sound tables; or something is broken at a cell of the models
    abbrev pub Judges : Refusal → Type 0
    Judges (refusal.Rule model op.Create id (Some name)) = OfStages (g.kept engine.keeper.now) engine.held (λ at. (tables : Tables) × AreSound at.models tables
        × IsDeniedBy by op.Create (record { model = model; id = id }) name (told_by at.models tables))
    Judges (refusal.Rule model operation id (Some name)) = OfAllTold (TellsFacts (g.kept engine.keeper.now) engine.held) (IsDeniedBy by operation (record { model = model; id = id }) name)
    Judges (refusal.Constraint b) = HasField engine.held.models b.cell.model b.cell.field
    Judges _ = ⊥
