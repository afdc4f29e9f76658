-- How what an engine holds stands for stages, over what its keeper keeps. This body holds the stages themselves; the words outlast it.
use Rattle.std.specs.Prelude.{◌≡◌, ◌≤◌, ◌-◌, ◌^◌, ℕ, List, Option, IsSomeAnd}
use Rattle.ob_base.specs.declared.id.ModelNo.{ModelNo}
use Rattle.ob_cache.specs.Stages.{IsUsable, Stages, StandsOver, resting, spoiled}
use Rattle.ob_cache.specs.declared.stages.Phase.TheVariants as phase
use Rattle.ob_io.specs.Store.{Store}
use Rattle.ob_schema.specs.Models.{HasModel}
use Rattle.ob_schema.specs.Tables.{Tables, next_of}
use Rattle.ob_schema.specs.declared.info.ModelInfo.{ModelInfo}

-- what an engine holds: the models, the phase, and what each body has beside them
abbrev pub Holding : Type 0
Holding = Stages

-- the tables that it holds are those of the stages: of a failed one only those that were kept last
pub record AreHeld (held : Holding) (stages : Stages) : Type 0 where
  pub flushed : stages.flushed ≡ held.flushed
  pub settled : IsUsable held.phase → stages.settled ≡ held.settled
  pub staged : IsUsable held.phase → stages.staged ≡ held.staged

-- the keeper tells its rows, and with what it holds the engine stands at these stages; how the tables are held is each body's own
pub record Stands (kept : Option Store) (held : Holding) (stages : Stages) : Type 0 where
  pub models_are : stages.models ≡ held.models
  pub phase_is : stages.phase ≡ held.phase
  pub over : IsSomeAnd kept (StandsOver stages)
  pub tables : AreHeld held stages

-- what holds of the stages at which an engine stands
abbrev pub OfStages : Option Store → Holding → (Stages → Type 0) → Type 0
OfStages kept held holds = (stages : Stages) → Stands kept held stages → holds stages

-- it stands at these tables alone, which are kept
abbrev pub RestsAt : Option Store → Holding → Tables → Type 0
RestsAt kept held tables = Stands kept held (resting held.models tables)

-- the greatest next id that a keeper keeps
abbrev pub max_next_id : ℕ
max_next_id = 2 ^ 63 - 1

-- a keeper can keep the next ids of tables
abbrev pub FitNextIds : List ModelInfo → Tables → Type 0
FitNextIds models tables = (model : ModelNo) → HasModel models model → next_of tables model ≤ max_next_id

-- no next id of the tables with the edits is above a bound, from the greatest on that a keeper keeps
abbrev pub NextIdsUpTo : ℕ → Holding → Type 0
NextIdsUpTo bound held = (model : ModelNo) → HasModel held.models model → next_of held.staged model ≤ bound

-- bounds of next ids stay
abbrev pub KeepsBounds : Holding → Holding → Type 0
KeepsBounds old new = (bound : ℕ) → max_next_id ≤ bound → NextIdsUpTo bound old → NextIdsUpTo bound new

-- an engine of these models with nothing staged, whose next ids a keeper can keep
pub record IsAtRest (models : List ModelInfo) (held : Holding) : Type 0 where
  pub models_are : held.models ≡ models
  pub phase_is : held.phase ≡ phase.Settled
  pub next_ids : NextIdsUpTo max_next_id held

-- a call that reads changes nothing that is told
pub record Stays (before : Option Store) (old : Holding) (now : Option Store) (new : Holding) : Type 0 where
  pub kept : now ≡ before
  pub models : new.models ≡ old.models
  pub phase_is : new.phase ≡ old.phase
  pub next_ids : KeepsBounds old new
  pub stands : OfStages before old (Stands now new)
  pub only : OfStages now new (Stands before old)

-- a change of stages failed: what is kept is what it was, and only `forget` may be called
pub record IsSpoiled (before : Option Store) (old : Holding) (now : Option Store) (new : Holding) : Type 0 where
  pub kept : now ≡ before
  pub models : new.models ≡ old.models
  pub phase_is : new.phase ≡ phase.Spoiled
  pub stands : OfStages before old (λ stages. Stands now new (spoiled stages))
