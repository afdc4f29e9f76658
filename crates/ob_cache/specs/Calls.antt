-- What a call does by way of an engine: where it stands before and after, and by which relation between tables.
use Rattle.std.specs.Prelude.{◌≡◌, ◌≤◌, ℕ, List, Option, IfErr, Result, Ok, Err, ⊤}
use Rattle.ob_base.specs.declared.refusal.Refusal.{Refusal}
use Rattle.ob_base.specs.declared.refusal.Refusal.TheVariants as refusal
use Rattle.ob_cache.specs.Stages.{Stages}
use Rattle.ob_cache.specs.Standing.{Holding, IsAtRest, RestsAt, Stands, Stays}
use Rattle.ob_cache.specs.declared.engine.Engine.{Engine}
use Rattle.ob_cache.specs.declared.stages.Phase.TheVariants as phase
use Rattle.ob_io.specs.Cause.{Rose}
use Rattle.ob_io.specs.Store.{Store}
use Rattle.ob_io.specs.declared.keeper.Keeper.{Ghosts}
use Rattle.ob_schema.specs.Tables.{Tables}
use Rattle.ob_schema.specs.declared.info.ModelInfo.{ModelInfo}

-- where an engine stands: what its keeper keeps, where that is told, how often the keeper failed, and what is held over it
pub record Standpoint : Type 0 where
  pub kept : Option Store
  pub faults : ℕ
  pub held : Holding

module _ {K : Type 0} (g : Ghosts K) where
  -- where this one stands
  abbrev pub standpoint : Engine K → Standpoint
  standpoint engine = record { kept = g.kept engine.keeper.now; faults = g.faults engine.keeper.now; held = engine.held }

-- the models over which it stands
abbrev pub models_at : Standpoint → List ModelInfo
models_at at = at.held.models

-- nothing is staged over what is kept
abbrev pub IsResting : Standpoint → Type 0
IsResting at = IsAtRest at.held.models at.held

-- its tables are these, which are kept
abbrev pub HasTables : Standpoint → Tables → Type 0
HasTables at tables = RestsAt at.kept at.held tables

-- the keeper failed between the two
abbrev pub KeeperRose : (before after : Standpoint) → Type 0
KeeperRose before after = Rose before.faults after.faults

-- the stages of an engine that keeps some tables and has settled others over them
abbrev pub settled_over : List ModelInfo → (kept now : Tables) → Stages
settled_over models kept now = record { models = models; flushed = kept; settled = now; staged = now; phase = phase.Settled }

-- it keeps the first tables, and has settled the others over them
abbrev pub HasSettled : Standpoint → (kept now : Tables) → Type 0
HasSettled at kept now = Stands at.kept at.held (settled_over at.held.models kept now)

-- a refusal has this cause; the keeper's comes only where its count rose, and want of memory at any time
abbrev pub Refuses : Type 0 → (Refusal → Type 0) → Refusal → Type 0
Refuses rose P refusal.Keeper = rose
Refuses rose P refusal.NoMemory = ⊤
Refuses rose P why = P why

-- By a relation between the tables before a call, its answer or refusal, and the tables after it.
module _ {A : Type 0} (Means : Tables → Result A Refusal → Tables → Type 0) (before after : Standpoint) where
  -- the engine has settled the tables that it leads to; or the refusal is one to which it leads, and the tables are what they were
  abbrev pub AnswersBy : Tables → Result A Refusal → Type 0
  AnswersBy old (Ok a) = (new : Tables) × Means old (Ok a) new × HasSettled after old new
  AnswersBy old (Err why) = Refuses (KeeperRose before after) (λ cause. Means old (Err cause) old) why × HasTables after old

  -- A writing call, by when a refusal may come whatever the keeper tells: it keeps nothing by itself.
  pub record IsCalled (MayCome : Refusal → Type 0) (outcome : Result A Refusal) : Type 0 where
    pub answer : (old : Tables) → HasTables before old → AnswersBy old outcome
    pub causes : IfErr outcome (Refuses (KeeperRose before after) MayCome)
    pub rests : IsAtRest (models_at before) after.held
    pub same : after.kept ≡ before.kept
    pub count : before.faults ≤ after.faults

-- By a relation between tables and what is answered of them.
module _ {A : Type 0} (Tells : Tables → Result A Refusal → Type 0) (before after : Standpoint) where
  -- the answer or refusal is one of the tables'
  abbrev pub TellsBy : Tables → Result A Refusal → Type 0
  TellsBy tables (Ok a) = Tells tables (Ok a)
  TellsBy tables (Err why) = Refuses (KeeperRose before after) (λ cause. Tells tables (Err cause)) why

  -- A reading call, by when a refusal may come whatever the keeper tells: it changes nothing.
  pub record IsAsked (MayCome : Refusal → Type 0) (outcome : Result A Refusal) : Type 0 where
    pub answer : (tables : Tables) → HasTables before tables → TellsBy tables outcome
    pub causes : IfErr outcome (Refuses (KeeperRose before after) MayCome)
    pub same : Stays before.kept before.held after.kept after.held
    pub count : before.faults ≤ after.faults
