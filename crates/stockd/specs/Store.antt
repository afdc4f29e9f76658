-- Why a run stops before its session: its modules aren't loaded, or its store isn't opened.
use Rattle.std.specs.Prelude.{◌≡◌, ℕ, List, Option, ⊤}
use Rattle.ob_base.specs.declared.id.Cell.{Cell}
use Rattle.ob_cache.specs.Opening.{IsFirstInconsistent}
use Rattle.ob_cache.specs.declared.fault.OpenFault.{OpenFault}
use Rattle.ob_cache.specs.declared.fault.OpenFault.TheVariants as open_fault
use Rattle.ob_io.specs.Store.{Store}
use Rattle.ob_load.specs.FaultText.{fault_text}
use Rattle.ob_load.specs.Loading.{IsFirstFault}
use Rattle.ob_load.specs.declared.fault.FaultyModule.{FaultyModule}
use Rattle.ob_orm.specs.RefusalText.{cell_text}
use Rattle.ob_schema.specs.declared.info.ModelInfo.{ModelInfo}
use Rattle.ob_server.specs.declared.ending.Ending.{Ending}
use Rattle.ob_server.specs.declared.ending.Ending.TheVariants as ending

-- the first thing that stands against the modules of these names is told, where this is the text of each
abbrev pub TellsModule : (text_of : List ℕ → Option (List ℕ)) → (names : List (List ℕ)) → List ℕ → Type 0
TellsModule text_of names line = (faulty : FaultyModule) × IsFirstFault text_of names faulty × (line ≡ fault_text faulty)

-- what a loading ends with where it doesn't lead to a registry
abbrev pub EndsLoading : (text_of : List ℕ → Option (List ℕ)) → (names : List (List ℕ)) → (rose : Type 0) → Ending → Type 0
EndsLoading text_of names rose (ending.Module line) = TellsModule text_of names line
EndsLoading text_of names rose ending.ReadFault = rose
EndsLoading text_of names rose ending.NoMemory = ⊤
EndsLoading text_of names rose _ = ⊥

-- the same whatever the files tell
abbrev pub MayEndLoading : Type 0 → Ending → Type 0
MayEndLoading rose (ending.Module line) = ⊤
MayEndLoading rose ending.ReadFault = rose
MayEndLoading rose ending.NoMemory = ⊤
MayEndLoading rose _ = ⊥

-- the first cell is told that shows that no sound tables have the rows
abbrev pub TellsCell : List ModelInfo → Store → List ℕ → Type 0
TellsCell models store text = (cell : Cell) × IsFirstInconsistent models store cell × (text ≡ cell_text models cell)

-- what an opening ends with where it doesn't lead to a session
abbrev pub EndsOpening : List ModelInfo → Store → Type 0 → Ending → Type 0
EndsOpening models store rose (ending.Store text) = TellsCell models store text
EndsOpening models store rose ending.KeeperFault = rose
EndsOpening models store rose ending.NoMemory = ⊤
EndsOpening models store rose _ = ⊥

-- the same whatever the keeper tells
abbrev pub MayEndOpening : Type 0 → Ending → Type 0
MayEndOpening rose (ending.Store text) = ⊤
MayEndOpening rose ending.KeeperFault = rose
MayEndOpening rose ending.NoMemory = ⊤
MayEndOpening rose _ = ⊥

-- a fault is told; or memory is wanting for its text
abbrev pub TellsFault : FaultyModule → Ending → Type 0
TellsFault faulty (ending.Module line) = line ≡ fault_text faulty
TellsFault faulty ending.NoMemory = ⊤
TellsFault faulty _ = ⊥

-- the ending of a run whose store isn't opened, by why; or memory is wanting for its text
abbrev pub IsOpeningEnding : List ModelInfo → OpenFault → Ending → Type 0
IsOpeningEnding models (open_fault.Inconsistent cell) (ending.Store text) = text ≡ cell_text models cell
IsOpeningEnding models open_fault.Keeper ending.KeeperFault = ⊤
IsOpeningEnding models open_fault.Keeper _ = ⊥
IsOpeningEnding models _ ending.NoMemory = ⊤
IsOpeningEnding models _ _ = ⊥
