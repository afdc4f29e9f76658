-- Private: what the rooms of the crate tell one another.
use Rattle.std.specs.Prelude.{◌≡◌, ⊤, List, Option, Some, None, IsOk, IsSome, IfSome, IsSomeAnd, option_map, unwrap_or, true, Ok}
use Rattle.std.specs.BTreeMap as tree
use Rattle.ob_base.specs.BrokenOrder.{cell_order}
use Rattle.ob_base.specs.declared.id.Cell.{Cell}
use Rattle.ob_base.specs.declared.id.FieldNo.{FieldNo}
use Rattle.ob_base.specs.declared.id.ModelNo.{ModelNo}
use Rattle.ob_base.specs.declared.id.RowKey.{RowKey}
use Rattle.ob_base.specs.declared.value.Value.{Value}
use Rattle.ob_cache.specs.Changing.{KeepsOthers}
use Rattle.ob_cache.specs.Native.{IsNativeRegistry}
use Rattle.ob_cache.specs.Stages.{Stages}
use Rattle.ob_cache.specs.Standing.{FitNextIds}
use Rattle.ob_cache.specs.declared.fault.OpenFault.{OpenFault}
use Rattle.ob_cache.specs.declared.fault.OpenFault.TheVariants as open_fault
use Rattle.ob_cache.specs.declared.fault.SettleFault.{SettleFault}
use Rattle.ob_cache.specs.declared.fault.SettleFault.TheVariants as settle_fault
use Rattle.ob_cache.specs.declared.stages.Phase.{Phase}
use Rattle.ob_cache.specs.declared.stages.Phase.TheVariants as phase
use Rattle.ob_io.specs.declared.keeper.KeepFault.{KeepFault}
use Rattle.ob_io.specs.declared.keeper.KeepFault.TheVariants as keep_fault
use Rattle.ob_definition.specs.Values.{IsNative}
use Rattle.ob_schema.specs.Broken.{AreSound, IsBroken, IsFirstBroken}
use Rattle.ob_schema.specs.Fields.{Holds}
use Rattle.ob_schema.specs.Models.{HasField, field_at, is_computed_from}
use Rattle.ob_schema.specs.Tables.{Standing, Tables, row_at}
use Rattle.ob_schema.specs.Val.{val}
use Rattle.ob_schema.specs.declared.info.FieldInfo.{FieldInfo}
use Rattle.ob_schema.specs.declared.info.ModelInfo.{ModelInfo}
use Rattle.ob_sound.specs.Touched.{TouchesOnly}
use Rattle.ob_tables.specs.declared.applying.ApplyFault.{ApplyFault}
use Rattle.ob_tables.specs.declared.applying.ApplyFault.TheVariants as apply_fault

-- why a store isn't opened whose keeper fails
abbrev pub open_fault_of : KeepFault → OpenFault
open_fault_of keep_fault.Failed = open_fault.Keeper
open_fault_of keep_fault.NoMemory = open_fault.NoMemory

-- the cells of a field
pub record IsIn (model : ModelNo) (field : FieldNo) (cell : Cell) : Type 0 where
  pub model_is : cell.model ≡ model
  pub field_is : cell.field ≡ field

abbrev pub IsOf : ModelNo → Cell → Type 0
IsOf model cell = cell.model ≡ model

module _ (models : List ModelInfo) (tables : Tables) where
  -- a formula computes the cell, and its row is there
  abbrev pub IsComputedCell : Cell → Type 0
  IsComputedCell cell = IsSome (row_at tables cell.model cell.id) × IsSomeAnd (field_at models cell.model cell.field) (λ info. is_computed_from info.origin ≡ true)

  -- each value is that of its cell, which is computed and whose row is there
  abbrev pub AreRight : tree.BTreeMap Cell Value → Type 0
  AreRight values = (cell : Cell) → IfSome (tree.get cell_order values cell) (λ v. IsComputedCell cell × (val models tables cell ≡ Ok v))

  -- the computed ones of these cells have values
  abbrev pub HaveValues : (Cell → Type 0) → tree.BTreeMap Cell Value → Type 0
  HaveValues Where values = (cell : Cell) → Where cell → IsComputedCell cell → IsSome (tree.get cell_order values cell)

  -- the values of all computed cells
  pub record AreValues (values : tree.BTreeMap Cell Value) : Type 0 where
    pub right : AreRight values
    pub all : HaveValues (λ _. ⊤) values

module _ (models : List ModelInfo) (tables : Tables) where
  -- sound tables over native constants: each field of each row that is there has a value from scratch, which the field may hold
  pub record AreReadable : Type 0 where
    pub sound : AreSound models tables
    pub typed : (cell : Cell) (info : FieldInfo) → field_at models cell.model cell.field ≡ Some info → is_computed_from info.origin ≡ true → (v : Value) → val models tables cell ≡ Ok v → IsNative v → Holds info v
    pub valued : (cell : Cell) → IsSome (row_at tables cell.model cell.id) → IsSome (field_at models cell.model cell.field) → IsOk (val models tables cell)
    pub native : (cell : Cell) (v : Value) → val models tables cell ≡ Ok v → IsNative v

-- tables of a registry with native constants, sound, with the values of their computed cells
pub record AreWhole (models : List ModelInfo) (standing : Standing) (held : tree.BTreeMap Cell Value) : Type 0 where
  pub over : standing.models ≡ models
  pub native : IsNativeRegistry models
  pub sound : AreSound standing.models standing.tables
  pub values : AreValues standing.models standing.tables held

-- what stood stands
abbrev pub KeepsAll : tree.BTreeMap Cell Value → tree.BTreeMap Cell Value → Type 0
KeepsAll old new = (cell : Cell) → IsSome (tree.get cell_order old cell) → IsSome (tree.get cell_order new cell)

-- the value of a cell; none where its row isn't there
abbrev pub IsValueIn : Standing → Cell → Option Value → Type 0
IsValueIn standing cell (Some v) = val standing.models standing.tables cell ≡ Ok v
IsValueIn standing cell None = row_at standing.tables cell.model cell.id ≡ None

-- why tables aren't whole: this is the first that they break; or memory is wanting
abbrev pub ShowsUnsound : Standing → ApplyFault → Type 0
ShowsUnsound standing (apply_fault.Broken broken) = IsFirstBroken standing.models standing.tables broken
ShowsUnsound standing apply_fault.NoMemory = ⊤

-- why a change isn't settled: this is broken behind it; or memory is wanting
abbrev pub IsUnsoundBy : Standing → ApplyFault → Type 0
IsUnsoundBy standing (apply_fault.Broken broken) = IsBroken standing.models standing.tables broken
IsUnsoundBy standing apply_fault.NoMemory = ⊤

-- the cell of what is broken is one of the models'
abbrev pub NamesBrokenField : List ModelInfo → ApplyFault → Type 0
NamesBrokenField models (apply_fault.Broken broken) = HasField models broken.cell.model broken.cell.field
NamesBrokenField models apply_fault.NoMemory = ⊤

-- why staged tables aren't settled, where no keeper is asked
abbrev pub ShowsUnsettled : Stages → SettleFault → Type 0
ShowsUnsettled stages (settle_fault.Broken broken) = IsBroken stages.models stages.staged broken
ShowsUnsettled stages settle_fault.Keeper = ⊥
ShowsUnsettled stages settle_fault.NoMemory = ⊤

-- so it is told of what was staged
abbrev pub settle_fault_of : ApplyFault → SettleFault
settle_fault_of (apply_fault.Broken broken) = settle_fault.Broken broken
settle_fault_of apply_fault.NoMemory = settle_fault.NoMemory

-- these tables, or those before them
abbrev pub or_before : Option Standing → Tables → Tables
or_before held before = unwrap_or (option_map (λ s. s.tables) held) before

-- the stages of which these are held
abbrev pub held_stages : List ModelInfo → Standing → Option Standing → Option Standing → Phase → Stages
held_stages models flushed settled staged p = record {
  models = models;
  flushed = flushed.tables;
  settled = or_before settled flushed.tables;
  staged = or_before staged (or_before settled flushed.tables);
  phase = p;
}

-- after a fault only the tables that were kept last are what they were
pub record AreOfSpoiled (old new : Stages) : Type 0 where
  pub models : new.models ≡ old.models
  pub flushed : new.flushed ≡ old.flushed
  pub phase_is : new.phase ≡ phase.Spoiled

-- all are of one registry, a keeper can keep the next ids of those that are kept, and nothing is staged where all is settled
pub record AreHeldOver (models : List ModelInfo) (flushed : Standing) (settled staged : Option Standing) (p : Phase) : Type 0 where
  pub fits : FitNextIds models flushed.tables
  pub flushed_over : flushed.models ≡ models
  pub settled_over : IfSome settled (λ s. s.models ≡ models)
  pub staged_over : IfSome staged (λ s. s.models ≡ models)
  pub at_rest : p ≡ phase.Settled → staged ≡ None

-- the rows that edits touched since the last settle are listed, and those that may be kept in another form than they were settled in; and the triggers are those of the registry
pub record AreListed (models : List ModelInfo) (flushed : Standing) (settled staged : Option Standing) (triggers : List ModelInfo) (touched unkept : List RowKey) : Type 0 where
  pub over : triggers ≡ models
  pub touches : TouchesOnly touched (record { before = or_before settled flushed.tables; behind = or_before staged (or_before settled flushed.tables) })
  pub keeps : KeepsOthers flushed (unwrap_or settled flushed) unkept
