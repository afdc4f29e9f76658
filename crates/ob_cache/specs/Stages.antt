-- What an engine stands for: tables at three moments, and where it is between them.
use Rattle.std.specs.Prelude.{◌≡◌, ◌≢◌, ◌⊎◌, ◌<◌, ◌≤◌, ℕ, List, length, All, if◌then◌else◌, true, Option, None, IsSome, option_map, Result, ⊤}
use Rattle.ob_base.specs.Rising.{IsRising}
use Rattle.ob_base.specs.declared.id.Cell.{Cell}
use Rattle.ob_base.specs.declared.id.FieldNo.{FieldNo}
use Rattle.ob_base.specs.declared.id.ModelNo.{ModelNo}
use Rattle.ob_base.specs.declared.id.RecId.{RecId}
use Rattle.ob_base.specs.declared.value.Value.{Value}
use Rattle.ob_cache.specs.Kept.{Kept}
use Rattle.ob_cache.specs.declared.fault.ReadFault.{ReadFault}
use Rattle.ob_cache.specs.declared.fault.ReadFault.TheVariants as read_fault
use Rattle.ob_cache.specs.declared.fault.SettleFault.{SettleFault}
use Rattle.ob_cache.specs.declared.fault.SettleFault.TheVariants as settle_fault
use Rattle.ob_cache.specs.declared.stages.Phase.{Phase}
use Rattle.ob_cache.specs.declared.stages.Phase.TheVariants as phase
use Rattle.ob_definition.specs.Types.{is_relation}
use Rattle.ob_expr.specs.Computing.{Lack}
use Rattle.ob_io.specs.Store.{Store}
use Rattle.ob_schema.specs.Broken.{AreSound, IsBroken}
use Rattle.ob_schema.specs.Fields.{is_kept, is_plain_kept}
use Rattle.ob_schema.specs.Models.{FieldHas, HasField, field_at, is_computed_from, is_given_from}
use Rattle.ob_schema.specs.Plain.{naming}
use Rattle.ob_schema.specs.Tables.{Fits, Tables, ids_in, row_at}
use Rattle.ob_schema.specs.Val.{val}
use Rattle.ob_schema.specs.declared.info.FieldInfo.{FieldInfo}
use Rattle.ob_schema.specs.declared.info.ModelInfo.{ModelInfo}
use Rattle.ob_tables.specs.After.{after}
use Rattle.ob_tables.specs.declared.edit.Edit.{Edit}
use Rattle.ob_tables.specs.Fitting.{IsFitId}
use Rattle.ob_tables.specs.Paging.{first_above}

-- the tables as they were kept last, as they were settled last, and with the edits since
pub record Stages : Type 0 where
  pub models : List ModelInfo
  pub flushed : Tables
  pub settled : Tables
  pub staged : Tables
  pub phase : Phase

-- the rows of a store are those of the tables that were kept last, which are sound; until a change of stages fails those that were settled last are sound too, those with the edits fit the registry, and are the same while nothing is staged
pub record StandsOver (stages : Stages) (store : Store) : Type 0 where
  pub kept : Kept stages.models stages.flushed store
  pub sound : AreSound stages.models stages.flushed
  pub settled : stages.phase ≢ phase.Spoiled → AreSound stages.models stages.settled
  pub fits : stages.phase ≢ phase.Spoiled → Fits stages.models stages.staged
  pub at_rest : stages.phase ≡ phase.Settled → stages.staged ≡ stages.settled

-- it may be asked: since the last `forget` no call of `stage`, `settle` or `flush` has failed
abbrev pub IsUsable : Phase → Type 0
IsUsable p = p ≢ phase.Spoiled

-- all are these tables, which are kept
abbrev pub resting : List ModelInfo → Tables → Stages
resting models tables = record { models = models; flushed = tables; settled = tables; staged = tables; phase = phase.Settled }

-- edits are staged
abbrev pub with_edits : Stages → List Edit → Stages
with_edits stages edits = record stages { staged = after stages.models stages.staged edits; phase = phase.Staged }

-- the tables with edits are now those that were settled last
abbrev pub settled_of : Stages → Stages
settled_of stages = record stages { settled = stages.staged; phase = phase.Settled }

-- those that were settled last are now those that were kept last
abbrev pub flushed_of : Stages → Stages
flushed_of stages = record stages { flushed = stages.settled }

-- a call failed: only the tables that were kept last are of use
abbrev pub spoiled : Stages → Stages
spoiled stages = record stages { phase = phase.Spoiled }

-- all are those that were kept last
abbrev pub forgotten : Stages → Stages
forgotten stages = resting stages.models stages.flushed

-- a plain cell, which shows edits at once
abbrev pub IsPlainCell : List ModelInfo → Cell → Type 0
IsPlainCell models cell = FieldHas models (λ info. is_given_from info.origin ≡ true) cell.model cell.field

-- a computed cell that is kept
abbrev pub IsStoredCell : List ModelInfo → Cell → Type 0
IsStoredCell models cell = FieldHas models (λ info. (is_computed_from info.origin ≡ true) × (is_kept info ≡ true)) cell.model cell.field

-- a relation whose values rows keep
abbrev pub IsKeptRelation : FieldInfo → Type 0
IsKeptRelation info = (is_plain_kept info ≡ true) × (is_relation info.field_type ≡ true)

-- while edits are staged only such cells may be read
abbrev pub IsReadable : List ModelInfo → Phase → Cell → Type 0
IsReadable models p cell = p ≡ phase.Staged → IsPlainCell models cell ⊎ IsStoredCell models cell

-- its row was there when edits were settled last, and still is
pub record IsLasting (stages : Stages) (cell : Cell) : Type 0 where
  pub was : IsSome (row_at stages.settled cell.model cell.id)
  pub still : IsSome (row_at stages.staged cell.model cell.id)

-- its value is told: while edits are staged that of a computed cell is, where its row lasts
abbrev pub IsShown : Stages → Cell → Type 0
IsShown stages cell = stages.phase ≡ phase.Staged → IsStoredCell stages.models cell → IsLasting stages cell

-- the tables by which a cell has its value: a computed one shows edits only once they are settled
abbrev pub seen_in : Stages → FieldInfo → Tables
seen_in stages info = if is_computed_from info.origin then stages.settled else stages.staged

-- the value of a cell
abbrev pub seen : Stages → Cell → Option (Result Value Lack)
seen stages cell = option_map (λ info. val stages.models (seen_in stages info) cell) (field_at stages.models cell.model cell.field)

-- why a cell isn't read over some tables: its row isn't there; the keeper failed; or memory is wanting
abbrev pub IsUnreadIn : Tables → Type 0 → Cell → ReadFault → Type 0
IsUnreadIn tables rose cell read_fault.Missing = row_at tables cell.model cell.id ≡ None
IsUnreadIn tables rose cell read_fault.Keeper = rose
IsUnreadIn tables rose cell read_fault.NoMemory = ⊤

-- the same with the edits
abbrev pub IsUnread : Stages → Type 0 → Cell → ReadFault → Type 0
IsUnread stages rose cell fault = IsUnreadIn stages.staged rose cell fault

-- why edits aren't settled: they break something; the keeper failed; or memory is wanting
abbrev pub StaysUnsettled : Stages → Type 0 → SettleFault → Type 0
StaysUnsettled stages rose (settle_fault.Broken broken) = IsBroken stages.models stages.staged broken
StaysUnsettled stages rose settle_fault.Keeper = rose
StaysUnsettled stages rose settle_fault.NoMemory = ⊤

-- a cell that is told to be broken is one of the models'
abbrev pub NamesField : List ModelInfo → SettleFault → Type 0
NamesField models (settle_fault.Broken broken) = HasField models broken.cell.model broken.cell.field
NamesField models _ = ⊤

-- at most so many ids, above one and rising, each with a next one
pub record IsPageAbove (after : RecId) (most : ℕ) (ids : List RecId) : Type 0 where
  pub few : length ids ≤ most
  pub fit : All IsFitId ids
  pub above : All (λ id. after.0 < id.0) ids
  pub rising : IsRising ids

-- the ids of the rows of a model
abbrev pub page_of : Stages → ModelNo → RecId → ℕ → List RecId
page_of stages model after most = first_above after most (ids_in stages.staged model)

-- the ids of the rows of a model that name a row by a field
abbrev pub holders_of : Stages → ModelNo → FieldNo → RecId → RecId → ℕ → List RecId
holders_of stages model field target after most = first_above after most (naming stages.staged model field target)
