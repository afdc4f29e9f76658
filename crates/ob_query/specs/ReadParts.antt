-- What the parts of a read give.
use Rattle.std.specs.Prelude.{◌≡◌, ℕ, List, All, Contains, true, false, Option, Some, None, Result, Ok, Err}
use Rattle.ob_access.specs.Policies.{IsPolicyOver}
use Rattle.ob_base.specs.declared.id.FieldNo.{FieldNo}
use Rattle.ob_base.specs.declared.id.ModelNo.{ModelNo}
use Rattle.ob_base.specs.declared.id.RecId.{RecId}
use Rattle.ob_base.specs.declared.refusal.Op.TheVariants as op
use Rattle.ob_base.specs.declared.refusal.Refusal.{Refusal}
use Rattle.ob_base.specs.declared.refusal.Refusal.TheVariants as refusal
use Rattle.ob_cache.specs.Calls.{Refuses}
use Rattle.ob_call.specs.Columns.{columns_at}
use Rattle.ob_codec.specs.JsonForm.{IsJsonOf}
use Rattle.ob_query.specs.Read.{IsLeastFailing, TellsRow, told_columns}
use Rattle.ob_query.specs.ReadArguments as arguments
use Rattle.ob_query.specs.ReadRows.{ListsRows}
use Rattle.ob_query.specs.declared.caller.Caller.{Caller}
use Rattle.ob_query.specs.declared.reading.Asked.{Asked}
use Rattle.ob_schema.specs.Facts.{Told}
use Rattle.ob_schema.specs.Fields.{Column}
use Rattle.ob_schema.specs.Models.{HasField, HasModel}
use Rattle.ob_schema.specs.declared.info.ModelInfo.{ModelInfo}
use Rattle.serde_json.specs.Data.{Data}
use Rattle.serde_json.specs.View.{view}
use Rattle.serde_json.specs.declared.value.Value.{Value as Json}

-- ---- what is asked for

-- what the code has of it, whose fields it has by number
abbrev pub read_view : ModelInfo → Asked → arguments.Asked
read_view info asked = record { ids = asked.ids.items; fields = columns_at info asked.fields.items }

-- the same with the fields alone that the caller may read
abbrev pub told_read : Caller → ModelNo → arguments.Asked → arguments.Asked
told_read by model asked = record { ids = asked.ids; fields = told_columns by.policy.now by.groups.now by.user model asked.fields }

-- it asks of a model and of fields that there are, by a policy over them
pub record IsReadOver (models : List ModelInfo) (asked : Asked) : Type 0 where
  pub policy : IsPolicyOver models asked.by.policy.now
  pub model : HasModel models asked.model
  pub fields : All (HasField models asked.model) asked.fields.items

-- ---- rows

-- of some ids the least that isn't known; none where all are
abbrev pub IsLeastMissing : Told → ModelNo → List ℕ → Option ℕ → Type 0
IsLeastMissing told model ids (Some id) = IsLeastFailing (told.knows model) ids id
IsLeastMissing told model ids None = All (λ id. told.knows model (record { 0 = id }) ≡ true) ids

-- the JSON of a cell
abbrev pub TellsCell : Told → ModelNo → FieldNo → RecId → Data → Type 0
TellsCell told model field id d = IsJsonOf (told.held (record { model = model; id = id; field = field })) d

-- the object that tells of a row that is known; none where it isn't
abbrev pub TellsOrHides : Told → ModelNo → List Column → RecId → Option Json → Type 0
TellsOrHides told model fields id (Some json) = (told.knows model id ≡ true) × TellsRow told model fields id (view json)
TellsOrHides told model fields id None = told.knows model id ≡ false

-- ---- answers

-- a row that isn't known, the least of these
abbrev pub HidesLeast : Told → ModelNo → List ℕ → Refusal → Type 0
HidesLeast told model ids (refusal.Rule m operation id name) = (m ≡ model) × (operation ≡ op.Read) × (name ≡ None) × IsLeastFailing (told.knows model) ids id.0
HidesLeast told model ids _ = ⊥

-- the objects of the rows that are asked for, or the least that isn't known
abbrev pub TellsAsked : Told → Type 0 → ModelNo → arguments.Asked → Result Data Refusal → Type 0
TellsAsked told rose model asked (Ok json) = ListsRows told model asked.fields asked.ids json
TellsAsked told rose model asked (Err why) = Refuses rose (HidesLeast told model asked.ids) why

-- a row that isn't known is one of these
abbrev pub IsHiddenAmong : ModelNo → List ℕ → Refusal → Type 0
IsHiddenAmong model ids (refusal.Rule m operation id name) = (m ≡ model) × (operation ≡ op.Read) × (name ≡ None) × Contains ids id.0
IsHiddenAmong model ids _ = ⊥
