-- The machine's `read`: the named fields of the named rows, as the caller sees them.
use Rattle.std.specs.Prelude.{◌≡◌, ◌≤◌, ℕ, List, [], ◌∷◌, codes, true, false, filter, Bool, All, None, Result, Ok, Err, Contains, ⊤}
use Rattle.ob_access.specs.Policies.{PolicyData}
use Rattle.ob_base.specs.declared.id.FieldNo.{FieldNo}
use Rattle.ob_base.specs.declared.id.ModelNo.{ModelNo}
use Rattle.ob_base.specs.declared.id.RecId.{RecId}
use Rattle.ob_base.specs.declared.refusal.Op.TheVariants as op
use Rattle.ob_base.specs.declared.refusal.Refusal.{Refusal}
use Rattle.ob_base.specs.declared.refusal.Refusal.TheVariants as refusal
use Rattle.ob_call.specs.Called.{Called}
use Rattle.ob_codec.specs.JsonForm.{IsJsonOf}
use Rattle.ob_query.specs.Denials.{AskCause, IsRefused, MayAsk}
use Rattle.ob_query.specs.NamedFields.{read_named}
use Rattle.ob_query.specs.ReadArguments.{Asked, asked_of}
use Rattle.ob_query.specs.Views.{FromView, View, may_read_field}
use Rattle.ob_schema.specs.Facts.{Told}
use Rattle.ob_schema.specs.Fields.{Column}
use Rattle.ob_schema.specs.Paths.{step_at}
use Rattle.ob_schema.specs.Tables.{Tables}
use Rattle.ob_schema.specs.declared.info.ModelInfo.{ModelInfo}
use Rattle.serde_json.specs.Data.{unsigned, Data, number, array, object, Members, no_members, put}
use Rattle.serde_json.specs.View.{items_of}

-- ---- rows as they are told

-- the object so far has what is told of these fields of a row, and becomes this object
abbrev pub TellsFields : Told → ModelNo → RecId → List Column → Members → Data → Type 0
TellsFields told model id [] members d = d ≡ object members
TellsFields told model id (column ∷ more) members d =
    (own : Data) × IsJsonOf (told.held (record { model = model; id = id; field = record { 0 = column.0 } })) own × TellsFields told model id more (put column.1.name own members) d

-- the object that tells of a row: its id and these fields
abbrev pub TellsRow : Told → ModelNo → List Column → RecId → Data → Type 0
TellsRow told model fields id d = TellsFields told model id fields (put (codes "id") (number (unsigned id.0)) no_members) d

-- each id is that of a known row, and has an object that tells of it, in the order of the ids
abbrev pub TellsRows : Told → ModelNo → List Column → List ℕ → List Data → Type 0
TellsRows told model fields [] [] = ⊤
TellsRows told model fields (id ∷ ids) (d ∷ ds) =
    (told.knows model (record { 0 = id }) ≡ true) × TellsRow told model fields (record { 0 = id }) d × TellsRows told model fields ids ds
TellsRows told model fields _ _ = ⊥

-- of the fields that are asked for those that the caller may read: all of them where some are named, since a call that names another is refused
abbrev pub told_columns : PolicyData → List RecId → RecId → ModelNo → List Column → List Column
told_columns policy own user model fields = filter (λ column. may_read_field policy own user (step_at model (record { 0 = column.0 }))) fields

-- ---- ids that are refused

-- the least of some ids that fails a test
pub record IsLeastFailing (test : RecId → Bool) (ids : List ℕ) (id : ℕ) : Type 0 where
  pub asked : Contains ids id
  pub fails : test (record { 0 = id }) ≡ false
  pub least : All (λ other. test (record { 0 = other }) ≡ false → id ≤ other) ids

-- an id that doesn't exist, the least; else, where all exist, one whose row the caller doesn't see, the least: no rule is named
abbrev pub IsUnreadable : View → ModelNo → List ℕ → Refusal → Type 0
IsUnreadable view model ids (refusal.Missing m id) = (m ≡ model) × IsLeastFailing (view.exists model) ids id.0
IsUnreadable view model ids (refusal.Rule m operation id name) =
    (m ≡ model) × (operation ≡ op.Read) × (name ≡ None) × All (λ other. view.exists model (record { 0 = other }) ≡ true) ids × IsLeastFailing (view.told.knows model) ids id.0
IsUnreadable view model ids _ = ⊥

-- ---- the call

-- why a read is refused: for its arguments, or for want of a right; else, for an id
abbrev pub ReadRefuses : PolicyData → View → Called → Refusal → Type 0
ReadRefuses policy view c (refusal.Missing m id) = MayAsk policy view c (read_named c) × (asked : Asked) × (asked_of c ≡ Ok asked) × IsUnreadable view c.model asked.ids (refusal.Missing m id)
ReadRefuses policy view c (refusal.Rule m operation id name) = MayAsk policy view c (read_named c) × (asked : Asked) × (asked_of c ≡ Ok asked) × IsUnreadable view c.model asked.ids (refusal.Rule m operation id name)
ReadRefuses policy view c why = IsRefused policy view c (asked_of c) (read_named c) why

-- From a view: the objects of the rows, in the order of their ids, or why not.
abbrev pub ReadsOver : PolicyData → Called → View → Result Data Refusal → Type 0
ReadsOver policy c view (Ok json) =
    MayAsk policy view c (read_named c) × (asked : Asked) × (objects : List Data) × (asked_of c ≡ Ok asked)
    × TellsRows view.told c.model (told_columns policy view.own view.user c.model asked.fields) asked.ids objects × (json ≡ array (items_of objects))
ReadsOver policy c view (Err why) = ReadRefuses policy view c why

-- The machine answers a read from the caller's view.
abbrev pub Reads : List ModelInfo → PolicyData → Called → Tables → Result Data Refusal → Type 0
Reads models policy c tables outcome = FromView models policy c.caller (ReadsOver policy c) tables outcome

-- why a read over any keeper is refused: an id that is missing, or whose row isn't admitted, is one that was asked for
abbrev pub ReadCause : PolicyData → Called → Refusal → Type 0
ReadCause policy c (refusal.Missing m id) = (asked : Asked) × (asked_of c ≡ Ok asked) × (m ≡ c.model) × Contains asked.ids id.0
ReadCause policy c (refusal.Rule m operation id name) = (asked : Asked) × (asked_of c ≡ Ok asked) × (m ≡ c.model) × (operation ≡ op.Read) × (name ≡ None) × Contains asked.ids id.0
ReadCause policy c why = AskCause policy c (asked_of c) (read_named c) why
