-- What the steps of a create say of their results.
use Rattle.std.specs.Prelude.{◌≡◌, ◌⊎◌, ◌++◌, List, Bool, Option, Some, None, Result, Ok, Err}
use Rattle.ob_base.specs.declared.id.FieldNo.{FieldNo}
use Rattle.ob_base.specs.declared.id.ModelNo.{ModelNo}
use Rattle.ob_base.specs.declared.place.PathStep.{PathStep}
use Rattle.ob_base.specs.declared.refusal.Op.TheVariants as op
use Rattle.ob_base.specs.declared.refusal.Refusal.{Refusal}
use Rattle.ob_base.specs.declared.refusal.Refusal.TheVariants as refusal
use Rattle.ob_call.specs.Called.{Called}
use Rattle.ob_call.specs.Places.{IsMalformedAt}
use Rattle.ob_codec.specs.declared.fault.CodecFault.{CodecFault}
use Rattle.ob_codec.specs.declared.fault.CodecFault.TheVariants as codec
use Rattle.ob_rows.specs.AskingSteps.{AdmitsBy, DeniesBy}
use Rattle.ob_rows.specs.Author.{author_of}
use Rattle.ob_orm.specs.Create.{Asked, IsAdmissible, IsCreated, StopsCreate, asked_of, ids_told, made, touched, with_rows}
use Rattle.ob_orm.specs.Refusing.{RefusesAsked}
use Rattle.ob_orm.specs.NewRows.{Values, made_rows}
use Rattle.ob_rows.specs.Rights.{AreAdmitted, Asking, DeniesOne, first_unwritable}
use Rattle.ob_orm.specs.Touches.{rows_made}
use Rattle.ob_orm.specs.TouchSteps.{first_withheld_by, rows_known}
use Rattle.ob_rows.specs.declared.asking.Caller.{Caller}
use Rattle.ob_rows.specs.declared.author.Author.{Author}
use Rattle.ob_orm.specs.declared.creating.Plan.{Plan}
use Rattle.ob_orm.specs.declared.creating.rows.Rows.{Rows}
use Rattle.ob_orm.specs.declared.touching.Touched.{Touched}
use Rattle.ob_schema.specs.Broken.{IsBroken, Sound}
use Rattle.ob_schema.specs.Facts.{told_by}
use Rattle.ob_schema.specs.Models.{HasField}
use Rattle.ob_schema.specs.Tables.{Tables}
use Rattle.ob_schema.specs.declared.info.ModelInfo.{ModelInfo}
use Rattle.serde_json.specs.Data.{Data}
use Rattle.serde_json.specs.View.{view}

-- the refusal tells a fault at its place below this one
abbrev pub IsFaultAt : List PathStep → CodecFault → Refusal → Type 0
IsFaultAt place (codec.Shape below) why = IsMalformedAt (place ++ below) why
IsFaultAt place (codec.Range below) why = IsMalformedAt (place ++ below) why
IsFaultAt place (codec.Unknown below) why = IsMalformedAt (place ++ below) why
IsFaultAt place codec.NoMemory why = why ≡ refusal.NoMemory

-- what objects ask for, as the code has it
abbrev pub rows_view : Rows → Asked
rows_view rows = record { values = rows.values.items; fields = rows.fields.items; wrong = rows.wrong; is_list = rows.is_list }

-- a create, by the groups of its caller that were found
abbrev pub CreatesBy : List ModelInfo → Caller → Called → Tables → Result Data Refusal → Tables → Type 0
CreatesBy models by called old (Ok json) new = IsCreated models by.policy.now called old json new by.groups.now
CreatesBy models by called old (Err why) new = RefusesAsked (StopsCreate models by.policy.now (author_of called) called.model old by.groups.now) (asked_of models called) why × (new ≡ old)

-- rows that are asked for are planned over tables: the edits that make them, and how their ids are told
abbrev pub IsPlanned : List ModelInfo → Author → ModelNo → List Values → Bool → Tables → Plan → Type 0
IsPlanned models by model values is_list tables plan =
    let made = made_rows models by tables model values in (plan.making.edits.items ≡ made.edits) × (view plan.told ≡ ids_told is_list made.ids)

-- rows that are asked for are made for a caller, whose rules admit them to him
pub record IsMadeBy (models : List ModelInfo) (by : Caller) (author : Author) (model : ModelNo) (tables : Tables) (asked : Asked) (json : Data) : Type 0 where
  pub admissible : IsAdmissible models by.policy.now author model tables by.groups.now asked
  pub admitted : AreAdmitted by.policy.now (told_by models (with_rows models author model tables asked)) by.groups.now author.user op.Create (rows_made (touched models author model tables asked))
  pub answer : json ≡ ids_told asked.is_list (made models author model tables asked).ids

-- a caller may do this, and give these fields of a model values, none of which is wrong; or why not
abbrev pub IsAllowedBy : Caller → ModelNo → List Asking → List FieldNo → Option (List PathStep) → Result (Unit {0}) Refusal → Type 0
IsAllowedBy by model askings fields wrong (Ok _) = (first_withheld_by by askings ≡ None) × (first_unwritable by.policy.now by.groups.now by.user model fields ≡ None) × (wrong ≡ None)
IsAllowedBy by model askings fields wrong (Err (refusal.Right m operation)) = first_withheld_by by askings ≡ Some (operation, m)
IsAllowedBy by model askings fields wrong (Err (refusal.FieldRight m field)) =
    (first_withheld_by by askings ≡ None) × (m ≡ model) × (first_unwritable by.policy.now by.groups.now by.user model fields ≡ Some field)
IsAllowedBy by model askings fields wrong (Err (refusal.Request place)) = (first_withheld_by by askings ≡ None) × (first_unwritable by.policy.now by.groups.now by.user model fields ≡ None) × (wrong ≡ Some place)
IsAllowedBy by model askings fields wrong (Err _) = ⊥

-- Rows that are there before a create and changed by it, and rows that it makes.
module _ (models : List ModelInfo) (by : Caller) (touched : Touched) where
  -- rules admit the first to the caller, by the tables before
  abbrev pub AdmitsChanged : Tables → Type 0
  AdmitsChanged old = AdmitsBy by (told_by models old) op.Write (rows_known (told_by models old) touched.changed.keys)

  -- and the others, by the tables with them
  abbrev pub AdmitsMade : Tables → Type 0
  AdmitsMade new = AdmitsBy by (told_by models new) op.Create (rows_known (told_by models new) touched.made.keys)

  -- why they aren't settled: a rule denies one of the first; the tables with them break something; or a rule denies one of the others
  abbrev pub StopsSettling : (old new : Tables) → Refusal → Type 0
  StopsSettling old new (refusal.Rule m operation id rule) =
      DeniesBy by (told_by models old) op.Write (rows_known (told_by models old) touched.changed.keys) (refusal.Rule m operation id rule)
      ⊎ (AdmitsChanged old × Sound models new × DeniesBy by (told_by models new) op.Create (rows_known (told_by models new) touched.made.keys) (refusal.Rule m operation id rule))
  StopsSettling old new (refusal.Constraint b) = AdmitsChanged old × IsBroken models new b
  StopsSettling old new _ = ⊥

-- whatever the tables
abbrev pub MayStopSettling : List ModelInfo → Touched → Refusal → Type 0
MayStopSettling models done (refusal.Rule m operation id rule) =
    DeniesOne op.Write done.changed.keys (refusal.Rule m operation id rule) ⊎ DeniesOne op.Create done.made.keys (refusal.Rule m operation id rule)
MayStopSettling models done (refusal.Constraint b) = HasField models b.cell.model b.cell.field
MayStopSettling models done _ = ⊥
