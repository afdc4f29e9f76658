-- What a create or a write with commands promises, until its edits are told row by row: it goes on to sound tables, or changes nothing and says something true.
use Rattle.std.specs.Prelude.{◌≡◌, ◌++◌, ◌⊎◌, ℕ, ⊤, List, ◌∷◌, length, map, All, Contains, Option, Some, None, Result, Ok, Err, true}
use Rattle.ob_access.specs.Policies.{PolicyData}
use Rattle.ob_base.specs.declared.id.ModelNo.{ModelNo}
use Rattle.ob_base.specs.declared.id.RecId.{RecId}
use Rattle.ob_base.specs.declared.id.RowKey.{RowKey}
use Rattle.ob_base.specs.declared.place.PathStep.{PathStep}
use Rattle.ob_base.specs.declared.refusal.Op.{Op}
use Rattle.ob_base.specs.declared.refusal.Op.TheVariants as op
use Rattle.ob_base.specs.declared.refusal.Refusal.{Refusal}
use Rattle.ob_base.specs.declared.refusal.Refusal.TheVariants as refusal
use Rattle.ob_call.specs.Arguments.{Expected, Given, arguments_of}
use Rattle.ob_call.specs.Called.{Called}
use Rattle.ob_call.specs.Ids.{named_ids}
use Rattle.ob_codec.specs.CommandForms.{list_json, number_json}
use Rattle.ob_codec.specs.Commands.{listed}
use Rattle.ob_commands.specs.Asked.{create_expects, write_expects}
use Rattle.ob_effect.specs.Rights.{ByGroups, IsDenied, IsGranted, IsUnwritable, IsWithheld}
use Rattle.ob_schema.specs.Broken.{AreSound}
use Rattle.ob_schema.specs.Models.{HasField}
use Rattle.ob_schema.specs.Tables.{Tables, row_at}
use Rattle.ob_schema.specs.declared.info.ModelInfo.{ModelInfo}
use Rattle.serde_json.specs.Data.{Data, array, boolean}
use Rattle.ob_effect.specs.NextIds.{IsTaken, NextIdsRise}

-- ---- places

-- the place is the first that is wrong among the arguments, or lies in the one that has the values
abbrev pub IsMalformed : Called → List Expected → (List (Option Given) → Option Given) → List PathStep → Type 0
IsMalformed called expected vals place = (arguments_of expected called.args called.kw ≡ Err place)
    ⊎ ((given : List (Option Given)) × (arguments_of expected called.args called.kw ≡ Ok given)
    × (argument : Given) × (vals given ≡ Some argument) × (below : List PathStep) × (place ≡ argument.place ++ below))

-- the first argument, and the second
abbrev pub first_of : List (Option Given) → Option Given
first_of (given ∷ gs) = given
first_of _ = None

abbrev pub second_of : List (Option Given) → Option Given
second_of (a ∷ given ∷ gs) = given
second_of _ = None

-- the place of a create's arguments that is wrong
abbrev pub IsMalformedCreate : Called → List PathStep → Type 0
IsMalformedCreate called place = IsMalformed called (create_expects called.info.fields) first_of place

-- that of a write's
abbrev pub IsMalformedWrite : Called → List PathStep → Type 0
IsMalformedWrite called place = IsMalformed called (write_expects called.info.fields) second_of place

-- the ids that a write names
abbrev pub Names : Called → ℕ → Type 0
Names called id = (given : List (Option Given)) × (arguments_of (write_expects called.info.fields) called.args called.kw ≡ Ok given)
    × (argument : Given) × (first_of given ≡ Some argument) × Contains (named_ids argument.json) id

-- ---- refusals

module _ (models : List ModelInfo) (policy : PolicyData) (called : Called) where
  -- a rule denies the caller a row of the tables before; or of a create one of sound tables
  abbrev pub IsDeniedRow : Tables → Op → RowKey → List ℕ → List RecId → Type 0
  IsDeniedRow old op.Create row name own = (tables : Tables) × AreSound models tables × IsDenied policy called.caller models tables op.Create row name own
  IsDeniedRow old operation row name own = IsDenied policy called.caller models old operation row name own

  -- what a refusal says is true of the tables before
  abbrev pub IsTrue : (List PathStep → Type 0) → Tables → Refusal → Type 0
  IsTrue IsWrong old (refusal.Request place) = IsWrong place
  IsTrue IsWrong old (refusal.Right model operation) = ByGroups models policy old called.caller (IsWithheld policy called.caller operation model)
  IsTrue IsWrong old (refusal.FieldRight model field) = ByGroups models policy old called.caller (IsUnwritable policy called.caller model field)
  IsTrue IsWrong old (refusal.Missing model id) = (model ≡ called.model) × Names called id.0 × (row_at old model id ≡ None)
  IsTrue IsWrong old (refusal.Rule model operation id (Some name)) =
      ByGroups models policy old called.caller (IsDeniedRow old operation (record { model = model; id = id }) name)
  IsTrue IsWrong old (refusal.Constraint b) = HasField models b.cell.model b.cell.field
  IsTrue IsWrong old _ = ⊥

  -- whatever the keeper tells, by groups that the caller may have
  abbrev pub MayBeTrue : (List PathStep → Type 0) → Refusal → Type 0
  MayBeTrue IsWrong (refusal.Request place) = IsWrong place
  MayBeTrue IsWrong (refusal.Right model operation) = (own : List RecId) × IsWithheld policy called.caller operation model own
  MayBeTrue IsWrong (refusal.FieldRight model field) = (own : List RecId) × IsUnwritable policy called.caller model field own
  MayBeTrue IsWrong (refusal.Missing model id) = (model ≡ called.model) × Names called id.0
  MayBeTrue IsWrong (refusal.Rule model operation id (Some name)) = ⊤
  MayBeTrue IsWrong (refusal.Constraint b) = HasField models b.cell.model b.cell.field
  MayBeTrue IsWrong _ = ⊥

-- ---- answers

-- the id of the one row that an object asks for, or the list of those of some objects, one for each
abbrev pub TellsFor : ModelNo → (old new : Tables) → (asked json : Data) → Type 0
TellsFor model old new (array items) json = (ids : List ℕ) × (json ≡ list_json (map number_json ids)) × (length ids ≡ length (listed items)) × All (IsTaken model old new) ids
TellsFor model old new _ json = (id : ℕ) × (json ≡ number_json id) × IsTaken model old new id

-- the answer of a create, whose arguments are right
abbrev pub TellsIds : Called → (old new : Tables) → Data → Type 0
TellsIds called old new json = (given : List (Option Given)) × (arguments_of (create_expects called.info.fields) called.args called.kw ≡ Ok given)
    × (argument : Given) × (first_of given ≡ Some argument) × TellsFor called.model old new argument.json json

-- that of a write
abbrev pub TellsTrue : Called → (old new : Tables) → Data → Type 0
TellsTrue called old new json = (given : List (Option Given)) × (arguments_of (write_expects called.info.fields) called.args called.kw ≡ Ok given) × (json ≡ boolean true)

-- ---- the calls

module _ (models : List ModelInfo) (policy : PolicyData) (called : Called) where
  -- the caller may do it to rows of the model, it goes on to sound tables, no next id falls, and the answer fits; or it changes nothing, and what it says is true
  abbrev pub Changes : Op → (List PathStep → Type 0) → ((old new : Tables) → Data → Type 0) → Tables → Result Data Refusal → Tables → Type 0
  Changes operation IsWrong Fits old (Ok json) new =
      ByGroups models policy old called.caller (IsGranted policy called.caller operation called.model) × AreSound models new × NextIdsRise old new × Fits old new json
  Changes operation IsWrong Fits old (Err why) new = IsTrue models policy called IsWrong old why × (new ≡ old)

  -- a create with commands, and why it may be refused whatever the keeper tells
  abbrev pub CreatesSome : Tables → Result Data Refusal → Tables → Type 0
  CreatesSome = Changes op.Create (IsMalformedCreate called) (TellsIds called)

  abbrev pub CreateMayCome : Refusal → Type 0
  CreateMayCome = MayBeTrue models policy called (IsMalformedCreate called)

  -- a write with commands, which answers true
  abbrev pub WritesSome : Tables → Result Data Refusal → Tables → Type 0
  WritesSome = Changes op.Write (IsMalformedWrite called) (TellsTrue called)

  abbrev pub WriteMayCome : Refusal → Type 0
  WriteMayCome = MayBeTrue models policy called (IsMalformedWrite called)
