-- The machine's `create`: rows of given values, under the model's next ids in turn, with rows of parents.
use Rattle.std.specs.Prelude.{◌≡◌, ◌⊎◌, ℕ, List, [], ◌∷◌, map, get_or, Bool, true, false, if◌then◌else◌, Contains, Option, Some, None, IsSome, Result, Ok, Err}
use Rattle.std.specs.List.{flat_map}
use Rattle.std.specs.Option.{option_or}
use Rattle.ob_access.specs.Policies.{PolicyData}
use Rattle.ob_base.specs.Chain.{◌>>=◌}
use Rattle.ob_base.specs.declared.id.FieldNo.{FieldNo}
use Rattle.ob_base.specs.declared.id.ModelNo.{ModelNo}
use Rattle.ob_base.specs.declared.id.RecId.{RecId}
use Rattle.ob_base.specs.declared.place.PathStep.{PathStep}
use Rattle.ob_base.specs.declared.refusal.Op.TheVariants as op
use Rattle.ob_base.specs.declared.refusal.Refusal.{Refusal}
use Rattle.ob_base.specs.declared.refusal.Refusal.TheVariants as refusal
use Rattle.ob_codec.specs.CommandForms.{list_json, number_json}
use Rattle.ob_codec.specs.Commands.{listed}
use Rattle.ob_schema.specs.Broken.{IsBroken, Sound}
use Rattle.ob_schema.specs.Facts.{told_by}
use Rattle.ob_schema.specs.Models.{HasField}
use Rattle.ob_schema.specs.Tables.{Tables}
use Rattle.ob_schema.specs.declared.info.FieldInfo.{FieldInfo}
use Rattle.ob_schema.specs.declared.info.ModelInfo.{ModelInfo}
use Rattle.ob_tables.specs.After.{after}
use Rattle.ob_tables.specs.Changes.{has_row}
use Rattle.serde_json.specs.Data.{Data, array}
use Rattle.ob_call.specs.Arguments.{Expected, Given, arguments_of}
use Rattle.ob_call.specs.Called.{Called}
use Rattle.ob_rows.specs.Author.{author_of}
use Rattle.ob_orm.specs.GivenValues.{GivenObject, object_from}
use Rattle.ob_orm.specs.NewRows.{MadeRows, Values, made_rows}
use Rattle.ob_orm.specs.Objects.{items_at, objects_expected}
use Rattle.ob_orm.specs.Refusing.{RefusesAsked}
use Rattle.ob_rows.specs.Rights.{AreAdmitted, Asking, ByGroups, DeniesLeast, IsUnwritable, IsWithheld, first_unwritable, first_withheld}
use Rattle.ob_orm.specs.Touches.{Touch, asking_of, may_touch, rows_changed, rows_made, touches_of}
use Rattle.ob_rows.specs.declared.author.Author.{Author}

-- what a create asks for: the values that objects give rows, those that haven't their form aside; the fields that their keys name; the first place that is wrong; and whether the objects stand in a list
pub record Asked : Type 0 where
  pub values : List Values
  pub fields : List FieldNo
  pub wrong : Option (List PathStep)
  pub is_list : Bool

-- the first place of objects that is wrong
abbrev pub wrong_among : List GivenObject → Option (List PathStep)
wrong_among [] = None
wrong_among (object ∷ more) = option_or object.wrong (wrong_among more)

-- what objects ask for, one behind another
abbrev pub asked_by : Bool → List GivenObject → Asked
asked_by is_list objects = record {
  values = map (λ object. object.values) objects;
  fields = flat_map (λ object. object.fields) objects;
  wrong = wrong_among objects;
  is_list = is_list;
}

-- how ids are told: that of the one row, or the list of those of each
abbrev pub ids_told : Bool → List ℕ → Data
ids_told is_list ids = if is_list then list_json (map number_json ids) else number_json (get_or ids 0 0)

module _ (models : List ModelInfo) where
  -- what a create is called with
  abbrev pub create_expects : List FieldInfo → List Expected
  create_expects fields = objects_expected models fields ∷ []

  -- what an argument at a place asks for
  abbrev pub asked_in : ModelInfo → List PathStep → Data → Asked
  asked_in info place (array items) = asked_by true (map (object_from models info) (items_at place 0 (listed items)))
  asked_in info place d = asked_by false (object_from models info (record { place = place; json = d }) ∷ [])

  -- what the one argument asks for, which is given
  abbrev pub asked_from : ModelInfo → List (Option Given) → Asked
  asked_from info (Some g ∷ gs) = asked_in info g.place g.json
  asked_from info _ = asked_by true []

  -- what a create asks for, or the first place of its arguments that is wrong; values aren't looked at yet
  abbrev pub asked_of : Called → Result Asked (List PathStep)
  asked_of called = arguments_of (create_expects called.info.fields) called.args called.kw >>= λ gs. Ok (asked_from called.info gs)

-- What is asked for is made by an author of rows of a model, over the tables before.
module _ (models : List ModelInfo) (by : Author) (model : ModelNo) (old : Tables) (asked : Asked) where
  -- the edits that make the rows, and their ids
  abbrev pub made : MadeRows
  made = made_rows models by old model asked.values

  -- the tables with the rows, whatever they break
  abbrev pub with_rows : Tables
  with_rows = after models old made.edits

  -- what is done to rows
  abbrev pub touched : List Touch
  touched = touches_of models old made.edits

  -- what is asked for: to make rows of the model, whether there is an object or not; then what is done to each row
  abbrev pub askings : List Asking
  askings = (op.Create, model) ∷ map asking_of touched

-- Rows over tables, asked for by a caller in these groups.
module _ (models : List ModelInfo) (policy : PolicyData) (by : Author) (model : ModelNo) (old : Tables) (own : List RecId) (asked : Asked) where
  -- the first right that he lacks
  abbrev pub withheld : Option Asking
  withheld = first_withheld policy own by.user (askings models by model old asked)

  -- the first field that he may not give a value
  abbrev pub unwritable : Option FieldNo
  unwritable = first_unwritable policy own by.user model asked.fields

  -- he may do all of it, and each value has its form
  pub record IsAllowed : Type 0 where
    pub rights : withheld ≡ None
    pub fields : unwritable ≡ None
    pub forms : asked.wrong ≡ None

  -- nor does a rule deny him a row that was there before and is changed
  pub record IsAdmissible : Type 0 where
    pub allowed : IsAllowed
    pub admitted : AreAdmitted policy (told_by models old) own by.user op.Write (rows_changed (has_row old) (touched models by model old asked))

  -- why it is refused: the first right that he lacks; the first field that he may not give; the first value that is wrong; the least row that is changed and a rule denies him; something that the tables with the rows break; or the least row that is made and a rule denies him in these tables
  abbrev pub StopsCreate : Refusal → Type 0
  StopsCreate (refusal.Right m operation) = withheld ≡ Some (operation, m)
  StopsCreate (refusal.FieldRight m field) = (withheld ≡ None) × (m ≡ model) × (unwritable ≡ Some field)
  StopsCreate (refusal.Request place) = (withheld ≡ None) × (unwritable ≡ None) × (asked.wrong ≡ Some place)
  StopsCreate (refusal.Rule m operation id rule) =
      (IsAllowed × DeniesLeast policy (told_by models old) own by.user op.Write (rows_changed (has_row old) (touched models by model old asked)) (refusal.Rule m operation id rule))
      ⊎ (IsAdmissible × Sound models (with_rows models by model old asked)
      × DeniesLeast policy (told_by models (with_rows models by model old asked)) own by.user op.Create (rows_made (touched models by model old asked)) (refusal.Rule m operation id rule))
  StopsCreate (refusal.Constraint b) = IsAdmissible × IsBroken models (with_rows models by model old asked) b
  StopsCreate _ = ⊥

-- a create that is carried out for a caller in these groups: nothing stands against it, nothing is broken, rules admit the rows that are made, which stand under the next ids, and these are the answer
pub record IsCreated (models : List ModelInfo) (policy : PolicyData) (called : Called) (old : Tables) (json : Data) (new : Tables) (own : List RecId) : Type 0 where
  pub asked : Asked
  pub given : asked_of models called ≡ Ok asked
  pub admissible : IsAdmissible models policy (author_of called) called.model old own asked
  pub tables : new ≡ with_rows models (author_of called) called.model old asked
  pub sound : Sound models new
  pub admitted : AreAdmitted policy (told_by models new) own called.caller op.Create (rows_made (touched models (author_of called) called.model old asked))
  pub answer : json ≡ ids_told asked.is_list (made models (author_of called) called.model old asked).ids

-- The machine may answer a create so, and go on to these tables, by the groups that its caller has
-- before it: with the new ids where nothing stands against it, else with what does, changing nothing.
abbrev pub Creates : List ModelInfo → PolicyData → Called → Tables → Result Data Refusal → Tables → Type 0
Creates models policy called old (Ok json) new = ByGroups models policy old called.caller (IsCreated models policy called old json new)
Creates models policy called old (Err why) new =
    ByGroups models policy old called.caller (λ own. RefusesAsked (StopsCreate models policy (author_of called) called.model old own) (asked_of models called) why) × (new ≡ old)

-- ---- whatever the keeper tells

-- why rows may be refused: a right that may be asked for is withheld, in some groups; or the right to a field that keys name; a value is wrong; a rule denies a row that may be made or changed; or something is broken at a cell of the models
abbrev pub MayStopCreate : List ModelInfo → PolicyData → RecId → ModelNo → Asked → Refusal → Type 0
MayStopCreate models policy user model asked (refusal.Right m operation) = (may_touch models model operation m ≡ true) × IsWithheld policy user operation m
MayStopCreate models policy user model asked (refusal.FieldRight m field) = (m ≡ model) × Contains asked.fields field × IsUnwritable policy user model field
MayStopCreate models policy user model asked (refusal.Request place) = asked.wrong ≡ Some place
MayStopCreate models policy user model asked (refusal.Rule m operation id rule) = (may_touch models model operation m ≡ true) × IsSome rule
MayStopCreate models policy user model asked (refusal.Constraint b) = HasField models b.cell.model b.cell.field
MayStopCreate models policy user model asked _ = ⊥

-- why a create is refused: its arguments are malformed, first at this place; or what they ask for may be refused so
abbrev pub CreateCause : List ModelInfo → PolicyData → Called → Refusal → Type 0
CreateCause models policy called why = RefusesAsked (MayStopCreate models policy called.caller called.model) (asked_of models called) why
