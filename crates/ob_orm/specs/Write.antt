-- The machine's `write`: the same values for each of the named rows, and for the rows of their parents.
use Rattle.std.specs.Prelude.{◌≡◌, ◌++◌, ℕ, List, [], ◌∷◌, codes, Contains, IsSome, true, false, Option, Some, None, Result, Ok, Err}
use Rattle.std.specs.List.{flat_map}
use Rattle.std.specs.Option.{option_map_or}
use Rattle.ob_access.specs.Policies.{PolicyData}
use Rattle.ob_base.specs.Chain.{◌>>=◌}
use Rattle.ob_base.specs.declared.id.ModelNo.{ModelNo}
use Rattle.ob_base.specs.declared.id.RecId.{RecId}
use Rattle.ob_base.specs.declared.id.RowKey.{RowKey}
use Rattle.ob_base.specs.declared.place.PathStep.{PathStep}
use Rattle.ob_base.specs.declared.refusal.Op.TheVariants as op
use Rattle.ob_base.specs.declared.refusal.Refusal.{Refusal}
use Rattle.ob_base.specs.declared.refusal.Refusal.TheVariants as refusal
use Rattle.ob_schema.specs.Broken.{IsBroken, Sound}
use Rattle.ob_schema.specs.Facts.{told_by}
use Rattle.ob_schema.specs.Models.{HasField}
use Rattle.ob_schema.specs.Tables.{Tables}
use Rattle.ob_schema.specs.declared.info.FieldInfo.{FieldInfo}
use Rattle.ob_schema.specs.declared.info.ModelInfo.{ModelInfo}
use Rattle.ob_schema.specs.declared.info.ParentInfo.{ParentInfo}
use Rattle.ob_tables.specs.After.{after}
use Rattle.ob_tables.specs.declared.edit.Edit.{Edit}
use Rattle.serde_json.specs.Data.{Data, boolean}
use Rattle.ob_call.specs.Arguments.{Expected, Given, arguments_of}
use Rattle.ob_call.specs.Called.{Called}
use Rattle.ob_call.specs.Ids.{IsLeastMissing, named_ids}
use Rattle.ob_rows.specs.Author.{author_of}
use Rattle.ob_orm.specs.GivenValues.{GivenObject, object_from}
use Rattle.ob_orm.specs.NewRows.{Values, behind, changed_values, filled, parents_of, row_edits}
use Rattle.ob_orm.specs.Refusing.{RefusesAsked}
use Rattle.ob_rows.specs.Rights.{AreAdmitted, ByGroups, DeniesLeast, IsUnwritable, IsWithheld}
use Rattle.ob_orm.specs.Touched.{linked_in, touched, touched_models}
use Rattle.ob_rows.specs.Values.{new_values_fault}
use Rattle.ob_orm.specs.Writable.{IsWritable, unwritable, withheld}
use Rattle.ob_rows.specs.declared.author.Author.{Author}
use Rattle.ob_rows.specs.There.{AreThere, ids_expected}

-- what a write asks for: the rows, each once, and the object of values that each of them is given, for its own fields and those of its parents
pub record Change : Type 0 where
  pub ids : List ℕ
  pub object : GivenObject

module _ (models : List ModelInfo) where
  -- what a write expects of its values: an object of values for these fields
  abbrev pub vals_expected : List FieldInfo → Expected
  vals_expected fields = record { name = codes "vals"; required = true; fault = new_values_fault models fields }

  -- what a write is called with: ids, and an object of values
  abbrev pub write_expects : List FieldInfo → List Expected
  write_expects fields = ids_expected ∷ vals_expected fields ∷ []

  -- what the arguments ask for; both are given
  abbrev pub change_from : ModelInfo → List (Option Given) → Change
  change_from info (Some ids ∷ Some vals ∷ gs) = record { ids = named_ids ids.json; object = object_from models info vals }
  change_from info _ = record { ids = []; object = record { fields = []; values = []; wrong = None } }

  -- what a write asks for, or the first place of its arguments that is wrong; values aren't looked at yet
  abbrev pub change_of : Called → Result Change (List PathStep)
  change_of called = arguments_of (write_expects called.info.fields) called.args called.kw >>= λ gs. Ok (change_from called.info gs)

-- What is given to rows of a model is set by an author, over the tables before.
module _ (models : List ModelInfo) (by : Author) (model : ModelNo) (old : Tables) (given : Values) where
  -- what is given behind a link is set in the row that the link names, with the stamps of the change; where nothing is given there nothing is set
  abbrev pub parent_edits : ℕ → ParentInfo → List Edit
  parent_edits id parent = option_map_or (λ row. row_edits parent.model (changed_values models by parent.model (behind models model parent.link given)) row.0) (linked_in models model old given id parent.link) []

  -- a row's own values are set with its stamps, then those of its parents
  abbrev pub edits_of_row : ℕ → List Edit
  edits_of_row id = row_edits model (filled models by false model given) id ++ flat_map (parent_edits id) (parents_of models model)

module _ (models : List ModelInfo) (by : Author) (model : ModelNo) (old : Tables) (change : Change) where
  -- row by row
  abbrev pub edits_of : List Edit
  edits_of = flat_map (edits_of_row models by model old change.object.values) change.ids

  -- the tables with the change, whatever they break
  abbrev pub changed : Tables
  changed = after models old edits_of

-- A change over tables, asked for by a caller in these groups.
module _ (models : List ModelInfo) (policy : PolicyData) (user : RecId) (model : ModelNo) (old : Tables) (own : List RecId) (change : Change) where
  -- the rows that it touches
  abbrev pub rows_touched : List RowKey
  rows_touched = touched models model change.object.values old change.ids

  -- he may write all of it, each value has its form, and each row is there
  pub record IsChangeable : Type 0 where
    pub writable : IsWritable policy own user model rows_touched change.object
    pub there : AreThere model old change.ids

  -- nor does a rule deny him one of the rows that it touches, which are all there
  pub record IsAdmissible : Type 0 where
    pub changeable : IsChangeable
    pub admitted : AreAdmitted policy (told_by models old) own user op.Write rows_touched

  -- why it isn't: the first right that he lacks, or field that he may not give; the first wrong value; the least id that no row has; or the least row that a rule denies him
  abbrev pub BarsWrite : Refusal → Type 0
  BarsWrite (refusal.Right m operation) = withheld policy own user model rows_touched ≡ Some (operation, m)
  BarsWrite (refusal.FieldRight m field) = (withheld policy own user model rows_touched ≡ None) × (m ≡ model) × (unwritable policy own user model change.object ≡ Some field)
  BarsWrite (refusal.Request place) = (withheld policy own user model rows_touched ≡ None) × (unwritable policy own user model change.object ≡ None) × (change.object.wrong ≡ Some place)
  BarsWrite (refusal.Missing m id) = IsWritable policy own user model rows_touched change.object × (m ≡ model) × IsLeastMissing model old change.ids id.0
  BarsWrite (refusal.Rule m operation id rule) = IsChangeable × DeniesLeast policy (told_by models old) own user op.Write rows_touched (refusal.Rule m operation id rule)
  BarsWrite _ = ⊥

-- why it isn't carried out for an author: that; or something that the tables with it break
abbrev pub StopsWrite : List ModelInfo → PolicyData → Author → ModelNo → Tables → List RecId → Change → Refusal → Type 0
StopsWrite models policy by model old own change (refusal.Constraint b) = IsAdmissible models policy by.user model old own change × IsBroken models (changed models by model old change) b
StopsWrite models policy by model old own change why = BarsWrite models policy by.user model old own change why

-- a write that is carried out for a caller in these groups: nothing stands against it, nothing is broken, and the answer is true
pub record IsWritten (models : List ModelInfo) (policy : PolicyData) (called : Called) (old : Tables) (json : Data) (new : Tables) (own : List RecId) : Type 0 where
  pub change : Change
  pub asked : change_of models called ≡ Ok change
  pub admissible : IsAdmissible models policy called.caller called.model old own change
  pub tables : new ≡ changed models (author_of called) called.model old change
  pub sound : Sound models new
  pub answer : json ≡ boolean true

-- The machine may answer a write so, and go on to these tables: with true where nothing stands
-- against it, else with what does, changing nothing.
abbrev pub Writes : List ModelInfo → PolicyData → Called → Tables → Result Data Refusal → Tables → Type 0
Writes models policy called old (Ok json) new = ByGroups models policy old called.caller (IsWritten models policy called old json new)
Writes models policy called old (Err why) new =
    ByGroups models policy old called.caller (λ own. RefusesAsked (StopsWrite models policy (author_of called) called.model old own) (change_of models called) why) × (new ≡ old)

-- ---- whatever the keeper tells

-- why a change may be barred: in some groups no right to rows that it may touch, or to a field that it names; the first wrong value; an id that it names; or a rule, of such rows
abbrev pub MayBarWrite : List ModelInfo → PolicyData → RecId → ModelNo → Change → Refusal → Type 0
MayBarWrite models policy user model change (refusal.Right m operation) = (operation ≡ op.Write) × Contains (touched_models models model change.object.values) m × IsWithheld policy user op.Write m
MayBarWrite models policy user model change (refusal.FieldRight m field) = (m ≡ model) × Contains change.object.fields field × IsUnwritable policy user model field
MayBarWrite models policy user model change (refusal.Request place) = change.object.wrong ≡ Some place
MayBarWrite models policy user model change (refusal.Missing m id) = (m ≡ model) × Contains change.ids id.0
MayBarWrite models policy user model change (refusal.Rule m operation id rule) = (operation ≡ op.Write) × Contains (touched_models models model change.object.values) m × IsSome rule
MayBarWrite models policy user model change _ = ⊥

-- or something is broken at a cell of the models
abbrev pub MayStopWrite : List ModelInfo → PolicyData → RecId → ModelNo → Change → Refusal → Type 0
MayStopWrite models policy user model change (refusal.Constraint b) = HasField models b.cell.model b.cell.field
MayStopWrite models policy user model change why = MayBarWrite models policy user model change why

-- why a write is refused: its arguments are malformed, first at this place; or what they ask for may be refused so
abbrev pub WriteCause : List ModelInfo → PolicyData → Called → Refusal → Type 0
WriteCause models policy called why = RefusesAsked (MayStopWrite models policy called.caller called.model) (change_of models called) why
