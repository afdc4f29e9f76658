-- The machine's `unlink`: the named rows go, with those that cascades reach.
use Rattle.std.specs.Prelude.{◌≡◌, ◌⊎◌, ◌↔◌, ℕ, List, [], ◌∷◌, Contains, Bool, true, false, Option, Some, IsOk, Result, Ok, Err}
use Rattle.ob_access.specs.Policies.{PolicyData}
use Rattle.ob_base.specs.Chain.{◌>>=◌}
use Rattle.ob_base.specs.declared.id.RecId.{RecId}
use Rattle.ob_base.specs.declared.id.RowKey.{RowKey}
use Rattle.ob_base.specs.declared.place.PathStep.{PathStep}
use Rattle.ob_base.specs.declared.refusal.Broken.{Broken}
use Rattle.ob_base.specs.declared.refusal.Op.TheVariants as op
use Rattle.ob_base.specs.declared.refusal.Refusal.{Refusal}
use Rattle.ob_base.specs.declared.refusal.Refusal.TheVariants as refusal
use Rattle.ob_call.specs.Arguments.{Expected, Given, arguments_of}
use Rattle.ob_call.specs.Called.{Called}
use Rattle.ob_call.specs.Ids.{IsLeastMissing, named_ids}
use Rattle.ob_unlink.specs.Deletion.{AreLeft, Bars, IsDeleted}
use Rattle.ob_rows.specs.Rights.{AreAdmitted, ByGroups, DeniesLeast, DeniesOne, IsWithheld, may, rows_named}
use Rattle.ob_rows.specs.There.{AreThere, ids_expected}
use Rattle.ob_schema.specs.Broken.{IsBroken, Sound}
use Rattle.ob_schema.specs.Facts.{told_by}
use Rattle.ob_schema.specs.Models.{HasField}
use Rattle.ob_schema.specs.Tables.{Tables}
use Rattle.ob_schema.specs.declared.info.ModelInfo.{ModelInfo}
use Rattle.serde_json.specs.Data.{Data, boolean}

-- what an unlink is called with: ids
abbrev pub unlink_expects : List Expected
unlink_expects = ids_expected ∷ []

-- the ids of the one argument, each once
abbrev pub ids_from : List (Option Given) → List ℕ
ids_from (Some ids ∷ gs) = named_ids ids.json
ids_from _ = []

-- the ids of the rows that an unlink names, or the first place that is wrong
abbrev pub unlinked_ids : Called → Result (List ℕ) (List PathStep)
unlinked_ids called = arguments_of unlink_expects called.args called.kw >>= λ given. Ok (ids_from given)

-- which rows go where these are deleted
abbrev pub GoWith : List ModelInfo → Tables → List RowKey → (RowKey → Bool) → Type 0
GoWith models old rows gone = (row : RowKey) → (gone row ≡ true) ↔ IsDeleted models old rows row

-- why rows that are there aren't deleted: one of all that would go may not, or the tables without them break something
pub record StopsDeletion (models : List ModelInfo) (old : Tables) (rows : List RowKey) (broken : Broken) : Type 0 where
  pub gone : RowKey → Bool
  pub with_these : GoWith models old rows gone
  pub stops : Bars models old gone broken ⊎ ((new : Tables) × AreLeft models gone old new × IsBroken models new broken)

-- rows that are deleted: these, and those that go with them; all that go may, and the tables without them break nothing
pub record AreDeleted (models : List ModelInfo) (rows : List RowKey) (old new : Tables) : Type 0 where
  pub gone : RowKey → Bool
  pub with_these : GoWith models old rows gone
  pub may_go : (broken : Broken) → Bars models old gone broken → ⊥
  pub left : AreLeft models gone old new
  pub sound : Sound models new

module _ (models : List ModelInfo) (policy : PolicyData) (called : Called) (old : Tables) (own : List RecId) where
  -- the call gives these ids, and its caller may delete rows of the model
  pub record MayName (ids : List ℕ) : Type 0 where
    pub given : unlinked_ids called ≡ Ok ids
    pub right : may policy own called.caller (op.Unlink, called.model) ≡ true

  -- rules admit the rows of some ids to him
  abbrev pub AreHis : List ℕ → Type 0
  AreHis ids = AreAdmitted policy (told_by models old) own called.caller op.Unlink (rows_named called.model ids)

  -- why an unlink is refused: what is malformed; no right to delete rows of the model; the least id that no row has; the least row that a rule denies the caller; or why the rows aren't deleted
  abbrev pub UnlinkRefuses : Refusal → Type 0
  UnlinkRefuses (refusal.Request place) = unlinked_ids called ≡ Err place
  UnlinkRefuses (refusal.Right m operation) = IsOk (unlinked_ids called) × (m ≡ called.model) × (operation ≡ op.Unlink) × (may policy own called.caller (op.Unlink, called.model) ≡ false)
  UnlinkRefuses (refusal.Missing m id) = (ids : List ℕ) × MayName ids × (m ≡ called.model) × IsLeastMissing called.model old ids id.0
  UnlinkRefuses (refusal.Rule m operation id name) =
      (ids : List ℕ) × MayName ids × AreThere called.model old ids × DeniesLeast policy (told_by models old) own called.caller op.Unlink (rows_named called.model ids) (refusal.Rule m operation id name)
  UnlinkRefuses (refusal.Constraint b) = (ids : List ℕ) × MayName ids × AreThere called.model old ids × AreHis ids × StopsDeletion models old (rows_named called.model ids) b
  UnlinkRefuses _ = ⊥

  -- an unlink that is carried out: each row is there and admitted to the caller, who may delete it, and is deleted, and the answer is true
  pub record IsUnlinked (json : Data) (new : Tables) : Type 0 where
    pub ids : List ℕ
    pub named : MayName ids
    pub there : AreThere called.model old ids
    pub admitted : AreHis ids
    pub deleted : AreDeleted models (rows_named called.model ids) old new
    pub answer : json ≡ boolean true

-- The machine may answer an unlink so, and go on to these tables, by the groups that its caller has
-- before it: with true where nothing is wrong, else with what is, changing nothing. What goes by a
-- cascade, what is unset and lists that are cut ask no right and no rule.
abbrev pub Unlinks : List ModelInfo → PolicyData → Called → Tables → Result Data Refusal → Tables → Type 0
Unlinks models policy called old (Ok json) new = ByGroups models policy old called.caller (λ own. IsUnlinked models policy called old own json new)
Unlinks models policy called old (Err why) new = ByGroups models policy old called.caller (λ own. UnlinkRefuses models policy called old own why) × (new ≡ old)

-- why an unlink is refused whatever the keeper tells: something is malformed; in some groups the caller has no right; an id is missing that was asked for, or its row is denied; or something is broken at a cell of the models
abbrev pub UnlinkCause : List ModelInfo → PolicyData → Called → Refusal → Type 0
UnlinkCause models policy called (refusal.Request place) = unlinked_ids called ≡ Err place
UnlinkCause models policy called (refusal.Right m operation) = IsOk (unlinked_ids called) × (m ≡ called.model) × (operation ≡ op.Unlink) × IsWithheld policy called.caller op.Unlink called.model
UnlinkCause models policy called (refusal.Missing m id) = (ids : List ℕ) × (unlinked_ids called ≡ Ok ids) × (m ≡ called.model) × Contains ids id.0
UnlinkCause models policy called (refusal.Rule m operation id name) = (ids : List ℕ) × (unlinked_ids called ≡ Ok ids) × DeniesOne op.Unlink (rows_named called.model ids) (refusal.Rule m operation id name)
UnlinkCause models policy called (refusal.Constraint b) = HasField models b.cell.model b.cell.field
UnlinkCause models policy called _ = ⊥
