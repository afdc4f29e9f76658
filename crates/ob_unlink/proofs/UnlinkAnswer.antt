-- What an unlink answers over an engine, from what its steps say.
use Rattle.std.proofs.Common.{◌≡◌, ℕ, ◌∷◌, [], List, Option, Some, Result, Ok, Err, Vec, Global, refl, sym, ap, subst, ◌∙◌}
use Rattle.std.specs.Prelude.{Bool, IfSome, IsOk, false, true}
use Rattle.serde_json.specs.Data.{Data, boolean}
use Rattle.serde_json.specs.View.{view}
use Rattle.ob_access.specs.Policies.{PolicyData}
use Rattle.ob_access.specs.Rights.{right}
use Rattle.ob_access.specs.Users.{AreGroupsOf}
use Rattle.ob_base.specs.Chain.{◌>>=◌}
use Rattle.ob_base.specs.declared.id.ModelNo.{ModelNo}
use Rattle.ob_base.specs.declared.id.RecId.{RecId}
use Rattle.ob_base.specs.declared.id.RowKey.{RowKey}
use Rattle.ob_base.specs.declared.place.PathStep.{PathStep}
use Rattle.ob_base.specs.declared.refusal.Op.TheVariants as op
use Rattle.ob_base.specs.declared.refusal.Refusal.{Refusal}
use Rattle.ob_base.specs.declared.refusal.Refusal.TheVariants as refusal
use Rattle.ob_cache.proofs.CallerLemmas.{Refuses-weaker}
use Rattle.ob_cache.specs.Calls.{AnswersBy, HasTables, KeeperRose, Refuses, Standpoint, models_at, settled_over}
use Rattle.ob_cache.specs.Standing.{IsAtRest, Stands}
use Rattle.ob_call.specs.Arguments as arguments
use Rattle.ob_call.specs.ArgumentsSteps.{all_given_of}
use Rattle.ob_call.specs.Called.{called_by}
use Rattle.ob_call.specs.Ids.{named_ids}
use Rattle.ob_call.specs.Results.{IsResultOf}
use Rattle.ob_call.specs.declared.arguments.Given.{Given}
use Rattle.ob_call.specs.declared.call.Call.{Call}
use Rattle.ob_rows.specs.AskingSteps.{AdmitsBy, may_by}
use Rattle.ob_unlink.specs.DeletionSteps.{IsNaming, MayStopUnlink, SettlesDeletion, StopsUnlink}
use Rattle.ob_rows.specs.Rights.{AreAdmitted, DeniesLeast, rows_named}
use Rattle.ob_unlink.specs.Unlink.{MayName, UnlinkCause, UnlinkRefuses, Unlinks, ids_from, unlinked_ids}
use Rattle.ob_rows.specs.There.{AreThere}
use Rattle.ob_rows.specs.declared.asking.Caller.{Caller}
use Rattle.ob_rows.proofs.CallerLemmas.{everywhere, nowhere}
use Rattle.ob_schema.specs.Facts.{told_by}
use Rattle.ob_schema.specs.Models.{HasModel, model_at}
use Rattle.ob_schema.specs.Tables.{Tables}
use Rattle.ob_schema.specs.declared.info.ModelInfo.{ModelInfo}

-- ---- what the arguments ask for

abbrev pub ItemsOf : Vec ℕ Global → List ℕ
ItemsOf ids = ids.items

-- arguments that are refused
pub denied_ids : {A : Type 0} (of : A → List (Option arguments.Given)) (r : Result (List (Option arguments.Given)) (List PathStep)) (why : Refusal) → IsResultOf of (Err why) r
    → IsResultOf ItemsOf (Err why) (r >>= λ given. Ok (ids_from given))
denied_ids of r (refusal.Request place) is = ap (λ (x : Result (List (Option arguments.Given)) (List PathStep)). x >>= λ given. Ok (ids_from given)) is
denied_ids of r refusal.NoMemory is = tt
denied_ids of r _ is = absurd is

-- arguments that are taken
pub taken_ids : (r : Result (List (Option arguments.Given)) (List PathStep)) (items : List (Option Given)) (ids : Given) (asked : List ℕ) → r ≡ Ok (all_given_of items) → items ≡ Some ids ∷ []
    → asked ≡ named_ids (view ids.json.now) → (r >>= λ given. Ok (ids_from given)) ≡ Ok asked
taken_ids r items ids asked is one are =
    ap (λ (x : Result (List (Option arguments.Given)) (List PathStep)). x >>= λ given. Ok (ids_from given)) is
    ∙ ap (λ (gs : List (Option Given)). ◌>>=◌ {E = List PathStep} (Ok (all_given_of gs)) (λ given. Ok (ids_from given))) one ∙ ap (λ (xs : List ℕ). Ok xs) (sym are)

-- ids that a call gives, whose caller may delete rows of the model
pub named-allowed : {A : Type 0} (of : A → List ℕ) (by : Caller) (model : ModelNo) (ids : A) (meant : Result (List ℕ) (List PathStep)) → IsResultOf of (Ok ids) meant → may_by by (op.Unlink, model) ≡ true
    → IsNaming of by model (Ok ids) meant
named-allowed of by model ids meant is may = (is, may)

-- one who may not
pub named-withheld : {A : Type 0} (of : A → List ℕ) (by : Caller) (model : ModelNo) (ids : A) (meant : Result (List ℕ) (List PathStep)) → IsResultOf of (Ok ids) meant → may_by by (op.Unlink, model) ≡ false
    → IsNaming {A = A} of by model (Err (refusal.Right model op.Unlink)) meant
named-withheld of by model ids meant is may = (subst (λ (r : Result (List ℕ) (List PathStep)). IsOk r) (sym is) refl, refl, refl, may)

-- arguments that give none
pub named-wrong : {A : Type 0} (of : A → List ℕ) (by : Caller) (model : ModelNo) (why : Refusal) (meant : Result (List ℕ) (List PathStep)) → IsResultOf of (Err why) meant → IsNaming of by model (Err why) meant
named-wrong of by model (refusal.Request place) meant is = is
named-wrong of by model refusal.NoMemory meant is = tt
named-wrong of by model _ meant is = absurd is

-- ---- the answer, and causes

-- the machine's answer over an engine
abbrev pub AnswersUnlink : PolicyData → Call → (before after : Standpoint) → Result Data Refusal → Type 0
AnswersUnlink policy call before after r =
    (tables : Tables) → HasTables before tables → IfSome (model_at (models_at before) call.model) (λ info. AnswersBy (Unlinks (models_at before) policy (called_by call info)) before after tables r)

-- a refusal has its cause
abbrev pub CausesUnlink : PolicyData → Call → Standpoint → Type 0 → Refusal → Type 0
CausesUnlink policy call at rose why = Refuses rose (λ w. IfSome (model_at (models_at at) call.model) (λ info. UnlinkCause (models_at at) policy (called_by call info) w)) why

-- an engine that told no groups
pub ungrouped_answer : (policy : PolicyData) (call : Call) (before after : Standpoint) (why : Refusal) → ((tables : Tables) → HasTables before tables → HasTables after tables) → Refuses (KeeperRose before after) (λ _. ⊥) why
    → AnswersUnlink policy call before after (Err why)
ungrouped_answer policy call before after why stays h tables rests =
    everywhere (model_at (models_at before) call.model) (λ info. AnswersBy (Unlinks (models_at before) policy (called_by call info)) before after tables (Err why))
    (λ info. (
      Refuses-weaker (KeeperRose before after) (KeeperRose before after) (λ _. ⊥) (λ cause. Unlinks (models_at before) policy (called_by call info) tables (Err cause) tables) why (λ risen. risen) (λ w never. absurd never) h,
      stays tables rests,
    ))

pub ungrouped_cause : (policy : PolicyData) (call : Call) (at : Standpoint) (rose : Type 0) (why : Refusal) → Refuses rose (λ _. ⊥) why → CausesUnlink policy call at rose why
ungrouped_cause policy call at rose why h =
    Refuses-weaker rose rose (λ _. ⊥) (λ w. IfSome (model_at (models_at at) call.model) (λ info. UnlinkCause (models_at at) policy (called_by call info) w)) why (λ risen. risen) (λ w never. absurd never) h

-- ---- by a caller's groups

module _ (before after : Standpoint) (call : Call) (by : Caller) (user : by.user ≡ call.caller) where
  -- what a call names, whatever its model
  abbrev pub NamesIds : Result (Vec ℕ Global) Refusal → Type 0
  NamesIds r = (info : ModelInfo) → IsNaming ItemsOf by call.model r (unlinked_ids (called_by call info))

  -- his groups are those in the tables
  abbrev pub AreHisGroups : Type 0
  AreHisGroups = (tables : Tables) → HasTables before tables → AreGroupsOf (models_at before) by.policy.now tables call.caller by.groups.now

  -- why he is refused
  abbrev Refused : ModelInfo → Tables → Refusal → Type 0
  Refused info tables why = UnlinkRefuses (models_at before) by.policy.now (called_by call info) tables by.groups.now why

  -- he may delete rows of the model, or not
  may_as : (b : Bool) → may_by by (op.Unlink, call.model) ≡ b → right by.policy.now by.groups.now call.caller call.model op.Unlink ≡ b
  may_as b is = subst (λ (who : RecId). right by.policy.now by.groups.now who call.model op.Unlink ≡ b) user is

  -- a refusal that is his is one of the call
  his : AreHisGroups → (info : ModelInfo) (tables : Tables) → HasTables before tables → (why : Refusal) → Refused info tables why → Unlinks (models_at before) by.policy.now (called_by call info) tables (Err why) tables
  his groups info tables rests why h = ((by.groups.now, groups tables rests, h), refl)

  -- what is wrong with what he names refuses him
  wrong_refuses : (info : ModelInfo) (tables : Tables) (why : Refusal) → IsNaming ItemsOf by call.model (Err why) (unlinked_ids (called_by call info)) → Refuses ⊥ (Refused info tables) why
  wrong_refuses info tables (refusal.Request place) h = h
  wrong_refuses info tables (refusal.Right m operation) h = (h.0, h.1, h.2, may_as false h.3)
  wrong_refuses info tables refusal.NoMemory h = tt
  wrong_refuses info tables _ h = absurd h

  pub ids_answer : (why : Refusal) → AreHisGroups → ((tables : Tables) → HasTables before tables → HasTables after tables) → NamesIds (Err why) → AnswersUnlink by.policy.now call before after (Err why)
  ids_answer why groups stays wrong tables rests =
      everywhere (model_at (models_at before) call.model) (λ info. AnswersBy (Unlinks (models_at before) by.policy.now (called_by call info)) before after tables (Err why))
      (λ info. (
        Refuses-weaker ⊥ (KeeperRose before after) (Refused info tables) (λ cause. Unlinks (models_at before) by.policy.now (called_by call info) tables (Err cause) tables) why (λ never. absurd never) (his groups info tables rests)
            (wrong_refuses info tables why (wrong info)),
        stays tables rests,
      ))

  -- and is its cause
  pub ids_cause : (rose : Type 0) (why : Refusal) → HasModel (models_at before) call.model → NamesIds (Err why) → CausesUnlink by.policy.now call before rose why
  ids_cause rose (refusal.Request place) there wrong = everywhere (model_at (models_at before) call.model) (λ info. unlinked_ids (called_by call info) ≡ Err place) wrong
  ids_cause rose (refusal.Right m operation) there wrong =
      everywhere (model_at (models_at before) call.model) (λ info. UnlinkCause (models_at before) by.policy.now (called_by call info) (refusal.Right m operation))
      (λ info. let h = wrong info in (h.0, h.1, h.2, (by.groups.now, may_as false h.3)))
  ids_cause rose refusal.NoMemory there wrong = tt
  ids_cause rose _ there wrong = absurd (nowhere (model_at (models_at before) call.model) there (everywhere (model_at (models_at before) call.model) (λ info. ⊥) wrong))

  -- ---- what is carried out of the ids that he names

  module _ (asked : Vec ℕ Global) (names : NamesIds (Ok asked)) where
    may_name : (info : ModelInfo) (tables : Tables) → MayName (models_at before) by.policy.now (called_by call info) tables by.groups.now asked.items
    may_name info tables = let h = names info in record { given = h.0; right = may_as true h.1 }

    -- the rows that he names
    abbrev rows : List RowKey
    rows = rows_named call.model asked.items

    -- rules admit them to him
    admitted_as : (tables : Tables) → AdmitsBy by (told_by (models_at before) tables) op.Unlink rows → AreAdmitted by.policy.now (told_by (models_at before) tables) by.groups.now call.caller op.Unlink rows
    admitted_as tables h = subst (λ (who : RecId). AreAdmitted by.policy.now (told_by (models_at before) tables) by.groups.now who op.Unlink rows) user h

    -- rows that aren't deleted refuse him
    stops : (info : ModelInfo) (tables : Tables) (w : Refusal) → StopsUnlink (models_at before) by call.model tables asked.items w → Refused info tables w
    stops info tables (refusal.Missing m id) h = (asked.items, may_name info tables, h.0, h.1)
    stops info tables (refusal.Rule m operation id name) h = (
      asked.items,
      may_name info tables,
      h.0,
      subst (λ (who : RecId). DeniesLeast by.policy.now (told_by (models_at before) tables) by.groups.now who op.Unlink rows (refusal.Rule m operation id name)) user h.1,
    )
    stops info tables (refusal.Constraint b) h = (asked.items, may_name info tables, h.0, admitted_as tables h.1.0, h.1.1)
    stops info tables _ h = absurd h.1

    pub stopped_unlink : (why : Refusal) → AreHisGroups
        → ((tables : Tables) → HasTables before tables → HasTables after tables × Refuses (KeeperRose before after) (StopsUnlink (models_at before) by call.model tables asked.items) why)
        → AnswersUnlink by.policy.now call before after (Err why)
    stopped_unlink why groups refused tables rests =
        let own = refused tables rests in
        everywhere (model_at (models_at before) call.model) (λ info. AnswersBy (Unlinks (models_at before) by.policy.now (called_by call info)) before after tables (Err why))
        (λ info. (
          Refuses-weaker (KeeperRose before after) (KeeperRose before after) (StopsUnlink (models_at before) by call.model tables asked.items)
              (λ cause. Unlinks (models_at before) by.policy.now (called_by call info) tables (Err cause) tables) why (λ risen. risen) (λ w h. his groups info tables rests w (stops info tables w h)) own.1,
          own.0,
        ))

    -- it has its cause
    causes : (info : ModelInfo) (w : Refusal) → MayStopUnlink (models_at before) call.model asked.items w → UnlinkCause (models_at before) by.policy.now (called_by call info) w
    causes info (refusal.Missing m id) h = (asked.items, (names info).0, h.0, h.1)
    causes info (refusal.Rule m operation id name) h = (asked.items, (names info).0, h)
    causes info (refusal.Constraint b) h = h
    causes info _ h = absurd h

    pub stopped_cause : (rose : Type 0) (why : Refusal) → Refuses rose (MayStopUnlink (models_at before) call.model asked.items) why → CausesUnlink by.policy.now call before rose why
    stopped_cause rose why h =
        Refuses-weaker rose rose (MayStopUnlink (models_at before) call.model asked.items)
        (λ w. IfSome (model_at (models_at before) call.model) (λ info. UnlinkCause (models_at before) by.policy.now (called_by call info) w)) why
        (λ risen. risen) (λ w may. everywhere (model_at (models_at before) call.model) (λ info. UnlinkCause (models_at before) by.policy.now (called_by call info) w) (λ info. causes info w may)) h

    -- rows that are deleted answer true
    pub deleted_answer : (json : Data) → json ≡ boolean true → IsAtRest (models_at before) after.held → AreHisGroups
        → ((tables : Tables) → HasTables before tables → AreThere call.model tables asked.items × AdmitsBy by (told_by (models_at before) tables) op.Unlink rows
        × SettlesDeletion after.kept after.held (models_at before) tables rows)
        → AnswersUnlink by.policy.now call before after (Ok json)
    deleted_answer json is rest groups settled tables rests =
        let (there, admitted, (new, deleted, stands)) = settled tables rests in
        let models = models_at before in
        let here : Stands after.kept after.held (settled_over after.held.models tables new) = subst (λ (ms : List ModelInfo). Stands after.kept after.held (settled_over ms tables new)) (sym rest.models_are) stands in
        everywhere (model_at models call.model) (λ info. AnswersBy (Unlinks models by.policy.now (called_by call info)) before after tables (Ok json))
        (λ info. (
          new,
          (
            by.groups.now,
            groups tables rests,
            record { ids = asked.items; named = may_name info tables; there = there; admitted = admitted_as tables admitted; deleted = deleted; answer = is },
          ),
          here,
        ))
