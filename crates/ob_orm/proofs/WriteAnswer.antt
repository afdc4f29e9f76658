-- What a write answers over an engine, from what its steps say.
use Rattle.std.proofs.Common.{◌≡◌, ℕ, ◌∷◌, [], List, Option, Some, None, Result, Ok, Err, refl, sym, ap, subst, ◌∙◌}
use Rattle.std.specs.Prelude.{IfSome, true, ⊤}
use Rattle.serde_json.specs.Data.{Data, boolean}
use Rattle.serde_json.specs.View.{view}
use Rattle.ob_access.specs.Policies.{PolicyData}
use Rattle.ob_access.specs.Users.{AreGroupsOf}
use Rattle.ob_base.specs.Chain.{◌>>=◌}
use Rattle.ob_base.specs.declared.id.RecId.{RecId}
use Rattle.ob_base.specs.declared.place.PathStep.{PathStep}
use Rattle.ob_base.specs.declared.refusal.Refusal.{Refusal}
use Rattle.ob_base.specs.declared.refusal.Refusal.TheVariants as refusal
use Rattle.ob_cache.proofs.CallerLemmas.{Refuses-weaker}
use Rattle.ob_cache.specs.Calls.{AnswersBy, HasTables, KeeperRose, Refuses, Standpoint, models_at, settled_over}
use Rattle.ob_cache.specs.Stages.{resting, settled_of, with_edits}
use Rattle.ob_cache.specs.Standing.{IsAtRest, Stands}
use Rattle.ob_call.proofs.CallerLemmas.{at_info}
use Rattle.ob_call.specs.Arguments as arguments
use Rattle.ob_call.specs.Arguments.{arguments_of}
use Rattle.ob_call.specs.ArgumentsSteps.{all_given_of, given_of}
use Rattle.ob_call.specs.Called.{called_by}
use Rattle.ob_call.specs.Forms.{fields_at}
use Rattle.ob_call.specs.Ids.{named_ids}
use Rattle.ob_call.specs.Results.{IsResultOf}
use Rattle.ob_call.specs.declared.arguments.Given.{Given}
use Rattle.ob_call.specs.declared.call.Call.{Call}
use Rattle.ob_schema.specs.Models.{HasModel, model_at}
use Rattle.ob_schema.specs.Tables.{Tables}
use Rattle.ob_schema.specs.declared.info.ModelInfo.{ModelInfo}
use Rattle.ob_rows.specs.Author.{author_by}
use Rattle.ob_orm.specs.GivenValues.{GivenObject, object_from}
use Rattle.ob_orm.specs.ObjectSteps.{object_view}
use Rattle.ob_orm.specs.Write.{IsAdmissible, MayStopWrite, StopsWrite, WriteCause, Writes, change_from, change_of, changed, edits_of, write_expects}
use Rattle.ob_orm.specs.Refusing.{RefusesAsked}
use Rattle.ob_orm.specs.WriteSteps.{asked_change}
use Rattle.ob_orm.specs.declared.writing.change.Change.{Change as Asked}
use Rattle.ob_rows.proofs.CallerLemmas.{everywhere, known_of, nowhere, sound_in}

-- ---- what the arguments ask for

-- what the arguments are over the fields of the model
abbrev pub WriteGives : List ModelInfo → Call → List (Option Given) → Type 0
WriteGives models call items = arguments_of (write_expects models (fields_at models call.model)) (view call.args.now) (view call.kw.now) ≡ Ok (all_given_of items)

-- its result is what the call asks for
abbrev pub GivesChange : List ModelInfo → Call → Result Asked Refusal → Type 0
GivesChange models call r = IfSome (model_at models call.model) (λ info. IsResultOf asked_change r (change_of models (called_by call info)))

-- arguments that are refused
pub denied_change : {A : Type 0} (of : A → List (Option arguments.Given)) (models : List ModelInfo) (call : Call) (why : Refusal)
    → IsResultOf of (Err why) (arguments_of (write_expects models (fields_at models call.model)) (view call.args.now) (view call.kw.now)) → GivesChange models call (Err why)
denied_change of models call (refusal.Request place) e =
    known_of (model_at models call.model) (λ info. arguments_of (write_expects models info.fields) (view call.args.now) (view call.kw.now) ≡ Err place) (λ info. change_of models (called_by call info) ≡ Err place)
    (λ info is. ap (λ (r : Result (List (Option arguments.Given)) (List PathStep)). r >>= λ gs. Ok (change_from models info gs)) is)
    (at_info models call.model (λ fields. arguments_of (write_expects models fields) (view call.args.now) (view call.kw.now) ≡ Err place) e)
denied_change of models call refusal.NoMemory e = everywhere (model_at models call.model) (λ info. ⊤) (λ info. tt)
denied_change of models call _ e = absurd e

-- arguments that are taken
pub taken_change : (models : List ModelInfo) (call : Call) (items : List (Option Given)) (ids vals : Given) → items ≡ Some ids ∷ Some vals ∷ [] → WriteGives models call items
    → (asked : Asked) → asked.ids.items ≡ named_ids (view ids.json.now) → IfSome (model_at models call.model) (λ info. object_view asked.object ≡ object_from models info (given_of vals)) → GivesChange models call (Ok asked)
taken_change models call items ids vals two gives asked ids_are object =
    by (model_at models call.model) (at_info models call.model (λ fields. arguments_of (write_expects models fields) (view call.args.now) (view call.kw.now) ≡ Ok (all_given_of items)) gives) object where
      by : (o : Option ModelInfo) → IfSome o (λ info. arguments_of (write_expects models info.fields) (view call.args.now) (view call.kw.now) ≡ Ok (all_given_of items))
          → IfSome o (λ info. object_view asked.object ≡ object_from models info (given_of vals)) → IfSome o (λ info. change_of models (called_by call info) ≡ Ok (asked_change asked))
      by None given read = tt
      by (Some info) given read =
          ap (λ (r : Result (List (Option arguments.Given)) (List PathStep)). r >>= λ gs. Ok (change_from models info gs)) given
          ∙ ap (λ (gs : List (Option Given)). Ok (change_from models info (all_given_of gs))) two
          ∙ ap (λ (o : GivenObject). Ok (record { ids = named_ids (view ids.json.now); object = o })) (sym read)
          ∙ ap (λ (xs : List ℕ). Ok (record { ids = xs; object = object_view asked.object })) (sym ids_are)

-- ---- refusals of what is asked

-- arguments that are malformed
asked-malformed : {A : Type 0} (stops : A → Refusal → Type 0) (asked : Result A (List PathStep)) (place : List PathStep) → asked ≡ Err place → RefusesAsked stops asked (refusal.Request place)
asked-malformed {A} stops asked place is = subst (λ (r : Result A (List PathStep)). RefusesAsked stops r (refusal.Request place)) (sym is) refl

-- what stops that for which they ask
asked-stopped : {A : Type 0} (stops : A → Refusal → Type 0) (asked : Result A (List PathStep)) (one : A) (why : Refusal) → asked ≡ Ok one → stops one why → RefusesAsked stops asked why
asked-stopped {A} stops asked one why is h = subst (λ (r : Result A (List PathStep)). RefusesAsked stops r why) (sym is) h

-- the machine's answer over an engine
abbrev pub AnswersWrite : PolicyData → Call → (before after : Standpoint) → Result Data Refusal → Type 0
AnswersWrite policy call before after r =
    (tables : Tables) → HasTables before tables → IfSome (model_at (models_at before) call.model) (λ info. AnswersBy (Writes (models_at before) policy (called_by call info)) before after tables r)

-- why it may be refused
abbrev pub HasCause : PolicyData → Call → List ModelInfo → Type 0 → Refusal → Type 0
HasCause policy call models rose why = Refuses rose (λ w. IfSome (model_at models call.model) (λ info. WriteCause models policy (called_by call info) w)) why

-- what has no cause has any
pub untold_cause : (policy : PolicyData) (call : Call) (models : List ModelInfo) (rose : Type 0) (why : Refusal) → Refuses rose (λ _. ⊥) why → HasCause policy call models rose why
untold_cause policy call models rose why h =
    Refuses-weaker rose rose (λ _. ⊥) (λ w. IfSome (model_at models call.model) (λ info. WriteCause models policy (called_by call info) w)) why (λ risen. risen) (λ w none. absurd none) h

-- what is wrong is the cause
pub change_cause : (policy : PolicyData) (call : Call) (models : List ModelInfo) (rose : Type 0) (why : Refusal) → HasModel models call.model → GivesChange models call (Err why) → HasCause policy call models rose why
change_cause policy call models rose (refusal.Request place) there wrong =
    known_of (model_at models call.model) (λ info. change_of models (called_by call info) ≡ Err place) (λ info. WriteCause models policy (called_by call info) (refusal.Request place))
    (λ info is. asked-malformed (MayStopWrite models policy call.caller call.model) (change_of models (called_by call info)) place is) wrong
change_cause policy call models rose refusal.NoMemory there wrong = tt
change_cause policy call models rose _ there wrong = absurd (nowhere (model_at models call.model) there wrong)

module _ (before after : Standpoint) (policy : PolicyData) (call : Call) where
  -- the engine didn't tell the caller's groups
  pub untold_answer : (why : Refusal) → Refuses (KeeperRose before after) (λ _. ⊥) why → ((tables : Tables) → HasTables before tables → HasTables after tables) → AnswersWrite policy call before after (Err why)
  untold_answer why h stays tables rests =
      everywhere (model_at (models_at before) call.model) (λ info. AnswersBy (Writes (models_at before) policy (called_by call info)) before after tables (Err why)) (λ info. (
        Refuses-weaker (KeeperRose before after) (KeeperRose before after) (λ _. ⊥) (λ cause. Writes (models_at before) policy (called_by call info) tables (Err cause) tables) why (λ risen. risen) (λ w none. absurd none) h,
        stays tables rests,
      ))

  module _ (own : List RecId) (groups : (tables : Tables) → HasTables before tables → AreGroupsOf (models_at before) policy tables call.caller own) where
    -- arguments are refused
    pub change_answer : (why : Refusal) → HasModel (models_at before) call.model → GivesChange (models_at before) call (Err why) → ((tables : Tables) → HasTables before tables → HasTables after tables)
        → AnswersWrite policy call before after (Err why)
    change_answer (refusal.Request place) there wrong stays = λ tables rests.
        known_of (model_at (models_at before) call.model) (λ info. change_of (models_at before) (called_by call info) ≡ Err place)
        (λ info. AnswersBy (Writes (models_at before) policy (called_by call info)) before after tables (Err (refusal.Request place))) (λ info is. (
          ((own, groups tables rests, asked-malformed (StopsWrite (models_at before) policy (author_by call) call.model tables own) (change_of (models_at before) (called_by call info)) place is), refl),
          stays tables rests,
        )) wrong
    change_answer refusal.NoMemory there wrong stays = λ tables rests.
        everywhere (model_at (models_at before) call.model) (λ info. AnswersBy (Writes (models_at before) policy (called_by call info)) before after tables (Err refusal.NoMemory)) (λ info. (tt, stays tables rests))
    change_answer _ there wrong stays = absurd (nowhere (model_at (models_at before) call.model) there wrong)

    -- ---- what is carried out

    module _ (asked : Asked) (gives : GivesChange (models_at before) call (Ok asked)) where
      -- the call asks for the change
      abbrev AsksFor : ModelInfo → Type 0
      AsksFor info = change_of (models_at before) (called_by call info) ≡ Ok (asked_change asked)

      -- why it isn't carried out
      abbrev pub Stops : Tables → Refusal → Type 0
      Stops tables = StopsWrite (models_at before) policy (author_by call) call.model tables own (asked_change asked)

      pub stopped_answer : (why : Refusal) → ((tables : Tables) → HasTables before tables → HasTables after tables × Refuses (KeeperRose before after) (Stops tables) why)
          → AnswersWrite policy call before after (Err why)
      stopped_answer why refused tables rests =
          let said = refused tables rests in
          known_of (model_at (models_at before) call.model) AsksFor (λ info. AnswersBy (Writes (models_at before) policy (called_by call info)) before after tables (Err why))
          (λ info is. (
            Refuses-weaker (KeeperRose before after) (KeeperRose before after) (Stops tables) (λ cause. Writes (models_at before) policy (called_by call info) tables (Err cause) tables) why (λ risen. risen)
                (λ w h. ((own, groups tables rests, asked-stopped (StopsWrite (models_at before) policy (author_by call) call.model tables own) (change_of (models_at before) (called_by call info)) (asked_change asked) w is h), refl))
                said.1,
            said.0,
          )) gives

      -- it has its cause
      pub stopped_cause : (rose : Type 0) (why : Refusal) → Refuses rose (MayStopWrite (models_at before) policy call.caller call.model (asked_change asked)) why → HasCause policy call (models_at before) rose why
      stopped_cause rose why h =
          Refuses-weaker rose rose (MayStopWrite (models_at before) policy call.caller call.model (asked_change asked)) (λ w. IfSome (model_at (models_at before) call.model) (λ info. WriteCause (models_at before) policy (called_by call info) w)) why
          (λ risen. risen)
          (λ w may. known_of (model_at (models_at before) call.model) AsksFor (λ info. WriteCause (models_at before) policy (called_by call info) w)
          (λ info is. asked-stopped (MayStopWrite (models_at before) policy call.caller call.model) (change_of (models_at before) (called_by call info)) (asked_change asked) w is may) gives)
          h

      -- a change that is carried out answers true
      pub written_answer : (json : Data) → json ≡ boolean true → IsAtRest (models_at before) after.held
          → ((tables : Tables) → HasTables before tables → IsAdmissible (models_at before) policy call.caller call.model tables own (asked_change asked)
          × Stands after.kept after.held (settled_of (with_edits (resting (models_at before) tables) (edits_of (models_at before) (author_by call) call.model tables (asked_change asked)))))
          → AnswersWrite policy call before after (Ok json)
      written_answer json is rest settled tables rests =
          let (admissible, stands) = settled tables rests in
          let models = models_at before in
          let new = changed models (author_by call) call.model tables (asked_change asked) in
          let here : Stands after.kept after.held (settled_over after.held.models tables new) = subst (λ (ms : List ModelInfo). Stands after.kept after.held (settled_over ms tables new)) (sym rest.models_are) stands in
          known_of (model_at models call.model) AsksFor (λ info. AnswersBy (Writes models policy (called_by call info)) before after tables (Ok json))
          (λ info given. (
            new,
            (own, groups tables rests, record { change = asked_change asked; asked = given; admissible = admissible; tables = refl; sound = sound_in models tables new after.kept stands.over; answer = is }),
            here,
          )) gives
