-- What a create answers over an engine, from what its steps say.
use Rattle.std.proofs.Common.{◌≡◌, ◌∷◌, [], List, Option, Some, None, option_map, Result, Ok, Err, refl, sym, ap, subst, ◌∙◌}
use Rattle.std.specs.Prelude.{IfErr, IfOk, IfSome, false, true, ⊤}
use Rattle.std.proofs.lemmas.Bool.{false≢true}
use Rattle.serde_json.specs.Data.{Data}
use Rattle.serde_json.specs.View.{view}
use Rattle.serde_json.specs.declared.value.Value.{Value as Json}
use Rattle.ob_access.specs.Policies.{PolicyData}
use Rattle.ob_access.specs.Users.{AreGroupsOf}
use Rattle.ob_base.specs.Chain.{◌>>=◌}
use Rattle.ob_base.specs.declared.place.PathStep.{PathStep}
use Rattle.ob_base.specs.declared.refusal.Refusal.{Refusal}
use Rattle.ob_base.specs.declared.refusal.Refusal.TheVariants as refusal
use Rattle.ob_cache.proofs.CallerLemmas.{Refuses-weaker}
use Rattle.ob_cache.specs.Calls.{AnswersBy, HasTables, KeeperRose, Refuses, Standpoint, models_at, settled_over}
use Rattle.ob_cache.specs.Standing.{IsAtRest, Stands}
use Rattle.ob_call.proofs.CallerLemmas.{at_info}
use Rattle.ob_call.specs.Called.{called_by, result_view}
use Rattle.ob_call.specs.Arguments as arguments
use Rattle.ob_call.specs.Arguments.{Expected, IsFit, arguments_of}
use Rattle.ob_call.specs.ArgumentsSteps.{all_given_of, given_of}
use Rattle.ob_call.specs.Forms.{fields_at}
use Rattle.ob_call.specs.Places.{spot_place}
use Rattle.ob_call.specs.Results.{IsResultOf}
use Rattle.ob_call.specs.declared.arguments.Given.{Given}
use Rattle.ob_call.specs.declared.call.Call.{Call}
use Rattle.ob_schema.specs.Models.{HasModel, model_at}
use Rattle.ob_schema.specs.Tables.{Tables}
use Rattle.ob_schema.specs.declared.info.ModelInfo.{ModelInfo}
use Rattle.ob_rows.specs.Author.{author_by}
use Rattle.ob_orm.specs.Create.{Asked, CreateCause, Creates, MayStopCreate, StopsCreate, asked_from, asked_in, asked_of, create_expects, with_rows}
use Rattle.ob_orm.specs.Refusing.{RefusesAsked}
use Rattle.ob_orm.specs.CreateSteps.{CreatesBy, IsMadeBy, rows_view}
use Rattle.ob_rows.specs.declared.asking.Caller.{Caller}
use Rattle.ob_orm.specs.declared.creating.rows.Rows.{Rows}
use Rattle.ob_rows.proofs.CallerLemmas.{everywhere, known_of, nowhere, sound_in}

-- ---- what the arguments ask for

-- what a call asks for, or what is wrong with its arguments
abbrev pub asked_by_call : List ModelInfo → Call → ModelInfo → Result Asked (List PathStep)
asked_by_call models call info = asked_of models (called_by call info)

-- what the arguments are over the fields of the model
abbrev pub CreateGives : List ModelInfo → Call → List (Option Given) → Type 0
CreateGives models call items = arguments_of (create_expects models (fields_at models call.model)) (view call.args.now) (view call.kw.now) ≡ Ok (all_given_of items)

-- its result is what they ask for
abbrev pub GivesRows : List ModelInfo → Call → Result Rows Refusal → Type 0
GivesRows models call r = IfSome (model_at models call.model) (λ info. IsResultOf rows_view r (asked_by_call models call info))

-- arguments that are refused
pub denied_rows : {A : Type 0} (of : A → List (Option arguments.Given)) (models : List ModelInfo) (call : Call) (why : Refusal)
    → IsResultOf of (Err why) (arguments_of (create_expects models (fields_at models call.model)) (view call.args.now) (view call.kw.now)) → GivesRows models call (Err why)
denied_rows of models call (refusal.Request place) e =
    known_of (model_at models call.model) (λ info. arguments_of (create_expects models info.fields) (view call.args.now) (view call.kw.now) ≡ Err place) (λ info. asked_by_call models call info ≡ Err place)
    (λ info is. ap (λ (r : Result (List (Option arguments.Given)) (List PathStep)). r >>= λ gs. Ok (asked_from models info gs)) is)
    (at_info models call.model (λ fields. arguments_of (create_expects models fields) (view call.args.now) (view call.kw.now) ≡ Err place) e)
denied_rows of models call refusal.NoMemory e = everywhere (model_at models call.model) (λ info. ⊤) (λ info. tt)
denied_rows of models call _ e = absurd e

-- want of memory
pub rows_unread : (models : List ModelInfo) (call : Call) → GivesRows models call (Err refusal.NoMemory)
rows_unread models call = everywhere (model_at models call.model) (λ info. ⊤) (λ info. tt)

-- and arguments that are taken
pub rows_passed : (models : List ModelInfo) (call : Call) (items : List (Option Given)) (vals : Given) (rows : Rows) → items ≡ Some vals ∷ [] → CreateGives models call items
    → IfSome (model_at models call.model) (λ info. rows_view rows ≡ asked_in models info (spot_place vals.spot) (view vals.json.now)) → GivesRows models call (Ok rows)
rows_passed models call items vals rows one gives own =
    by (model_at models call.model) (at_info models call.model (λ fields. arguments_of (create_expects models fields) (view call.args.now) (view call.kw.now) ≡ Ok (all_given_of items)) gives) own where
      by : (o : Option ModelInfo) → IfSome o (λ info. arguments_of (create_expects models info.fields) (view call.args.now) (view call.kw.now) ≡ Ok (all_given_of items))
          → IfSome o (λ info. rows_view rows ≡ asked_in models info (spot_place vals.spot) (view vals.json.now)) → IfSome o (λ info. asked_by_call models call info ≡ Ok (rows_view rows))
      by None gives own = tt
      by (Some info) gives own =
          ap (λ (r : Result (List (Option arguments.Given)) (List PathStep)). r >>= λ gs. Ok (asked_from models info gs)) gives
          ∙ ap (λ (gs : List (Option Given)). ◌>>=◌ {E = List PathStep} (Ok (all_given_of gs)) (λ gs. Ok (asked_from models info gs))) one ∙ ap (λ (a : Asked). Ok a) (sym own)

-- an argument that must be given is
pub must_be_given : (p : Expected) (o : Option Given) → p.required ≡ true → IsFit p (option_map given_of o) → o ≡ None → ⊥
must_be_given p None must fit is = let wrong : false ≡ true = sym fit ∙ must in false≢true wrong
must_be_given p (Some given) must fit is = absurd cc

-- ---- answers and causes

-- the machine's answer over an engine
abbrev pub AnswersCreate : PolicyData → Call → (before after : Standpoint) → Result Data Refusal → Type 0
AnswersCreate policy call before after r =
    (tables : Tables) → HasTables before tables → IfSome (model_at (models_at before) call.model) (λ info. AnswersBy (Creates (models_at before) policy (called_by call info)) before after tables r)

-- by groups of the caller that were found
abbrev pub AnswersFor : Caller → Call → (before after : Standpoint) → Result Data Refusal → Type 0
AnswersFor by call before after r =
    (tables : Tables) → HasTables before tables → IfSome (model_at (models_at before) call.model) (λ info. AnswersBy (CreatesBy (models_at before) by (called_by call info)) before after tables r)

-- a refusal has its cause
abbrev pub CausesCreate : PolicyData → Call → Standpoint → Type 0 → Refusal → Type 0
CausesCreate policy call at rose why = Refuses rose (λ w. IfSome (model_at (models_at at) call.model) (λ info. CreateCause (models_at at) policy (called_by call info) w)) why

-- ---- the groups of the caller

-- an engine that told none
pub ungrouped_answer : (policy : PolicyData) (call : Call) (before after : Standpoint) (why : Refusal) → ((tables : Tables) → HasTables before tables → HasTables after tables) → Refuses (KeeperRose before after) (λ _. ⊥) why
    → AnswersCreate policy call before after (Err why)
ungrouped_answer policy call before after why stays h tables rests =
    everywhere (model_at (models_at before) call.model) (λ info. AnswersBy (Creates (models_at before) policy (called_by call info)) before after tables (Err why))
    (λ info. (
      Refuses-weaker (KeeperRose before after) (KeeperRose before after) (λ _. ⊥) (λ cause. Creates (models_at before) policy (called_by call info) tables (Err cause) tables) why (λ risen. risen) (λ w never. absurd never) h,
      stays tables rests,
    ))

pub ungrouped_cause : (policy : PolicyData) (call : Call) (at : Standpoint) (rose : Type 0) (why : Refusal) → Refuses rose (λ _. ⊥) why → CausesCreate policy call at rose why
ungrouped_cause policy call at rose why h =
    Refuses-weaker rose rose (λ _. ⊥) (λ w. IfSome (model_at (models_at at) call.model) (λ info. CreateCause (models_at at) policy (called_by call info) w)) why (λ risen. risen) (λ w never. absurd never) h

-- by those that it told
module _ (call : Call) (by : Caller) (before mid after : Standpoint) (same : models_at mid ≡ models_at before) (stays : (tables : Tables) → HasTables before tables → HasTables mid tables)
    (up : KeeperRose mid after → KeeperRose before after) (groups : (tables : Tables) → HasTables before tables → AreGroupsOf (models_at before) by.policy.now tables call.caller by.groups.now) where
  grouped : (info : ModelInfo) (tables : Tables) → HasTables before tables → (r : Result Data Refusal) → AnswersBy (CreatesBy (models_at before) by (called_by call info)) mid after tables r
      → AnswersBy (Creates (models_at before) by.policy.now (called_by call info)) before after tables r
  grouped info tables rests (Ok json) h = (h.0, (by.groups.now, groups tables rests, h.1), h.2)
  grouped info tables rests (Err why) h = (
    Refuses-weaker (KeeperRose mid after) (KeeperRose before after) (λ cause. CreatesBy (models_at before) by (called_by call info) tables (Err cause) tables)
        (λ cause. Creates (models_at before) by.policy.now (called_by call info) tables (Err cause) tables) why up (λ w own. ((by.groups.now, groups tables rests, own.0), refl)) h.0,
    h.1,
  )

  pub grouped_answer : (r : Result Data Refusal) → AnswersFor by call mid after r → AnswersCreate by.policy.now call before after r
  grouped_answer r answer tables rests =
      let own : IfSome (model_at (models_at before) call.model) (λ info. AnswersBy (CreatesBy (models_at before) by (called_by call info)) mid after tables r) =
      subst (λ (ms : List ModelInfo). IfSome (model_at ms call.model) (λ info. AnswersBy (CreatesBy ms by (called_by call info)) mid after tables r)) same (answer tables (stays tables rests)) in
      known_of (model_at (models_at before) call.model) (λ info. AnswersBy (CreatesBy (models_at before) by (called_by call info)) mid after tables r)
      (λ info. AnswersBy (Creates (models_at before) by.policy.now (called_by call info)) before after tables r) (λ info h. grouped info tables rests r h) own

  pub grouped_cause : {A : Type 0} (r : Result A Refusal) → IfErr r (CausesCreate by.policy.now call mid (KeeperRose mid after)) → IfErr r (CausesCreate by.policy.now call before (KeeperRose before after))
  grouped_cause (Ok a) h = tt
  grouped_cause (Err why) h =
      Refuses-weaker (KeeperRose mid after) (KeeperRose before after) (λ w. IfSome (model_at (models_at mid) call.model) (λ info. CreateCause (models_at mid) by.policy.now (called_by call info) w))
      (λ w. IfSome (model_at (models_at before) call.model) (λ info. CreateCause (models_at before) by.policy.now (called_by call info) w)) why up
      (λ w own. subst (λ (ms : List ModelInfo). IfSome (model_at ms call.model) (λ info. CreateCause ms by.policy.now (called_by call info) w)) same own) h

-- ---- arguments that are wrong

module _ (call : Call) (by : Caller) (at : Standpoint) where
  -- refuse the call
  pub rows_answer : (why : Refusal) → HasModel (models_at at) call.model → GivesRows (models_at at) call (Err why) → AnswersFor by call at at (Err why)
  rows_answer (refusal.Request place) there wrong = λ tables rests.
      known_of (model_at (models_at at) call.model) (λ info. asked_by_call (models_at at) call info ≡ Err place)
      (λ info. AnswersBy (CreatesBy (models_at at) by (called_by call info)) at at tables (Err (refusal.Request place)))
      (λ info is. ((subst (λ (r : Result Asked (List PathStep)). RefusesAsked (StopsCreate (models_at at) by.policy.now (author_by call) call.model tables by.groups.now) r (refusal.Request place)) (sym is) refl, refl), rests)) wrong
  rows_answer refusal.NoMemory there wrong = λ tables rests.
      everywhere (model_at (models_at at) call.model) (λ info. AnswersBy (CreatesBy (models_at at) by (called_by call info)) at at tables (Err refusal.NoMemory)) (λ info. (tt, rests))
  rows_answer _ there wrong = absurd (nowhere (model_at (models_at at) call.model) there wrong)

  -- and are the cause
  pub rows_cause : (rose : Type 0) (why : Refusal) → HasModel (models_at at) call.model → GivesRows (models_at at) call (Err why) → CausesCreate by.policy.now call at rose why
  rows_cause rose (refusal.Request place) there wrong =
      known_of (model_at (models_at at) call.model) (λ info. asked_by_call (models_at at) call info ≡ Err place) (λ info. CreateCause (models_at at) by.policy.now (called_by call info) (refusal.Request place))
      (λ info is. subst (λ (r : Result Asked (List PathStep)). RefusesAsked (MayStopCreate (models_at at) by.policy.now call.caller call.model) r (refusal.Request place)) (sym is) refl) wrong
  rows_cause rose refusal.NoMemory there wrong = tt
  rows_cause rose _ there wrong = absurd (nowhere (model_at (models_at at) call.model) there wrong)

-- ---- what is carried out

module _ (call : Call) (by : Caller) (before after : Standpoint) (rows : Rows) (gives : GivesRows (models_at before) call (Ok rows)) where
  abbrev Stops : Tables → Refusal → Type 0
  Stops tables w = StopsCreate (models_at before) by.policy.now (author_by call) call.model tables by.groups.now (rows_view rows) w

  -- what stands against the rows refuses the call
  stopped : (info : ModelInfo) (tables : Tables) → asked_by_call (models_at before) call info ≡ Ok (rows_view rows) → (w : Refusal) → Stops tables w
      → CreatesBy (models_at before) by (called_by call info) tables (Err w) tables
  stopped info tables is w h = (subst (λ (r : Result Asked (List PathStep)). RefusesAsked (StopsCreate (models_at before) by.policy.now (author_by call) call.model tables by.groups.now) r w) (sym is) h, refl)

  -- rows that aren't settled
  unmade_answer : (why : Refusal) → ((tables : Tables) → HasTables before tables → HasTables after tables × Refuses (KeeperRose before after) (Stops tables) why) → AnswersFor by call before after (Err why)
  unmade_answer why refused tables rests =
      let own = refused tables rests in
      known_of (model_at (models_at before) call.model) (λ info. asked_by_call (models_at before) call info ≡ Ok (rows_view rows))
      (λ info. AnswersBy (CreatesBy (models_at before) by (called_by call info)) before after tables (Err why))
      (λ info is. (
        Refuses-weaker (KeeperRose before after) (KeeperRose before after) (Stops tables) (λ cause. CreatesBy (models_at before) by (called_by call info) tables (Err cause) tables) why (λ risen. risen) (stopped info tables is) own.1,
        own.0,
      )) gives

  -- the tables with the rows
  abbrev New : Tables → Tables
  New tables = with_rows (models_at before) (author_by call) call.model tables (rows_view rows)

  -- and those that are
  made_answer : (json : Data) → IsAtRest (models_at before) after.held
      → ((tables : Tables) → HasTables before tables → IsMadeBy (models_at before) by (author_by call) call.model tables (rows_view rows) json
      × Stands after.kept after.held (settled_over (models_at before) tables (New tables)))
      → AnswersFor by call before after (Ok json)
  made_answer json rest settled tables rests =
      let (made, stands) = settled tables rests in
      let models = models_at before in
      let new = New tables in
      let here : Stands after.kept after.held (settled_over after.held.models tables new) = subst (λ (ms : List ModelInfo). Stands after.kept after.held (settled_over ms tables new)) (sym rest.models_are) stands in
      known_of (model_at models call.model) (λ info. asked_by_call models call info ≡ Ok (rows_view rows)) (λ info. AnswersBy (CreatesBy models by (called_by call info)) before after tables (Ok json))
      (λ info given. (
        new,
        record {
          asked = rows_view rows;
          given = given;
          admissible = made.admissible;
          tables = refl;
          sound = sound_in models tables new after.kept stands.over;
          admitted = made.admitted;
          answer = made.answer;
        },
        here,
      )) gives

  -- whatever came of them
  pub outcome_answer : (r : Result Json Refusal) → IsAtRest (models_at before) after.held
      → IfOk r (λ json. (tables : Tables) → HasTables before tables → IsMadeBy (models_at before) by (author_by call) call.model tables (rows_view rows) (view json)
      × Stands after.kept after.held (settled_over (models_at before) tables (New tables)))
      → IfErr r (λ why. (tables : Tables) → HasTables before tables → HasTables after tables × Refuses (KeeperRose before after) (Stops tables) why)
      → AnswersFor by call before after (result_view r)
  outcome_answer (Ok json) rest settled refused = made_answer (view json) rest settled
  outcome_answer (Err why) rest settled refused = unmade_answer why refused

  -- what stands against them has its cause
  pub outcome_cause : (rose : Type 0) (r : Result Json Refusal) → IfErr r (Refuses rose (MayStopCreate (models_at before) by.policy.now call.caller call.model (rows_view rows)))
      → IfErr r (CausesCreate by.policy.now call before rose)
  outcome_cause rose (Ok json) h = tt
  outcome_cause rose (Err why) h =
      Refuses-weaker rose rose (MayStopCreate (models_at before) by.policy.now call.caller call.model (rows_view rows))
      (λ w. IfSome (model_at (models_at before) call.model) (λ info. CreateCause (models_at before) by.policy.now (called_by call info) w)) why (λ risen. risen)
      (λ w may. known_of (model_at (models_at before) call.model) (λ info. asked_by_call (models_at before) call info ≡ Ok (rows_view rows)) (λ info. CreateCause (models_at before) by.policy.now (called_by call info) w)
      (λ info is. subst (λ (r : Result Asked (List PathStep)). RefusesAsked (MayStopCreate (models_at before) by.policy.now call.caller call.model) r w) (sym is) may) gives) h
