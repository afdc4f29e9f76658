-- What a create and a write answer over an engine, from what their steps say.
use Rattle.std.proofs.Common.{◌≡◌, ◌≤◌, ◌++◌, ℕ, true, inl, inr, List, Option, Some, None, Result, Ok, Err, refl, sym, subst}
use Rattle.std.specs.Prelude.{Contains, IfErr, IfOk, IfSome, IsSome, OnErr, OnOk, ⊤}
use Rattle.std.proofs.lemmas.Bool.{false≢true}
use Rattle.serde_json.specs.Data.{Data, boolean}
use Rattle.serde_json.specs.View.{view}
use Rattle.serde_json.specs.declared.value.Value.{Value as Json}
use Rattle.ob_access.specs.Policies.{PolicyData}
use Rattle.ob_access.specs.Rights.{right}
use Rattle.ob_access.specs.Users.{AreGroupsBy, AreGroupsOf}
use Rattle.ob_base.specs.declared.id.RecId.{RecId}
use Rattle.ob_base.specs.declared.place.PathStep.{PathStep}
use Rattle.ob_base.specs.declared.refusal.Op.{Op}
use Rattle.ob_base.specs.declared.refusal.Op.TheVariants as op
use Rattle.ob_base.specs.declared.refusal.Refusal.{Refusal}
use Rattle.ob_base.specs.declared.refusal.Refusal.TheVariants as refusal
use Rattle.ob_cache.proofs.CallerLemmas.{Refuses-weaker}
use Rattle.ob_cache.specs.Calls.{AnswersBy, HasTables, IsCalled, KeeperRose, Refuses, Standpoint, models_at, standpoint}
use Rattle.ob_cache.specs.Standing.{IsAtRest}
use Rattle.ob_cache.specs.Telling.{TellsFacts}
use Rattle.ob_cache.specs.declared.engine.Engine.{Engine}
use Rattle.ob_call.specs.Arguments as arguments
use Rattle.ob_call.specs.Arguments.{arguments_of}
use Rattle.ob_call.specs.ArgumentsSteps.{given_of}
use Rattle.ob_call.specs.Called.{Called, called_by, result_view}
use Rattle.ob_call.specs.Places.{spot_place}
use Rattle.ob_call.specs.declared.arguments.Given.{Given}
use Rattle.ob_call.specs.declared.call.Call.{Call}
use Rattle.ob_commands.proofs.CallTruths.{create-may, create-true, write-may, write-true}
use Rattle.ob_commands.proofs.GivenArguments.{GivesCreate, GivesWrite, everywhere, known_of}
use Rattle.ob_commands.proofs.SettledCalls.{asks-rests, back-rests, goes-on, rests-tells}
use Rattle.ob_effect.proofs.CallerLemmas.{rose_later}
use Rattle.ob_commands.specs.Asked.{create_expects, write_expects}
use Rattle.ob_commands.specs.AskedSteps.{IsAskedWrite, IsGivenCreate}
use Rattle.ob_commands.specs.Changes.{Changes, CreateMayCome, CreatesSome, IsMalformedCreate, IsMalformedWrite, IsTrue, MayBeTrue, Names, TellsFor, TellsIds, TellsTrue, WriteMayCome, WritesSome, first_of, second_of}
use Rattle.ob_effect.specs.Effect.{Asks}
use Rattle.ob_commands.specs.Making.{ComesBack, SettlesTo, StopsCreate, StopsWrite}
use Rattle.ob_effect.specs.Rights.{may}
use Rattle.ob_commands.specs.declared.asked.Change.{Change}
use Rattle.ob_effect.specs.declared.asking.Caller.{Caller}
use Rattle.ob_io.specs.declared.keeper.Keeper.{Ghosts}
use Rattle.ob_schema.specs.Broken.{AreSound}
use Rattle.ob_schema.specs.Facts.{OfAllTold, told_by}
use Rattle.ob_schema.specs.Models.{HasModel, model_at}
use Rattle.ob_schema.specs.Tables.{Tables}
use Rattle.ob_schema.specs.declared.info.ModelInfo.{ModelInfo}

-- a writing call of a model that may be there, by what is known of its answer, its causes and where it ends
pub called-found : {M A : Type 0} (found : Option M) (Means : M → Tables → Result A Refusal → Tables → Type 0) (MayCome : M → Refusal → Type 0) (before after : Standpoint) (outcome : Result A Refusal)
    → ((tables : Tables) → HasTables before tables → IfSome found (λ m. AnswersBy (Means m) before after tables outcome))
    → IfErr outcome (Refuses (KeeperRose before after) (λ why. IfSome found (λ m. MayCome m why)))
    → IsAtRest (models_at before) after.held → after.kept ≡ before.kept → before.faults ≤ after.faults
    → IfSome found (λ m. IsCalled (Means m) before after (MayCome m) outcome)
called-found None Means MayCome before after outcome answer causes rests same count = tt
called-found (Some m) Means MayCome before after outcome answer causes rests same count = record { answer = answer; causes = causes; rests = rests; same = same; count = count }

nowhere : (o : Option ModelInfo) → IsSome o → IfSome o (λ _. ⊥) → ⊥
nowhere None there wrong = false≢true there
nowhere (Some info) there wrong = wrong

-- ---- places among the arguments

-- the place below the argument of a create is wrong
create-below : (called : Called) (given : List (Option arguments.Given)) (vals : Given) → arguments_of (create_expects called.info.fields) called.args called.kw ≡ Ok given → first_of given ≡ Some (given_of vals)
    → (below : List PathStep) → IsMalformedCreate called (spot_place vals.spot ++ below)
create-below called given vals gives one below = inr (given, gives, given_of vals, one, below, refl)

write-below : (called : Called) (given : List (Option arguments.Given)) (vals : Given) → arguments_of (write_expects called.info.fields) called.args called.kw ≡ Ok given → second_of given ≡ Some (given_of vals)
    → (below : List PathStep) → IsMalformedWrite called (spot_place vals.spot ++ below)
write-below called given vals gives one below = inr (given, gives, given_of vals, one, below, refl)

-- ---- any call

module _ (models : List ModelInfo) (policy : PolicyData) (called : Called) (operation : Op) (IsWrong : List PathStep → Type 0) (Fits : (old new : Tables) → Data → Type 0) (before after : Standpoint) where
  abbrev Means : Tables → Result Data Refusal → Tables → Type 0
  Means = Changes models policy called operation IsWrong Fits

  -- a refusal that is true of the tables
  pub refused-answer : (tables : Tables) (why : Refusal) → HasTables after tables → Refuses (KeeperRose before after) (IsTrue models policy called IsWrong tables) why → AnswersBy Means before after tables (Err why)
  refused-answer tables why rests h =
      (Refuses-weaker (KeeperRose before after) (KeeperRose before after) (IsTrue models policy called IsWrong tables) (λ cause. Means tables (Err cause) tables) why (λ risen. risen) (λ w true_of. (true_of, refl)) h, rests)

module _ {K : Type 0} (g : Ghosts K) (call : Call) (a : Engine K) where
  abbrev At : Option ModelInfo
  At = model_at a.held.models call.model

  -- what is answered, and why a call is refused
  abbrev pub AnswersCreate : PolicyData → Engine K → Result Data Refusal → Type 0
  AnswersCreate policy b r = (tables : Tables) → HasTables (standpoint g a) tables
      → IfSome At (λ info. AnswersBy (CreatesSome a.held.models policy (called_by call info)) (standpoint g a) (standpoint g b) tables r)

  abbrev pub AnswersWrite : PolicyData → Engine K → Result Data Refusal → Type 0
  AnswersWrite policy b r = (tables : Tables) → HasTables (standpoint g a) tables
      → IfSome At (λ info. AnswersBy (WritesSome a.held.models policy (called_by call info)) (standpoint g a) (standpoint g b) tables r)

  abbrev pub CausesCreate : PolicyData → Engine K → Refusal → Type 0
  CausesCreate policy b why = Refuses (KeeperRose (standpoint g a) (standpoint g b)) (λ w. IfSome At (λ info. CreateMayCome a.held.models policy (called_by call info) w)) why

  abbrev pub CausesWrite : PolicyData → Engine K → Refusal → Type 0
  CausesWrite policy b why = Refuses (KeeperRose (standpoint g a) (standpoint g b)) (λ w. IfSome At (λ info. WriteMayCome a.held.models policy (called_by call info) w)) why

  -- ---- arguments that are wrong

  module _ (policy : PolicyData) (there : HasModel a.held.models call.model) where
    pub unasked-create : (why : Refusal) → GivesCreate a.held.models call (Err why) → AnswersCreate policy a (Err why)
    unasked-create (refusal.Request place) wrong tables rests =
        known_of At (λ info. arguments_of (create_expects info.fields) (view call.args.now) (view call.kw.now) ≡ Err place)
        (λ info. AnswersBy (CreatesSome a.held.models policy (called_by call info)) (standpoint g a) (standpoint g a) tables (Err (refusal.Request place))) (λ info is. ((inl is, refl), rests)) wrong
    unasked-create refusal.NoMemory wrong tables rests =
        everywhere At (λ info. AnswersBy (CreatesSome a.held.models policy (called_by call info)) (standpoint g a) (standpoint g a) tables (Err refusal.NoMemory)) (λ info. (tt, rests))
    unasked-create _ wrong tables rests = absurd (nowhere At there wrong)

    pub uncaused-create : (why : Refusal) → GivesCreate a.held.models call (Err why) → CausesCreate policy a why
    uncaused-create (refusal.Request place) wrong =
        known_of At (λ info. arguments_of (create_expects info.fields) (view call.args.now) (view call.kw.now) ≡ Err place)
        (λ info. CreateMayCome a.held.models policy (called_by call info) (refusal.Request place)) (λ info is. inl is) wrong
    uncaused-create refusal.NoMemory wrong = tt
    uncaused-create _ wrong = absurd (nowhere At there wrong)

    pub unasked-write : (why : Refusal) → GivesWrite a.held.models call (Err why) → AnswersWrite policy a (Err why)
    unasked-write (refusal.Request place) wrong tables rests =
        known_of At (λ info. arguments_of (write_expects info.fields) (view call.args.now) (view call.kw.now) ≡ Err place)
        (λ info. AnswersBy (WritesSome a.held.models policy (called_by call info)) (standpoint g a) (standpoint g a) tables (Err (refusal.Request place))) (λ info is. ((inl is, refl), rests)) wrong
    unasked-write refusal.NoMemory wrong tables rests =
        everywhere At (λ info. AnswersBy (WritesSome a.held.models policy (called_by call info)) (standpoint g a) (standpoint g a) tables (Err refusal.NoMemory)) (λ info. (tt, rests))
    unasked-write _ wrong tables rests = absurd (nowhere At there wrong)

    pub uncaused-write : (why : Refusal) → GivesWrite a.held.models call (Err why) → CausesWrite policy a why
    uncaused-write (refusal.Request place) wrong =
        known_of At (λ info. arguments_of (write_expects info.fields) (view call.args.now) (view call.kw.now) ≡ Err place)
        (λ info. WriteMayCome a.held.models policy (called_by call info) (refusal.Request place)) (λ info is. inl is) wrong
    uncaused-write refusal.NoMemory wrong = tt
    uncaused-write _ wrong = absurd (nowhere At there wrong)

  -- ---- an engine that told no groups

  module _ (policy : PolicyData) (b : Engine K) (asked : Asks g a b) (why : Refusal) (h : Refuses (KeeperRose (standpoint g a) (standpoint g b)) (λ _. ⊥) why) where
    pub ungrouped-create : AnswersCreate policy b (Err why)
    ungrouped-create tables rests =
        everywhere At (λ info. AnswersBy (CreatesSome a.held.models policy (called_by call info)) (standpoint g a) (standpoint g b) tables (Err why)) (λ info. (
          Refuses-weaker (KeeperRose (standpoint g a) (standpoint g b)) (KeeperRose (standpoint g a) (standpoint g b)) (λ _. ⊥)
              (λ cause. CreatesSome a.held.models policy (called_by call info) tables (Err cause) tables) why (λ risen. risen) (λ w none. absurd none) h,
          asks-rests g a b asked tables rests,
        ))

    pub ungrouped-write : AnswersWrite policy b (Err why)
    ungrouped-write tables rests =
        everywhere At (λ info. AnswersBy (WritesSome a.held.models policy (called_by call info)) (standpoint g a) (standpoint g b) tables (Err why)) (λ info. (
          Refuses-weaker (KeeperRose (standpoint g a) (standpoint g b)) (KeeperRose (standpoint g a) (standpoint g b)) (λ _. ⊥)
              (λ cause. WritesSome a.held.models policy (called_by call info) tables (Err cause) tables) why (λ risen. risen) (λ w none. absurd none) h,
          asks-rests g a b asked tables rests,
        ))

    pub uncaused-groups : (Q : Refusal → Type 0) → Refuses (KeeperRose (standpoint g a) (standpoint g b)) Q why
    uncaused-groups Q = Refuses-weaker (KeeperRose (standpoint g a) (standpoint g b)) (KeeperRose (standpoint g a) (standpoint g b)) (λ _. ⊥) Q why (λ risen. risen) (λ w none. absurd none) h

  -- ---- by the caller's groups

  module _ (by : Caller) (user : by.user ≡ call.caller)
      (groups : OfAllTold (TellsFacts (g.kept a.keeper.now) a.held) (λ told. AreGroupsBy a.held.models by.policy.now told call.caller by.groups.now)) (b : Engine K) (asked : Asks g a b) (c : Engine K) where
    abbrev Policy : PolicyData
    Policy = by.policy.now

    abbrev Later : Type 0
    Later = KeeperRose (standpoint g b) (standpoint g c)

    abbrev Rises : Type 0
    Rises = KeeperRose (standpoint g a) (standpoint g c)

    up : Later → Rises
    up = rose_later (g.faults a.keeper.now) (g.faults b.keeper.now) (g.faults c.keeper.now) asked.count

    groups-at : (tables : Tables) → HasTables (standpoint g a) tables → AreGroupsOf a.held.models Policy tables call.caller by.groups.now
    groups-at tables rests = groups (told_by a.held.models tables) (rests-tells (g.kept a.keeper.now) a.held tables rests)

    groups-later : (tables : Tables) → HasTables (standpoint g a) tables → AreGroupsOf b.held.models Policy tables call.caller by.groups.now
    groups-later tables rests = subst (λ (ms : List ModelInfo). AreGroupsOf ms Policy tables call.caller by.groups.now) (sym asked.same.models) (groups-at tables rests)

    granted-as : (operation : Op) → may by operation call.model ≡ true → right Policy by.groups.now call.caller call.model operation ≡ true
    granted-as operation h = subst (λ (who : RecId). right Policy by.groups.now who call.model operation ≡ true) user h

    -- ---- a create

    module _ (vals : Given) (gives : GivesCreate a.held.models call (Ok vals)) where
      abbrev Place : List PathStep
      Place = spot_place vals.spot

      refused-create : (why : Refusal) → ComesBack g b c → Refuses Later (StopsCreate g by b Place) why → AnswersCreate Policy c (Err why)
      refused-create why back h tables rests =
          known_of At (λ info. IsGivenCreate (called_by call info) (Ok vals)) (λ info. AnswersBy (CreatesSome a.held.models Policy (called_by call info)) (standpoint g a) (standpoint g c) tables (Err why)) (λ info given.
          let called = called_by call info in
          refused-answer a.held.models Policy called op.Create (IsMalformedCreate called) (TellsIds called) (standpoint g a) (standpoint g c) tables why (back-rests g b c back tables (asks-rests g a b asked tables rests))
          (Refuses-weaker Later Rises (StopsCreate g by b Place) (IsTrue a.held.models Policy called (IsMalformedCreate called) tables) why up
          (λ w stops. subst (λ (ms : List ModelInfo). IsTrue ms Policy called (IsMalformedCreate called) tables w) asked.same.models
          (create-true g by called user b Place (IsMalformedCreate called) (create-below called given.0 vals given.1 given.2) tables (asks-rests g a b asked tables rests) (groups-later tables rests) w stops)) h)) gives

      made-create : (json : Data) → SettlesTo g (λ old new. TellsFor call.model old new (view vals.json.now) json) b c → may by op.Create call.model ≡ true → AnswersCreate Policy c (Ok json)
      made-create json is granted tables rests =
          let on = goes-on g (λ old new. TellsFor call.model old new (view vals.json.now) json) b c is tables (asks-rests g a b asked tables rests) in
          known_of At (λ info. IsGivenCreate (called_by call info) (Ok vals)) (λ info. AnswersBy (CreatesSome a.held.models Policy (called_by call info)) (standpoint g a) (standpoint g c) tables (Ok json)) (λ info given. (
            on.new,
            (
              (by.groups.now, groups-at tables rests, granted-as op.Create granted),
              subst (λ (ms : List ModelInfo). AreSound ms on.new) asked.same.models on.sound,
              on.rises,
              (given.0, given.1, given_of vals, given.2, on.holds),
            ),
            on.stands,
          )) gives

      pub answer-create : (r : Result Json Refusal) → IfOk r (λ json. SettlesTo g (λ old new. TellsFor call.model old new (view vals.json.now) (view json)) b c) → OnOk r (may by op.Create call.model ≡ true)
          → OnErr r (ComesBack g b c) → IfErr r (Refuses Later (StopsCreate g by b Place)) → AnswersCreate Policy c (result_view r)
      answer-create (Ok json) made granted back refused = made-create (view json) made granted
      answer-create (Err why) made granted back refused = refused-create why back refused

      pub causes-create : (r : Result Json Refusal) → IfErr r (Refuses Later (StopsCreate g by b Place)) → IfErr r (CausesCreate Policy c)
      causes-create (Ok json) refused = tt
      causes-create (Err why) refused =
          Refuses-weaker Later Rises (StopsCreate g by b Place) (λ w. IfSome At (λ info. CreateMayCome a.held.models Policy (called_by call info) w)) why up
          (λ w stops. known_of At (λ info. IsGivenCreate (called_by call info) (Ok vals)) (λ info. CreateMayCome a.held.models Policy (called_by call info) w) (λ info given.
          let called = called_by call info in
          subst (λ (ms : List ModelInfo). MayBeTrue ms Policy called (IsMalformedCreate called) w) asked.same.models
          (create-may g by called user b Place (IsMalformedCreate called) (create-below called given.0 vals given.1 given.2) w stops)) gives) refused

    -- ---- a write

    module _ (change : Change) (gives : GivesWrite a.held.models call (Ok change)) where
      abbrev Below : List PathStep
      Below = spot_place change.vals.spot

      -- the ids are those that the call names
      names-ids : (info : ModelInfo) → IsAskedWrite (called_by call info) (Ok change) → (id : ℕ) → Contains change.ids.items id → Names (called_by call info) id
      names-ids info (given, is, second, ids, first, are) id asked = (given, is, ids, first, subst (λ (own : List ℕ). Contains own id) are asked)

      pub refused-write : (why : Refusal) → ComesBack g b c → Refuses Later (StopsWrite g by call.model change.ids.items b Below) why → AnswersWrite Policy c (Err why)
      refused-write why back h tables rests =
          known_of At (λ info. IsAskedWrite (called_by call info) (Ok change)) (λ info. AnswersBy (WritesSome a.held.models Policy (called_by call info)) (standpoint g a) (standpoint g c) tables (Err why)) (λ info given.
          let called = called_by call info in
          refused-answer a.held.models Policy called op.Write (IsMalformedWrite called) (TellsTrue called) (standpoint g a) (standpoint g c) tables why (back-rests g b c back tables (asks-rests g a b asked tables rests))
          (Refuses-weaker Later Rises (StopsWrite g by call.model change.ids.items b Below) (IsTrue a.held.models Policy called (IsMalformedWrite called) tables) why up
          (λ w stops. subst (λ (ms : List ModelInfo). IsTrue ms Policy called (IsMalformedWrite called) tables w) asked.same.models
          (write-true g by called user b Below (IsMalformedWrite called) (write-below called given.0 change.vals given.1 given.2) tables (asks-rests g a b asked tables rests) (groups-later tables rests)
          change.ids.items (names-ids info given) w stops)) h)) gives

      pub made-write : (json : Data) → json ≡ boolean true → SettlesTo g (λ _ _. ⊤) b c → may by op.Write call.model ≡ true → AnswersWrite Policy c (Ok json)
      made-write json told is granted tables rests =
          let on = goes-on g (λ _ _. ⊤) b c is tables (asks-rests g a b asked tables rests) in
          known_of At (λ info. IsAskedWrite (called_by call info) (Ok change)) (λ info. AnswersBy (WritesSome a.held.models Policy (called_by call info)) (standpoint g a) (standpoint g c) tables (Ok json)) (λ info given. (
            on.new,
            (
              (by.groups.now, groups-at tables rests, granted-as op.Write granted),
              subst (λ (ms : List ModelInfo). AreSound ms on.new) asked.same.models on.sound,
              on.rises,
              (given.0, given.1, told),
            ),
            on.stands,
          )) gives

      pub caused-write : (why : Refusal) → Refuses Later (StopsWrite g by call.model change.ids.items b Below) why → CausesWrite Policy c why
      caused-write why refused =
          Refuses-weaker Later Rises (StopsWrite g by call.model change.ids.items b Below) (λ w. IfSome At (λ info. WriteMayCome a.held.models Policy (called_by call info) w)) why up
          (λ w stops. known_of At (λ info. IsAskedWrite (called_by call info) (Ok change)) (λ info. WriteMayCome a.held.models Policy (called_by call info) w) (λ info given.
          let called = called_by call info in
          subst (λ (ms : List ModelInfo). MayBeTrue ms Policy called (IsMalformedWrite called) w) asked.same.models
          (write-may g by called user b Below (IsMalformedWrite called) (write-below called given.0 change.vals given.1 given.2) change.ids.items (names-ids info given) w stops)) gives) refused
