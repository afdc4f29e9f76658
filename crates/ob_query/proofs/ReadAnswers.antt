-- The answer of a read, by its arguments and the rows that were fetched.
use Rattle.std.proofs.Common.{◌≡◌, ◌≤◌, ℕ, true, List, [], ◌∷◌, map, filter, get_or, Option, Some, None, option_map, Result, Ok, Err, refl, sym, ap, subst, ◌∙◌}
use Rattle.std.specs.Prelude.{All, Contains, IfErr, IfOk, IfSome}
use Rattle.std.specs.Option.{option_map_or}
use Rattle.std.proofs.lemmas.Option.{IfSome_then}
use Rattle.ob_access.specs.Policies.{PolicyData}
use Rattle.ob_base.specs.Chain.{◌>>=◌}
use Rattle.ob_base.specs.declared.id.FieldNo.{FieldNo}
use Rattle.ob_base.specs.declared.id.ModelNo.{ModelNo}
use Rattle.ob_base.specs.declared.id.RecId.{RecId}
use Rattle.ob_base.specs.declared.place.PathStep.{PathStep}
use Rattle.ob_base.specs.declared.refusal.Refusal.{Refusal}
use Rattle.ob_base.specs.declared.refusal.Refusal.TheVariants as refusal
use Rattle.ob_cache.proofs.CallerLemmas.{Refuses-weaker}
use Rattle.ob_cache.specs.Calls.{KeeperRose, Refuses, Standpoint, TellsBy, models_at}
use Rattle.ob_call.specs.Arguments as arguments
use Rattle.ob_call.specs.Arguments.{AreFit, arguments_of}
use Rattle.ob_call.specs.ArgumentsSteps.{all_given_of, given_of}
use Rattle.ob_call.specs.Called.{Called, called_by, result_view}
use Rattle.ob_call.specs.Columns.{asked_columns, columns_at}
use Rattle.ob_call.specs.Forms.{fields_at}
use Rattle.ob_call.specs.Ids.{named_ids}
use Rattle.ob_call.specs.declared.arguments.Given.{Given}
use Rattle.ob_call.specs.declared.call.Call.{Call}
use Rattle.ob_query.proofs.Asked.{rose_later}
use Rattle.ob_query.proofs.NamedBy.{named_same, names_same}
use Rattle.ob_query.proofs.ReadGiven.{ReadGiven, read_given}
use Rattle.ob_query.proofs.Refused.{asked_may}
use Rattle.ob_query.proofs.SearchAnswers.{from_view, stands_for}
use Rattle.ob_query.proofs.ToldColumns.{columns_told}
use Rattle.ob_query.specs.Callers.{IsAskedBy, Named, in_turn, is_first, may_read_field, seen_by}
use Rattle.ob_query.specs.Denials.{AskCause, IsRefused, MayAsk}
use Rattle.ob_query.specs.NamedFields.{Naming, name_fields, names_name, read_named, read_names}
use Rattle.ob_query.specs.Read.{IsLeastFailing, ReadCause, ReadRefuses, Reads, ReadsOver, TellsRows}
use Rattle.ob_query.specs.ReadArguments.{Asked, asked_by, asked_of, read_expects}
use Rattle.ob_query.specs.ReadParts.{HidesLeast, IsHiddenAmong, IsLeastMissing, TellsAsked, read_view, told_read}
use Rattle.ob_access.specs.Users.{AreGroupsOf}
use Rattle.ob_query.specs.Views.{View, view_of}
use Rattle.ob_query.specs.declared.caller.Caller.{Caller}
use Rattle.ob_query.specs.declared.reading.Asked.{Asked as Own}
use Rattle.ob_schema.specs.Facts.{told_by}
use Rattle.ob_schema.specs.Fields.{Column}
use Rattle.ob_schema.specs.Models.{model_at}
use Rattle.ob_schema.specs.Paths.{step_at}
use Rattle.ob_schema.specs.Tables.{Tables}
use Rattle.ob_schema.specs.declared.info.FieldInfo.{FieldInfo}
use Rattle.ob_schema.specs.declared.info.ModelInfo.{ModelInfo}
use Rattle.ob_schema.specs.declared.info.Step.{Step}
use Rattle.serde_json.specs.Data.{Data}
use Rattle.serde_json.specs.View.{view}
use Rattle.serde_json.specs.declared.value.Value.{Value}

-- ---- the arguments

-- three arguments, the first of which is given
pub record Three (given : List (Option Given)) : Type 0 where
  pub first : Given
  pub second : Option Given
  pub third : Option Given
  pub are : given ≡ Some first ∷ second ∷ third ∷ []

-- the arguments are three where what they stand for is
three_of : (given : List (Option Given)) (ids : arguments.Given) (fields load : Option arguments.Given) → map (option_map given_of) given ≡ Some ids ∷ fields ∷ load ∷ [] → Three given
three_of [] ids fields load e = absurd cc
three_of (None ∷ given) ids fields load e = absurd cc
three_of (Some first ∷ []) ids fields load e = absurd cc
three_of (Some first ∷ second ∷ []) ids fields load e = absurd cc
three_of (Some first ∷ second ∷ third ∷ []) ids fields load e = record { first = first; second = second; third = third; are = refl }
three_of (Some first ∷ second ∷ third ∷ more ∷ given) ids fields load e = absurd cc

-- the arguments of a read that fit
pub three_given : (fields : List FieldInfo) (given : List (Option Given)) → AreFit (read_expects fields) (all_given_of given) → Three given
three_given fields given fit = let is : ReadGiven (all_given_of given) = read_given fields (all_given_of given) fit in three_of given is.ids is.fields is.load is.three

pub three_are : (items : List (Option Given)) (three : Three items) (first : Given) (second : Option Given) → Some first ≡ get_or items 0 (Some first) → second ≡ get_or items 1 second → items ≡ Some first ∷ second ∷ three.third ∷ []
three_are items three first second one two =
    three.are ∙ ap (λ (o : Option Given). o ∷ three.second ∷ three.third ∷ []) (sym (one ∙ ap (λ (l : List (Option Given)). get_or l 0 (Some first)) three.are))
    ∙ ap (λ (o : Option Given). Some first ∷ o ∷ three.third ∷ []) (sym (two ∙ ap (λ (l : List (Option Given)). get_or l 1 second) three.are))

-- ids, and the fields of these numbers
abbrev pub meant_by : ModelInfo → List ℕ → List FieldNo → Asked
meant_by info ids numbers = record { ids = ids; fields = columns_at info numbers }

-- the fields that a list of names names, as the code has them
abbrev pub read_pairs : List FieldInfo → ModelNo → Option Given → List Named
read_pairs infos model fields = (is_first (option_map given_of fields), map (step_at model) (option_map_or (λ g. name_fields infos g.json) (option_map given_of fields) [])) ∷ []

module _ (models : List ModelInfo) (call : Call) (items : List (Option Given)) (first : Given) (second third : Option Given) (are : items ≡ Some first ∷ second ∷ third ∷ [])
    (told : arguments_of (read_expects (fields_at models call.model)) (view call.args.now) (view call.kw.now) ≡ Ok (all_given_of items)) where
  -- what they ask for
  pub taken_read : (ids : List ℕ) (numbers : List FieldNo) → ids ≡ named_ids (view first.json.now) → IfSome (model_at models call.model) (λ info. columns_at info numbers ≡ asked_columns info (option_map given_of second))
      → IfSome (model_at models call.model) (λ info. asked_of (called_by call info) ≡ Ok (meant_by info ids numbers))
  taken_read ids numbers ids_are numbers_are = both (model_at models call.model) told numbers_are where
    both : (o : Option ModelInfo) → arguments_of (read_expects (option_map_or (λ info. info.fields) o [])) (view call.args.now) (view call.kw.now) ≡ Ok (all_given_of items)
        → IfSome o (λ info. columns_at info numbers ≡ asked_columns info (option_map given_of second)) → IfSome o (λ info. asked_of (called_by call info) ≡ Ok (meant_by info ids numbers))
    both None a b = tt
    both (Some info) a b =
        ap (λ (r : Result (List (Option arguments.Given)) (List PathStep)). r >>= λ gs. Ok (asked_by info gs)) (a ∙ ap (λ (l : List (Option Given)). Ok (all_given_of l)) are)
        ∙ ap (λ (l : List ℕ). Ok (record { ids = l; fields = asked_columns info (option_map given_of second) })) (sym ids_are)
        ∙ ap (λ (l : List Column). Ok (record { ids = ids; fields = l })) (sym b)

  -- and name
  pub named_read : IfSome (model_at models call.model) (λ info. read_named (called_by call info) ≡ Ok (in_turn (read_pairs (fields_at models call.model) call.model second)))
  named_read = both (model_at models call.model) told where
    both : (o : Option ModelInfo) → arguments_of (read_expects (option_map_or (λ info. info.fields) o [])) (view call.args.now) (view call.kw.now) ≡ Ok (all_given_of items)
        → IfSome o (λ info. read_named (called_by call info) ≡ Ok (in_turn (read_pairs (option_map_or (λ info. info.fields) o []) call.model second)))
    both None a = tt
    both (Some info) a =
        let c = called_by call info in
        let fields : Option arguments.Given = option_map given_of second in
        let own : Naming = record { given = fields; names = names_name c } in
        let same : in_turn (read_pairs info.fields call.model second) ≡ read_names c (Some (given_of first) ∷ fields ∷ option_map given_of third ∷ []) = ap (λ (l : List Step). in_turn ((is_first fields, l) ∷ [])) (names_same c fields)
        ∙ named_same (own ∷ []) in
        ap (λ (r : Result (List (Option arguments.Given)) (List PathStep)). r >>= λ gs. Ok (read_names c gs)) (a ∙ ap (λ (l : List (Option Given)). Ok (all_given_of l)) are) ∙ ap Ok (sym same)

-- ---- what its caller is told

-- what stands for a read has the fields alone that its caller may read
abbrev pub StandsForRead : Caller → ModelNo → ModelInfo → Own → Asked → Type 0
StandsForRead by model info asked meant = read_view info asked ≡ told_read by model meant

-- what the code makes of ids and numbers
abbrev pub IsToldRead : Caller → ModelNo → List ℕ → List FieldNo → Own → Type 0
IsToldRead by model ids numbers asked = (asked.ids.items ≡ ids) × (asked.fields.items ≡ filter (λ field. may_read_field by (step_at model field)) numbers)

pub read_stands : (by : Caller) (model : ModelNo) (info : ModelInfo) (ids : List ℕ) (numbers : List FieldNo) (asked : Own) → IsToldRead by model ids numbers asked → StandsForRead by model info asked (meant_by info ids numbers)
read_stands by model info ids numbers asked is =
    ap (λ (l : List ℕ). record { ids = l; fields = columns_at info asked.fields.items }) is.0
    ∙ ap (λ (l : List Column). record { ids = ids; fields = l }) (ap (columns_at info) is.1 ∙ columns_told by model info numbers)

-- ---- the answer

-- what refuses a call that looks for rows refuses a read
pub as_read : (policy : PolicyData) (here : View) (c : Called) (why : Refusal) → IsRefused policy here c (asked_of c) (read_named c) why → ReadRefuses policy here c why
as_read policy here c (refusal.Request place) h = h
as_read policy here c (refusal.Right m operation) h = h
as_read policy here c (refusal.FieldRight m field) h = h
as_read policy here c (refusal.Missing m id) h = absurd h
as_read policy here c (refusal.Rule m operation id name) h = absurd h
as_read policy here c (refusal.Constraint broken) h = absurd h
as_read policy here c refusal.Keeper h = absurd h
as_read policy here c refusal.NoMemory h = absurd h

as_cause : (policy : PolicyData) (c : Called) (why : Refusal) → AskCause policy c (asked_of c) (read_named c) why → ReadCause policy c why
as_cause policy c (refusal.Request place) h = h
as_cause policy c (refusal.Right m operation) h = h
as_cause policy c (refusal.FieldRight m field) h = h
as_cause policy c (refusal.Missing m id) h = absurd h.1
as_cause policy c (refusal.Rule m operation id name) h = absurd h.1
as_cause policy c (refusal.Constraint broken) h = absurd h.1
as_cause policy c refusal.Keeper h = absurd h.1
as_cause policy c refusal.NoMemory h = absurd h.1

-- of a model that may be there
pub read_cause : (rose : Type 0) (policy : PolicyData) (call : Call) (found : Option ModelInfo) (why : Refusal)
    → Refuses rose (λ w. IfSome found (λ info. AskCause policy (called_by call info) (asked_of (called_by call info)) (read_named (called_by call info)) w)) why
    → Refuses rose (λ w. IfSome found (λ info. ReadCause policy (called_by call info) w)) why
read_cause rose policy call found why h = Refuses-weaker rose rose _ _ why (λ r. r) (λ w cause. IfSome_then found cause (λ info own. as_cause policy (called_by call info) w own)) h

-- ---- over the registry that an engine has behind questions, and by what it has of who asks, of which model and of which ids

pub least_here : (schema models : List ModelInfo) → schema ≡ models → (slice ids : List ℕ) → slice ≡ ids → (tables : Tables) (own model : ModelNo) → own ≡ model → (missing found : Option ℕ) → missing ≡ found
    → IsLeastMissing (told_by schema tables) own slice missing → IsLeastMissing (told_by models tables) model ids found
least_here schema models same slice ids is tables own model model_is missing found found_is h =
    let here = subst (λ (m : List ModelInfo). IsLeastMissing (told_by m tables) own slice missing) same h in
    let all = subst (λ (xs : List ℕ). IsLeastMissing (told_by models tables) own xs missing) is here in
    subst (λ (o : Option ℕ). IsLeastMissing (told_by models tables) model ids o) found_is (subst (λ (n : ModelNo). IsLeastMissing (told_by models tables) n ids missing) model_is all)

pub told_here : (schema models : List ModelInfo) → schema ≡ models → (tables : Tables) (asked : Own) (by : Caller) → asked.by ≡ by → (model : ModelNo) → asked.model ≡ model → (rose : Type 0) (r : Result Data Refusal)
    → IfSome (model_at schema asked.model) (λ info. TellsAsked (seen_by asked.by schema (told_by schema tables)) rose asked.model (read_view info asked) r)
    → IfSome (model_at models model) (λ info. TellsAsked (seen_by by models (told_by models tables)) rose model (read_view info asked) r)
told_here schema models same tables asked by by_is model model_is rose r h =
    let Told = λ (m : List ModelInfo) (b : Caller) (n : ModelNo). IfSome (model_at m n) (λ info. TellsAsked (seen_by b m (told_by m tables)) rose n (read_view info asked) r) in
    let here = subst (λ (m : List ModelInfo). Told m asked.by asked.model) same h in
    subst (λ (n : ModelNo). Told models by n) model_is (subst (λ (b : Caller). Told models b asked.model) by_is here)

pub hidden_here : {T : Type 0} (own model : ModelNo) → own ≡ model → (rose : Type 0) (ids : List ℕ) (r : Result T Refusal) → IfErr r (Refuses rose (IsHiddenAmong own ids)) → IfErr r (Refuses rose (IsHiddenAmong model ids))
hidden_here own model model_is rose ids r h = subst (λ (n : ModelNo). IfErr r (Refuses rose (IsHiddenAmong n ids))) model_is h

module _ (models : List ModelInfo) (call : Call) (by : Caller) (user : by.user ≡ call.caller) (asked : Own) (model : asked.model ≡ call.model) where
  abbrev Known : ModelInfo → Type 0
  Known info = IsAskedBy by call.model (StandsForRead by call.model info) (asked_of (called_by call info)) (read_named (called_by call info)) (Ok asked)

  -- what is asked for, of a model that may be there
  abbrev pub IsReadBy : Option ModelInfo → Type 0
  IsReadBy found = IfSome found (λ info. IsAskedBy by call.model (StandsForRead by call.model info) (asked_of (called_by call info)) (read_named (called_by call info)) (Ok asked))

  module _ (tables : Tables) (own : AreGroupsOf models by.policy.now tables by.user by.groups.now) where
    -- what he knows
    abbrev here : View
    here = view_of models by.policy.now by.groups.now by.user tables

    may : (info : ModelInfo) → IsAskedBy by call.model (StandsForRead by call.model info) (asked_of (called_by call info)) (read_named (called_by call info)) (Ok asked) → MayAsk by.policy.now here (called_by call info) (read_named (called_by call info))
    may info is = asked_may by (called_by call info) models tables ⊥ (StandsForRead by call.model info) (asked_of (called_by call info)) (read_named (called_by call info)) user asked is

    -- the least id that doesn't exist
    pub missing_answered : (rose : Type 0) (id : RecId) → IsReadBy (model_at models call.model) → IsLeastFailing (λ i. (told_by models tables).knows call.model i) asked.ids.items id.0
        → IfSome (model_at models call.model) (λ info. Refuses rose (λ cause. Reads models by.policy.now (called_by call info) tables (Err cause)) (refusal.Missing asked.model id))
    missing_answered rose id is least =
        IfSome_then (model_at models call.model) is
        (λ info h.
        let c = called_by call info in
        let stands = stands_for asked (StandsForRead by call.model info) (asked_of c) h.0 in
        from_view models by call.caller (ReadsOver by.policy.now c) tables (Err (refusal.Missing asked.model id)) user own
        (may info h, stands.0, stands.1, (model, subst (λ (ids : List ℕ). IsLeastFailing (here.exists call.model) ids id.0) (ap (λ (a : Asked). a.ids) stands.2) least)))

    -- the rows
    pub rows_answered : (before mid after : Standpoint) (r : Result Value Refusal) → before.faults ≤ mid.faults → IsReadBy (model_at models call.model)
        → All (λ id. (told_by models tables).knows call.model (record { 0 = id }) ≡ true) asked.ids.items
        → IfSome (model_at models call.model) (λ info. TellsAsked (seen_by by models (told_by models tables)) (KeeperRose mid after) call.model (read_view info asked) (result_view r))
        → IfSome (model_at models call.model) (λ info. TellsBy (Reads models by.policy.now (called_by call info)) before after tables (result_view r))
    rows_answered before mid after r low is there tells = both (model_at models call.model) is tells where
      hides : (info : ModelInfo) → Known info → (meant : Asked) → asked_of (called_by call info) ≡ Ok meant → StandsForRead by call.model info asked meant → (w : Refusal) → HidesLeast here.told call.model asked.ids.items w
          → ReadsOver by.policy.now (called_by call info) here (Err w)
      hides info h meant of stands (refusal.Rule m operation id name) g =
          let ids_are : asked.ids.items ≡ meant.ids = ap (λ (a : Asked). a.ids) stands in (
            may info h,
            meant,
            of,
            (g.0, g.1, g.2, subst (All (λ other. here.exists call.model (record { 0 = other }) ≡ true)) ids_are there, subst (λ (ids : List ℕ). IsLeastFailing (here.told.knows call.model) ids id.0) ids_are g.3),
          )
      hides info h meant of stands (refusal.Request place) g = absurd g
      hides info h meant of stands (refusal.Right m operation) g = absurd g
      hides info h meant of stands (refusal.FieldRight m field) g = absurd g
      hides info h meant of stands (refusal.Missing m id) g = absurd g
      hides info h meant of stands (refusal.Constraint broken) g = absurd g
      hides info h meant of stands refusal.Keeper g = absurd g
      hides info h meant of stands refusal.NoMemory g = absurd g

      answered : (info : ModelInfo) → Known info → (q : Result Data Refusal) → TellsAsked here.told (KeeperRose mid after) call.model (read_view info asked) q → TellsBy (Reads models by.policy.now (called_by call info)) before after tables q
      answered info h (Ok json) g =
          let c = called_by call info in
          let stands = stands_for asked (StandsForRead by call.model info) (asked_of c) h.0 in
          from_view models by call.caller (ReadsOver by.policy.now c) tables (Ok json) user own
          (may info h, stands.0, g.0, stands.1, subst (λ (a : Asked). TellsRows here.told call.model a.fields a.ids g.0) stands.2 g.1, g.2)
      answered info h (Err why) g =
          let c = called_by call info in
          let stands = stands_for asked (StandsForRead by call.model info) (asked_of c) h.0 in
          Refuses-weaker (KeeperRose mid after) (KeeperRose before after) (HidesLeast here.told call.model asked.ids.items) _ why (rose_later before.faults mid.faults after.faults low)
          (λ w hidden. from_view models by call.caller (ReadsOver by.policy.now c) tables (Err w) user own (hides info h stands.0 stands.1 stands.2 w hidden)) g

      both : (o : Option ModelInfo) → IsReadBy o → IfSome o (λ info. TellsAsked here.told (KeeperRose mid after) call.model (read_view info asked) (result_view r))
          → IfSome o (λ info. TellsBy (Reads models by.policy.now (called_by call info)) before after tables (result_view r))
      both None a b = tt
      both (Some info) a b = answered info a (result_view r) b

  -- ---- whatever the keeper tells

  -- an id that doesn't exist is one that was asked for
  pub missing_cause : (found : Option ModelInfo) (id : RecId) → IsReadBy found → Contains asked.ids.items id.0 → IfSome found (λ info. ReadCause by.policy.now (called_by call info) (refusal.Missing asked.model id))
  missing_cause found id is among =
      IfSome_then found is
      (λ info h.
      let stands = stands_for asked (StandsForRead by call.model info) (asked_of (called_by call info)) h.0 in
      (stands.0, stands.1, model, subst (λ (ids : List ℕ). Contains ids id.0) (ap (λ (a : Asked). a.ids) stands.2) among))

  -- so is one whose row is hidden
  hidden_one : (found : Option ModelInfo) → IsReadBy found → (w : Refusal) → IsHiddenAmong call.model asked.ids.items w → IfSome found (λ info. ReadCause by.policy.now (called_by call info) w)
  hidden_one found is (refusal.Rule m operation id name) g =
      IfSome_then found is
      (λ info h.
      let stands = stands_for asked (StandsForRead by call.model info) (asked_of (called_by call info)) h.0 in
      (stands.0, stands.1, g.0, g.1, g.2, subst (λ (ids : List ℕ). Contains ids id.0) (ap (λ (a : Asked). a.ids) stands.2) g.3))
  hidden_one found is (refusal.Request place) g = absurd g
  hidden_one found is (refusal.Right m operation) g = absurd g
  hidden_one found is (refusal.FieldRight m field) g = absurd g
  hidden_one found is (refusal.Missing m id) g = absurd g
  hidden_one found is (refusal.Constraint broken) g = absurd g
  hidden_one found is refusal.Keeper g = absurd g
  hidden_one found is refusal.NoMemory g = absurd g

  pub hidden_causes : {T : Type 0} (found : Option ModelInfo) (before mid after : Standpoint) (r : Result T Refusal) → before.faults ≤ mid.faults → IsReadBy found → IfErr r (Refuses (KeeperRose mid after) (IsHiddenAmong call.model asked.ids.items))
      → IfErr r (Refuses (KeeperRose before after) (λ w. IfSome found (λ info. ReadCause by.policy.now (called_by call info) w)))
  hidden_causes found before mid after (Ok json) low is h = tt
  hidden_causes found before mid after (Err why) low is h =
      Refuses-weaker (KeeperRose mid after) (KeeperRose before after) (IsHiddenAmong call.model asked.ids.items) _ why (rose_later before.faults mid.faults after.faults low) (hidden_one found is) h
