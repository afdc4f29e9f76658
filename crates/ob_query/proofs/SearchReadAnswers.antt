-- What a search that reads answers, by its arguments, the rows that were found and their objects.
use Rattle.std.proofs.Common.{◌≡◌, ◌&&◌, ℕ, zero, suc, ◌≤◌, Bool, true, false, List, [], ◌∷◌, get_or, filter, map, drop, Option, Some, None, option_map, Result, Ok, Err, refl, sym, ap, subst, ◌∙◌}
use Rattle.std.specs.Prelude.{All, IfErr, IfOk, IfSome, IsOkAnd}
use Rattle.std.specs.Option.{option_map_or}
use Rattle.std.proofs.lemmas.List.Elements.{All-drop, All-take, All-weaker, filter_passes}
use Rattle.std.proofs.lemmas.List.Sorted.{All-permutation}
use Rattle.std.proofs.lemmas.Option.{IfSome_then}
use Rattle.ob_base.specs.Chain.{◌>>=◌}
use Rattle.ob_base.specs.declared.id.FieldNo.{FieldNo}
use Rattle.ob_base.specs.declared.id.ModelNo.{ModelNo}
use Rattle.ob_base.specs.declared.id.RecId.{RecId}
use Rattle.ob_base.specs.declared.place.PathStep.{PathStep}
use Rattle.ob_base.specs.declared.refusal.Refusal.{Refusal}
use Rattle.ob_cache.specs.Calls.{KeeperRose, Refuses, Standpoint, TellsBy}
use Rattle.ob_call.proofs.CallerLemmas.{at_info}
use Rattle.ob_call.specs.Arguments as arguments
use Rattle.ob_call.specs.Arguments.{AreFit, Expected, arguments_of}
use Rattle.ob_call.specs.ArgumentsSteps.{all_given_of, given_of}
use Rattle.ob_call.specs.Called.{Called, called_by, result_view}
use Rattle.ob_call.specs.Columns.{asked_columns, columns_at}
use Rattle.ob_call.specs.Forms.{fields_at}
use Rattle.ob_call.specs.declared.arguments.Given.{Given}
use Rattle.ob_call.specs.declared.call.Call.{Call}
use Rattle.ob_domain.specs.Naming.{named_fields}
use Rattle.ob_query.proofs.GrantedFields.{everywhere}
use Rattle.ob_query.proofs.NamedBy.{domain_same, named_same, names_same, order_same}
use Rattle.ob_query.proofs.Refused.{asked_may}
use Rattle.ob_query.proofs.SearchAnswers.{Four, four_are, four_given, four_last, from_view, order_fit, own_fit, stands_for, told_later}
use Rattle.ob_query.proofs.SearchFrom.{as_sought}
use Rattle.ob_query.proofs.ToldColumns.{columns_told}
use Rattle.ob_query.specs.Callers.{IsAskedBy, Named, in_turn, is_first, may_read_field, seen_by}
use Rattle.ob_query.specs.NamedFields.{Naming, domain_names, name_fields, names_name, objects_named, objects_names, order_names}
use Rattle.ob_query.specs.Read.{TellsRows, told_columns}
use Rattle.ob_query.specs.ReadRows.{ListsRows}
use Rattle.ob_query.specs.Search.{SearchReads, SearchReadsOver, is_found}
use Rattle.ob_query.specs.SearchForms.{objects_by, objects_in, objects_of, order_fault, search_read_expects, sought_in}
use Rattle.ob_query.specs.SearchForms as forms
use Rattle.ob_query.specs.SearchOrder.{window}
use Rattle.ob_query.specs.SearchParts.{AreFound, HaveRows, IsToldObjects, found_by, is_known_found, objects_view, sought_view, told_objects, told_sought, told_to}
use Rattle.ob_access.specs.Users.{AreGroupsOf}
use Rattle.ob_query.specs.declared.caller.Caller.{Caller}
use Rattle.ob_query.specs.declared.searching.sought.Sought.{Sought}
use Rattle.ob_query.specs.declared.searching.sought.SoughtObjects.{SoughtObjects}
use Rattle.ob_schema.specs.Facts.{told_by}
use Rattle.ob_schema.specs.Fields.{Column}
use Rattle.ob_schema.specs.Models.{model_at}
use Rattle.ob_schema.specs.Paths.{step_at}
use Rattle.ob_schema.specs.Tables.{Tables, ids_in}
use Rattle.ob_schema.specs.declared.info.FieldInfo.{FieldInfo}
use Rattle.ob_schema.specs.declared.info.ModelInfo.{ModelInfo}
use Rattle.ob_schema.specs.declared.info.Step.{Step}
use Rattle.serde_json.specs.View.{view}
use Rattle.serde_json.specs.declared.value.Value.{Value}

-- ---- arguments

-- five arguments that fit what is expected: the first, and four
pub record Five (p q t : Expected) (given : List (Option Given)) : Type 0 where
  pub first : Option Given
  pub rest : List (Option Given)
  pub are : given ≡ first ∷ rest
  pub fit : IfSome first (λ g. p.fault (view g.json.now) ≡ None)
  pub four : Four q t rest

pub five_given : (p q r s t : Expected) (given : List (Option Given)) → AreFit (p ∷ q ∷ r ∷ s ∷ t ∷ []) (all_given_of given) → Five p q t given
five_given p q r s t [] h = absurd h
five_given p q r s t (first ∷ rest) h = record { first = first; rest = rest; are = refl; fit = own_fit p first h.0; four = four_given q r s t rest h.1 }

module _ (p q t : Expected) (items : List (Option Given)) (five : Five p q t items) where
  place : (n : ℕ) (o : Option Given) → o ≡ get_or items n o → o ≡ get_or (five.first ∷ five.rest) n o
  place n o is = is ∙ ap (λ (l : List (Option Given)). get_or l n o) five.are

  pub five_are : (v w x y z : Option Given) → v ≡ get_or items 0 v → w ≡ get_or items 1 w → x ≡ get_or items 2 x → y ≡ get_or items 3 y → z ≡ get_or items 4 z → items ≡ v ∷ w ∷ x ∷ y ∷ z ∷ []
  five_are v w x y z a b c d e =
      five.are ∙ ap (λ (o : Option Given). o ∷ five.rest) (sym (place 0 v a))
      ∙ ap (λ (l : List (Option Given)). v ∷ l) (four_are q t five.rest five.four w x y z (place 1 w b) (place 2 x c) (place 3 y d) (place 4 z e))

  -- the first is of its form
  pub five_first : (v : Option Given) → v ≡ get_or items 0 v → IfSome v (λ g. p.fault (view g.json.now) ≡ None)
  five_first v is = subst (λ (o : Option Given). IfSome o (λ g. p.fault (view g.json.now) ≡ None)) (sym (place 0 v is)) five.fit

  -- and the last
  pub five_last : (z : Option Given) → z ≡ get_or items 4 z → IfSome z (λ g. t.fault (view g.json.now) ≡ None)
  five_last z is = four_last q t five.rest five.four z (place 4 z is)

-- five that are given ask for what they are
pub taken_objects : (models : List ModelInfo) (call : Call) (items : List (Option Given)) (one fields two three four : Option Given) (asked : ModelInfo → forms.SoughtObjects) → items ≡ one ∷ fields ∷ two ∷ three ∷ four ∷ []
    → arguments_of (search_read_expects models call.model (fields_at models call.model)) (view call.args.now) (view call.kw.now) ≡ Ok (all_given_of items)
    → IfSome (model_at models call.model) (λ info. asked info
    ≡ objects_in (sought_in models (called_by call info) (option_map given_of one) (option_map given_of two) (option_map given_of three) (option_map given_of four)) (asked_columns info (option_map given_of fields)))
    → IfSome (model_at models call.model) (λ info. objects_of models (called_by call info) ≡ Ok (asked info))
taken_objects models call items one fields two three four asked are told is =
    both (model_at models call.model)
    (at_info models call.model (λ infos. arguments_of (search_read_expects models call.model infos) (view call.args.now) (view call.kw.now) ≡ Ok (all_given_of items)) told) is where
      both : (o : Option ModelInfo) → IfSome o (λ info. arguments_of (search_read_expects models call.model info.fields) (view call.args.now) (view call.kw.now) ≡ Ok (all_given_of items))
          → IfSome o (λ info. asked info
          ≡ objects_in (sought_in models (called_by call info) (option_map given_of one) (option_map given_of two) (option_map given_of three) (option_map given_of four)) (asked_columns info (option_map given_of fields)))
          → IfSome o (λ info. objects_of models (called_by call info) ≡ Ok (asked info))
      both None a b = tt
      both (Some info) a b =
          ap (λ (r : Result (List (Option arguments.Given)) (List PathStep)). r >>= λ gs. Ok (objects_by models (called_by call info) gs)) (a ∙ ap (λ (l : List (Option Given)). Ok (all_given_of l)) are)
          ∙ ap Ok (sym b)

-- the fields that a domain, a list of names and an order name, as the code has them
abbrev pub objects_pairs : List FieldInfo → ModelNo → (domain fields order : Option Given) → forms.Sought → List Named
objects_pairs infos model domain fields order sought =
    (is_first (option_map given_of domain), named_fields model sought.tree)
    ∷ (is_first (option_map given_of fields), map (step_at model) (option_map_or (λ g. name_fields infos g.json) (option_map given_of fields) []))
    ∷ (is_first (option_map given_of order), option_map_or (λ g. map (λ term. step_at model term.field) sought.order) (option_map given_of order) []) ∷ []

module _ (models : List ModelInfo) (c : Called) (one fields two three four : Option Given) (sought : forms.Sought) where
  pub names_objects : sought ≡ sought_in models c (option_map given_of one) (option_map given_of two) (option_map given_of three) (option_map given_of four)
      → IfSome four (λ g. order_fault c.info.fields (view g.json.now) ≡ None)
      → objects_names models c (option_map given_of one ∷ option_map given_of fields ∷ option_map given_of two ∷ option_map given_of three ∷ option_map given_of four ∷ [])
      ≡ in_turn (objects_pairs c.info.fields c.model one fields four sought)
  names_objects is fit =
      let domain : Option arguments.Given = option_map given_of one in
      let names : Option arguments.Given = option_map given_of fields in
      let order : Option arguments.Given = option_map given_of four in
      let ns : List Naming = record { given = domain; names = domain_names models c } ∷ record { given = names; names = names_name c } ∷ record { given = order; names = order_names c } ∷ [] in
      let a = option_map_or (λ g. domain_names models c g.json) domain [] in
      let b = option_map_or (λ g. names_name c g.json) names [] in
      let own = map (step_at c.model) (option_map_or (λ g. name_fields c.info.fields g.json) names []) in
      let terms = option_map_or (λ g. map (λ term. step_at c.model term.field) (forms.order_given c.info order)) order [] in
      sym (ap (λ (s : forms.Sought). in_turn (objects_pairs c.info.fields c.model one fields four s)) is
      ∙ ap (λ (l : List Step). in_turn ((is_first domain, l) ∷ (is_first names, own) ∷ (is_first order, terms) ∷ [])) (domain_same models c domain)
      ∙ ap (λ (l : List Step). in_turn ((is_first domain, a) ∷ (is_first names, l) ∷ (is_first order, terms) ∷ [])) (names_same c names)
      ∙ ap (λ (l : List Step). in_turn ((is_first domain, a) ∷ (is_first names, b) ∷ (is_first order, l) ∷ [])) (order_same c order (order_fit c.info.fields four fit)) ∙ named_same ns)

-- and name what they do
pub named_objects : (models : List ModelInfo) (call : Call) (items : List (Option Given)) (one fields two three four : Option Given) (sought : forms.Sought) → items ≡ one ∷ fields ∷ two ∷ three ∷ four ∷ []
    → arguments_of (search_read_expects models call.model (fields_at models call.model)) (view call.args.now) (view call.kw.now) ≡ Ok (all_given_of items)
    → IfSome (model_at models call.model) (λ info. sought ≡ sought_in models (called_by call info) (option_map given_of one) (option_map given_of two) (option_map given_of three) (option_map given_of four))
    → IfSome four (λ g. order_fault (fields_at models call.model) (view g.json.now) ≡ None)
    → IfSome (model_at models call.model) (λ info. objects_named models (called_by call info) ≡ Ok (in_turn (objects_pairs (fields_at models call.model) call.model one fields four sought)))
named_objects models call items one fields two three four sought are told is fit =
    all (model_at models call.model) told is fit where
      all : (o : Option ModelInfo) → arguments_of (search_read_expects models call.model (option_map_or (λ info. info.fields) o [])) (view call.args.now) (view call.kw.now) ≡ Ok (all_given_of items)
          → IfSome o (λ info. sought ≡ sought_in models (called_by call info) (option_map given_of one) (option_map given_of two) (option_map given_of three) (option_map given_of four))
          → IfSome four (λ g. order_fault (option_map_or (λ info. info.fields) o []) (view g.json.now) ≡ None)
          → IfSome o (λ info. objects_named models (called_by call info) ≡ Ok (in_turn (objects_pairs (option_map_or (λ info. info.fields) o []) call.model one fields four sought)))
      all None a b f = tt
      all (Some info) a b f =
          ap (λ (r : Result (List (Option arguments.Given)) (List PathStep)). r >>= λ gs. Ok (objects_names models (called_by call info) gs)) (a ∙ ap (λ (l : List (Option Given)). Ok (all_given_of l)) are)
          ∙ ap Ok (names_objects models (called_by call info) one fields two three four sought b f)

-- rows and fields that are asked for, each as it is meant
pub objects_joined : (found : Option ModelInfo) (sought : forms.Sought) (meant : ModelInfo → forms.Sought) (numbers : List FieldNo) (given : Option arguments.Given) → IfSome found (λ info. sought ≡ meant info)
    → IfSome found (λ info. columns_at info numbers ≡ asked_columns info given) → IfSome found (λ info. objects_in sought (columns_at info numbers) ≡ objects_in (meant info) (asked_columns info given))
objects_joined None sought meant numbers given a b = tt
objects_joined (Some info) sought meant numbers given a b = ap (λ (s : forms.Sought). objects_in s (columns_at info numbers)) a ∙ ap (objects_in (meant info)) b

-- ---- what its caller is told

-- what stands for a search that reads is in the order and with the fields that its caller is told
abbrev pub StandsForObjects : Caller → ModelNo → ModelInfo → SoughtObjects → forms.SoughtObjects → Type 0
StandsForObjects by model info asked meant = objects_view info asked ≡ told_objects by model meant

pub told_stands : (by : Caller) (model : ModelNo) (info : ModelInfo) (asked told : SoughtObjects) → asked.sought.by ≡ by → asked.sought.model ≡ model → IsToldObjects asked told
    → StandsForObjects by model info told (objects_view info asked)
told_stands by model info asked told by_is model_is are =
    let own = told_sought asked.sought.by asked.sought.model (sought_view asked.sought) in
    let fields : columns_at info told.fields.items ≡ told_columns asked.sought.by.policy.now asked.sought.by.groups.now asked.sought.by.user asked.sought.model (columns_at info asked.fields.items) = ap (columns_at info) are.fields
    ∙ columns_told asked.sought.by asked.sought.model info asked.fields.items in
    ap (λ (s : forms.Sought). objects_in s (columns_at info told.fields.items)) are.sought ∙ ap (objects_in own) fields
    ∙ ap (λ (b : Caller). told_objects b asked.sought.model (objects_view info asked)) by_is ∙ ap (λ (m : ModelNo). told_objects by m (objects_view info asked)) model_is

-- ---- rows

window-all : {X : Type 0} (P : X → Type 0) (offset limit : ℕ) (xs : List X) → All P xs → All P (window offset limit xs)
window-all P offset zero xs all = All-drop P offset xs all
window-all P offset (suc n) xs all = All-take P (suc n) (drop offset xs) (All-drop P offset xs all)

first_of_both : (a b : Bool) → (a && b) ≡ true → a ≡ true
first_of_both true b e = refl
first_of_both false b e = absurd cc

-- the rows that are answered are known to the caller
pub found-there : (models : List ModelInfo) (tables : Tables) (sought : Sought) (ids : List RecId) → AreFound models tables sought ids → HaveRows (told_to models tables sought) sought.model ids
found-there models tables sought ids found =
    let told = told_to models tables sought in
    let Known = λ (id : RecId). told.knows sought.model id ≡ true in
    let test = is_known_found told sought in
    let some = All-weaker (λ id. test id ≡ true) Known (λ id passes. first_of_both (told.knows sought.model id) (is_found told sought.by.user sought.model (sought_view sought) id) passes) (found_by models tables sought)
    (filter_passes test (ids_in tables sought.model)) in
    let moved = All-permutation Known (found_by models tables sought) found.ordered found.same some in
    subst (All Known) (sym found.cut) (window-all Known sought.offset sought.limit found.ordered moved)

-- what is told of rows over the registry that an engine has behind questions, and by what it has of who asks, of which model and of which ids
pub listed_here : (schema models : List ModelInfo) → schema ≡ models → (slice ids : List RecId) → slice ≡ ids → (tables : Tables) (asked : SoughtObjects) (by : Caller) → asked.sought.by ≡ by → (model : ModelNo)
    → asked.sought.model ≡ model → (json : Value) → HaveRows (told_to models tables asked.sought) asked.sought.model ids
    → (HaveRows (told_to schema tables asked.sought) asked.sought.model slice
    → IfSome (model_at schema asked.sought.model) (λ info. ListsRows (told_to schema tables asked.sought) asked.sought.model (columns_at info asked.fields.items) (map (λ id. id.0) slice) (view json)))
    → IfSome (model_at models model) (λ info. ListsRows (seen_by by models (told_by models tables)) model (columns_at info asked.fields.items) (map (λ id. id.0) ids) (view json))
listed_here schema models same slice ids is tables asked by by_is model model_is json there lists =
    let Lists = λ (m : List ModelInfo) (b : Caller) (n : ModelNo) (xs : List RecId). IfSome (model_at m n) (λ info. ListsRows (seen_by b m (told_by m tables)) n (columns_at info asked.fields.items) (map (λ (id : RecId). id.0) xs) (view json)) in
    let Has = λ (m : List ModelInfo) (xs : List RecId). HaveRows (told_to m tables asked.sought) asked.sought.model xs in
    let here = subst (λ (m : List ModelInfo). Has m slice → Lists m asked.sought.by asked.sought.model slice) same lists in
    let all = subst (λ (xs : List RecId). Has models xs → Lists models asked.sought.by asked.sought.model xs) is here in
    subst (λ (n : ModelNo). Lists models by n ids) model_is (subst (λ (b : Caller). Lists models b asked.sought.model ids) by_is (all there))

-- ---- the answer

-- by the tables, once the rows were found and told
pub objects_answered : (models : List ModelInfo) (call : Call) (before mid after : Standpoint) (tables : Tables) (by : Caller) (user : by.user ≡ call.caller) (own : AreGroupsOf models by.policy.now tables by.user by.groups.now)
    (asked : SoughtObjects) (ids : List RecId) (r : Result Value Refusal) → asked.sought.by ≡ by → asked.sought.model ≡ call.model → before.faults ≤ mid.faults
    → IfSome (model_at models call.model) (λ info. IsAskedBy by call.model (StandsForObjects by call.model info) (objects_of models (called_by call info)) (objects_named models (called_by call info)) (Ok asked))
    → AreFound models tables asked.sought ids
    → IfOk r (λ json. IfSome (model_at models call.model) (λ info. ListsRows (seen_by by models (told_by models tables)) call.model (columns_at info asked.fields.items) (map (λ id. id.0) ids) (view json)))
    → IfErr r (Refuses (KeeperRose mid after) (λ _. ⊥))
    → IfSome (model_at models call.model) (λ info. TellsBy (SearchReads models by.policy.now (called_by call info)) before after tables (result_view r))
objects_answered models call before mid after tables by user own asked ids (Ok json) same model low meant found told causes = both (model_at models call.model) meant told where
  both : (o : Option ModelInfo) → IfSome o (λ info. IsAskedBy by call.model (StandsForObjects by call.model info) (objects_of models (called_by call info)) (objects_named models (called_by call info)) (Ok asked))
      → IfSome o (λ info. ListsRows (seen_by by models (told_by models tables)) call.model (columns_at info asked.fields.items) (map (λ id. id.0) ids) (view json))
      → IfSome o (λ info. TellsBy (SearchReads models by.policy.now (called_by call info)) before after tables (Ok (view json)))
  both None a b = tt
  both (Some info) a b =
      let c = called_by call info in
      let stands = stands_for asked (StandsForObjects by call.model info) (objects_of models c) a.0 in
      let rows = subst (λ (cs : List Column). TellsRows (seen_by by models (told_by models tables)) call.model cs (map (λ (id : RecId). id.0) ids) b.0) (ap (λ (s : forms.SoughtObjects). s.fields) stands.2) b.1 in
      from_view models by call.caller (SearchReadsOver models by.policy.now c) tables (Ok (view json)) user own (
        asked_may by c models tables (KeeperRose before after) (StandsForObjects by call.model info) (objects_of models c) (objects_named models c) user asked a,
        stands.0,
        ids,
        b.0,
        stands.1,
        as_sought models tables by c asked.sought stands.0.sought same model (ap (λ (s : forms.SoughtObjects). s.sought) stands.2) ids found,
        rows,
        b.2,
      )
objects_answered models call before mid after tables by user own asked ids (Err why) same model low meant found told causes =
    everywhere (model_at models call.model) _ (λ info. told_later (λ cause. SearchReads models by.policy.now (called_by call info) tables (Err cause)) before mid after why low causes)
