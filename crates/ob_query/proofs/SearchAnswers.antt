-- What searches answer, by their arguments and the rows that were found.
use Rattle.std.proofs.Common.{◌≡◌, ℕ, ◌≤◌, List, [], ◌∷◌, get_or, length, map, Option, Some, None, option_map, Result, Ok, Err, refl, sym, ap, subst, ◌∙◌}
use Rattle.std.specs.Prelude.{IfErr, IfOk, IfSome, IsOkAnd, IsSome}
use Rattle.std.specs.Option.{option_map_or}
use Rattle.std.proofs.lemmas.Option.{IfSome_then}
use Rattle.ob_access.specs.Policies.{PolicyData}
use Rattle.ob_base.specs.Chain.{◌>>=◌}
use Rattle.ob_base.specs.declared.id.ModelNo.{ModelNo}
use Rattle.ob_base.specs.declared.id.RecId.{RecId}
use Rattle.ob_base.specs.declared.place.PathStep.{PathStep}
use Rattle.ob_base.specs.declared.refusal.Refusal.{Refusal}
use Rattle.ob_base.specs.declared.refusal.Refusal.TheVariants as refusal
use Rattle.ob_cache.proofs.CallerLemmas.{Refuses-weaker}
use Rattle.ob_cache.specs.Calls.{KeeperRose, Refuses, Standpoint, TellsBy}
use Rattle.ob_call.proofs.CallerLemmas.{at_info}
use Rattle.ob_call.specs.Arguments as arguments
use Rattle.ob_call.specs.Arguments.{AreFit, Expected, arguments_of}
use Rattle.ob_call.specs.ArgumentsSteps.{all_given_of, given_of}
use Rattle.ob_call.specs.Called.{Called, called_by, result_view}
use Rattle.ob_call.specs.Forms.{fields_at}
use Rattle.ob_call.specs.declared.arguments.Given.{Given}
use Rattle.ob_call.specs.declared.call.Call.{Call}
use Rattle.ob_codec.specs.CommandForms.{id_json, list_json, number_json}
use Rattle.ob_domain.specs.Naming.{named_fields}
use Rattle.ob_query.proofs.Asked.{rose_later}
use Rattle.ob_query.proofs.GrantedFields.{everywhere}
use Rattle.ob_query.proofs.NamedBy.{domain_same, named_same, order_same, same_pair}
use Rattle.ob_query.proofs.Refused.{asked_causes, asked_may, asked_refuses}
use Rattle.ob_query.proofs.SearchFrom.{as_sought, found_counted}
use Rattle.ob_query.specs.Callers.{IsAskedBy, Named, in_turn, is_first}
use Rattle.ob_query.specs.Denials.{AskCause, IsRefused}
use Rattle.ob_query.specs.NamedFields.{Naming, count_named, count_names, domain_names, order_names, search_named, search_names}
use Rattle.ob_query.specs.Search.{SearchCounts, SearchCountsOver, Searches, SearchesOver, found_in}
use Rattle.ob_query.specs.SearchForms as forms
use Rattle.ob_query.specs.SearchForms.{count_expects, counted_by, counted_of, order_fault, search_expects, sought_by, sought_in, sought_of, tree_given}
use Rattle.ob_query.specs.SearchOrder.{limited}
use Rattle.ob_query.specs.SearchParts.{AreFound, found_by, sought_view, told_sought}
use Rattle.ob_access.specs.Users.{AreGroupsOf}
use Rattle.ob_query.specs.Views.{FromView, View, view_of}
use Rattle.ob_query.specs.declared.caller.Caller.{Caller}
use Rattle.ob_query.specs.declared.searching.sought.Sought.{Sought}
use Rattle.ob_schema.specs.Models.{model_at}
use Rattle.ob_schema.specs.Paths.{step_at}
use Rattle.ob_schema.specs.Tables.{Tables}
use Rattle.ob_schema.specs.declared.info.FieldInfo.{FieldInfo}
use Rattle.ob_schema.specs.declared.info.ModelInfo.{ModelInfo}
use Rattle.ob_schema.specs.declared.info.Step.{Step}
use Rattle.serde_json.specs.Data.{Data}
use Rattle.serde_json.specs.View.{view}
use Rattle.serde_json.specs.declared.value.Value.{Value}

-- ---- refusals

-- a refusal between two moments that has no cause but the keeper's is one from an earlier on
pub told_later : (P : Refusal → Type 0) (before mid after : Standpoint) (why : Refusal) → before.faults ≤ mid.faults → Refuses (KeeperRose mid after) (λ _. ⊥) why → Refuses (KeeperRose before after) P why
told_later P before mid after why low h =
    Refuses-weaker (KeeperRose mid after) (KeeperRose before after) (λ _. ⊥) P why (rose_later before.faults mid.faults after.faults low) (λ w never. absurd never) h

pub told_causes_later : {T : Type 0} (P : Refusal → Type 0) (before mid after : Standpoint) (r : Result T Refusal) → before.faults ≤ mid.faults → IfErr r (Refuses (KeeperRose mid after) (λ _. ⊥))
    → IfErr r (Refuses (KeeperRose before after) P)
told_causes_later P before mid after (Ok x) low h = tt
told_causes_later P before mid after (Err why) low h = told_later P before mid after why low h

-- and one whatever the model is
pub fails_in : {M : Type 0} (rose : Type 0) (found : Option M) (P : M → Refusal → Type 0) (why : Refusal) → Refuses rose (λ _. ⊥) why → IfSome found (λ m. Refuses rose (P m) why)
fails_in rose found P why h = everywhere found _ (λ m. Refuses-weaker rose rose (λ _. ⊥) (P m) why (λ r. r) (λ w never. absurd never) h)

pub fails_cause : (rose : Type 0) (P : Refusal → Type 0) (why : Refusal) → Refuses rose (λ _. ⊥) why → Refuses rose P why
fails_cause rose P why h = Refuses-weaker rose rose (λ _. ⊥) P why (λ r. r) (λ w never. absurd never) h

-- want of memory is told whatever the model is
pub wanting_tells : {M : Type 0} (rose : Type 0) (found : Option M) (P : M → Refusal → Type 0) (why : Refusal) → why ≡ refusal.NoMemory → IfSome found (λ m. Refuses rose (P m) why)
wanting_tells rose found P why is = everywhere found _ (λ m. subst (Refuses rose (P m)) (sym is) tt)

-- ---- from a caller's view

-- an outcome that his view gives is one that a user's gives whom he is
pub from_view : (models : List ModelInfo) (by : Caller) (user : RecId) (Gives : View → Result Data Refusal → Type 0) (tables : Tables) (outcome : Result Data Refusal) → by.user ≡ user
    → AreGroupsOf models by.policy.now tables by.user by.groups.now → Gives (view_of models by.policy.now by.groups.now by.user tables) outcome → FromView models by.policy.now user Gives tables outcome
from_view models by user Gives tables outcome is own gives = subst (λ (u : RecId). FromView models by.policy.now u Gives tables outcome) is (by.groups.now, own, gives)

module _ {A B : Type 0} (models : List ModelInfo) (call : Call) (by : Caller) (user : by.user ≡ call.caller) (rose : Type 0) (Stands : ModelInfo → A → B → Type 0) (asked : ModelInfo → Result B (List PathStep))
    (named : ModelInfo → Result (List Step) (List PathStep)) (why : Refusal) where
  -- what he may not ask is refused by his view
  pub denied_view : (tables : Tables) (Over : ModelInfo → View → Result Data Refusal → Type 0) → AreGroupsOf models by.policy.now tables by.user by.groups.now
      → ((info : ModelInfo) (view : View) (w : Refusal) → IsRefused by.policy.now view (called_by call info) (asked info) (named info) w → Over info view (Err w))
      → IfSome (model_at models call.model) (λ info. IsAskedBy by call.model (Stands info) (asked info) (named info) (Err why))
      → IfSome (model_at models call.model) (λ info. Refuses rose (λ cause. FromView models by.policy.now call.caller (Over info) tables (Err cause)) why)
  denied_view tables Over own as_over is =
      IfSome_then (model_at models call.model) is
      (λ info h.
      let view = view_of models by.policy.now by.groups.now by.user tables in
      Refuses-weaker rose rose (IsRefused by.policy.now view (called_by call info) (asked info) (named info)) _ why (λ r. r) (λ w refused. from_view models by call.caller (Over info) tables (Err w) user own (as_over info view w refused))
      (asked_refuses by (called_by call info) models tables rose (Stands info) (asked info) (named info) user why h))

  -- and that has its cause
  pub denied_cause : IsSome (model_at models call.model) → IfSome (model_at models call.model) (λ info. IsAskedBy by call.model (Stands info) (asked info) (named info) (Err why))
      → Refuses rose (λ w. IfSome (model_at models call.model) (λ info. AskCause by.policy.now (called_by call info) (asked info) (named info) w)) why
  denied_cause there is = at (model_at models call.model) there is where
    at : (o : Option ModelInfo) → IsSome o → IfSome o (λ info. IsAskedBy by call.model (Stands info) (asked info) (named info) (Err why))
        → Refuses rose (λ w. IfSome o (λ info. AskCause by.policy.now (called_by call info) (asked info) (named info) w)) why
    at None there is = absurd cc
    at (Some info) there is = asked_causes by (called_by call info) rose (Stands info) (asked info) (named info) user why is

-- the same, of what was asked of the registry that an engine has behind questions
module _ {A B : Type 0} (schema models : List ModelInfo) (same : schema ≡ models) (call : Call) (by : Caller) (user : by.user ≡ call.caller) (rose : Type 0) (Stands : ModelInfo → A → B → Type 0)
    (asked : List ModelInfo → ModelInfo → Result B (List PathStep)) (named : List ModelInfo → ModelInfo → Result (List Step) (List PathStep)) (why : Refusal) where
  asked_here : IfSome (model_at schema call.model) (λ info. IsAskedBy by call.model (Stands info) (asked schema info) (named schema info) (Err why))
      → IfSome (model_at models call.model) (λ info. IsAskedBy by call.model (Stands info) (asked models info) (named models info) (Err why))
  asked_here is = subst (λ (m : List ModelInfo). IfSome (model_at m call.model) (λ info. IsAskedBy by call.model (Stands info) (asked m info) (named m info) (Err why))) same is

  pub denied_view_at : (tables : Tables) (Over : ModelInfo → View → Result Data Refusal → Type 0) → AreGroupsOf models by.policy.now tables by.user by.groups.now
      → ((info : ModelInfo) (view : View) (w : Refusal) → IsRefused by.policy.now view (called_by call info) (asked models info) (named models info) w → Over info view (Err w))
      → IfSome (model_at schema call.model) (λ info. IsAskedBy by call.model (Stands info) (asked schema info) (named schema info) (Err why))
      → IfSome (model_at models call.model) (λ info. Refuses rose (λ cause. FromView models by.policy.now call.caller (Over info) tables (Err cause)) why)
  denied_view_at tables Over own as_over is = denied_view models call by user rose Stands (asked models) (named models) why tables Over own as_over (asked_here is)

  pub denied_cause_at : IsSome (model_at models call.model) → IfSome (model_at schema call.model) (λ info. IsAskedBy by call.model (Stands info) (asked schema info) (named schema info) (Err why))
      → Refuses rose (λ w. IfSome (model_at models call.model) (λ info. AskCause by.policy.now (called_by call info) (asked models info) (named models info) w)) why
  denied_cause_at there is = denied_cause models call by user rose Stands (asked models) (named models) why there (asked_here is)

-- what stands for what is asked
pub stands_for : {A B : Type 0} (a : A) (Stands : A → B → Type 0) (asked : Result B (List PathStep)) → IsOkAnd asked (Stands a) → (b : B) × (asked ≡ Ok b) × Stands a b
stands_for a Stands (Ok b) h = (b, refl, h)
stands_for a Stands (Err place) h = absurd h

-- ---- answers

-- what stands for a search is in the order that its caller is told
abbrev pub StandsFor : Caller → ModelNo → Sought → forms.Sought → Type 0
StandsFor by model sought meant = sought_view sought ≡ told_sought by model meant

module _ (models : List ModelInfo) (call : Call) (before after : Standpoint) (tables : Tables) (by : Caller) (user : by.user ≡ call.caller) (own : AreGroupsOf models by.policy.now tables by.user by.groups.now) (sought : Sought)
    (same : sought.by ≡ by) (model : sought.model ≡ call.model) where
  -- the ids of the rows that were found
  pub ids_answered : (ids : List RecId) (json : Value)
      → IfSome (model_at models call.model) (λ info. IsAskedBy by call.model (StandsFor by call.model) (sought_of models (called_by call info)) (search_named models (called_by call info)) (Ok sought))
      → AreFound models tables sought ids → view json ≡ list_json (map id_json ids)
      → IfSome (model_at models call.model) (λ info. TellsBy (Searches models by.policy.now (called_by call info)) before after tables (Ok (view json)))
  ids_answered ids json asked found told =
      IfSome_then (model_at models call.model) asked
      (λ info is.
      let c = called_by call info in
      let meant = stands_for sought (StandsFor by call.model) (sought_of models c) is.0 in
      from_view models by call.caller (SearchesOver models by.policy.now c) tables (Ok (view json)) user own (
        asked_may by c models tables (KeeperRose before after) (StandsFor by call.model) (sought_of models c) (search_named models c) user sought is,
        meant.0,
        ids,
        meant.1,
        as_sought models tables by c sought meant.0 same model meant.2 ids found,
        told,
      ))

  -- and their number
  pub count_answered : (count : ℕ) (json : Data)
      → IfSome (model_at models call.model) (λ info. IsAskedBy by call.model (λ sought meant. sought_view sought ≡ meant) (counted_of models (called_by call info)) (count_named models (called_by call info)) (Ok sought))
      → count ≡ length (limited sought.limit (found_by models tables sought)) → json ≡ number_json count
      → IfSome (model_at models call.model) (λ info. TellsBy (SearchCounts models by.policy.now (called_by call info)) before after tables (Ok json))
  count_answered count json asked found told =
      IfSome_then (model_at models call.model) asked
      (λ info is.
      let c = called_by call info in
      let Stands = λ (s : Sought) (meant : forms.Sought). sought_view s ≡ meant in
      let meant = stands_for sought Stands (counted_of models c) is.0 in
      let here = view_of models by.policy.now by.groups.now by.user tables in
      let rows = found_counted models tables by c sought meant.0 same model meant.2 in
      from_view models by call.caller (SearchCountsOver models by.policy.now c) tables (Ok json) user own (
        asked_may by c models tables (KeeperRose before after) Stands (counted_of models c) (count_named models c) user sought is,
        meant.0,
        meant.1,
        told ∙ ap number_json (found ∙ ap (λ (l : List RecId). length (limited sought.limit l)) rows ∙ ap (λ (s : forms.Sought). length (limited s.limit (found_in here c meant.0))) meant.2),
      ))

-- ---- arguments

-- four arguments that fit what is expected
pub record Four (p s : Expected) (given : List (Option Given)) : Type 0 where
  pub one : Option Given
  pub two : Option Given
  pub three : Option Given
  pub four : Option Given
  pub are : given ≡ one ∷ two ∷ three ∷ four ∷ []
  pub fit : IfSome one (λ g. p.fault (view g.json.now) ≡ None)
  pub last : IfSome four (λ g. s.fault (view g.json.now) ≡ None)

pub own_fit : (p : Expected) (one : Option Given) → arguments.IsFit p (option_map given_of one) → IfSome one (λ g. p.fault (view g.json.now) ≡ None)
own_fit p None h = tt
own_fit p (Some g) h = h

pub four_given : (p q r s : Expected) (given : List (Option Given)) → AreFit (p ∷ q ∷ r ∷ s ∷ []) (all_given_of given) → Four p s given
four_given p q r s [] h = absurd h
four_given p q r s (a ∷ []) h = absurd h.1
four_given p q r s (a ∷ b ∷ []) h = absurd h.1.1
four_given p q r s (a ∷ b ∷ c ∷ []) h = absurd h.1.1.1
four_given p q r s (a ∷ b ∷ c ∷ d ∷ []) h = record { one = a; two = b; three = c; four = d; are = refl; fit = own_fit p a h.0; last = own_fit s d h.1.1.1.0 }
four_given p q r s (a ∷ b ∷ c ∷ d ∷ e ∷ given) h = absurd h.1.1.1.1

module _ (p s : Expected) (items : List (Option Given)) (four : Four p s items) where
  pub four_are : (w x y z : Option Given) → w ≡ get_or items 0 w → x ≡ get_or items 1 x → y ≡ get_or items 2 y → z ≡ get_or items 3 z → items ≡ w ∷ x ∷ y ∷ z ∷ []
  four_are w x y z a b c d =
      four.are ∙ ap (λ (o : Option Given). o ∷ four.two ∷ four.three ∷ four.four ∷ []) (sym (a ∙ ap (λ (l : List (Option Given)). get_or l 0 w) four.are))
      ∙ ap (λ (o : Option Given). w ∷ o ∷ four.three ∷ four.four ∷ []) (sym (b ∙ ap (λ (l : List (Option Given)). get_or l 1 x) four.are))
      ∙ ap (λ (o : Option Given). w ∷ x ∷ o ∷ four.four ∷ []) (sym (c ∙ ap (λ (l : List (Option Given)). get_or l 2 y) four.are))
      ∙ ap (λ (o : Option Given). w ∷ x ∷ y ∷ o ∷ []) (sym (d ∙ ap (λ (l : List (Option Given)). get_or l 3 z) four.are))

  -- the last is of its form
  pub four_last : (z : Option Given) → z ≡ get_or items 3 z → IfSome z (λ g. s.fault (view g.json.now) ≡ None)
  four_last z is = subst (λ (o : Option Given). IfSome o (λ g. s.fault (view g.json.now) ≡ None)) (sym (is ∙ ap (λ (l : List (Option Given)). get_or l 3 z) four.are)) four.last

-- two
pub two_are : (p q : Expected) (items : List (Option Given)) → AreFit (p ∷ q ∷ []) (all_given_of items) → (w x : Option Given) → w ≡ get_or items 0 w → x ≡ get_or items 1 x → items ≡ w ∷ x ∷ []
two_are p q [] h w x a b = absurd h
two_are p q (one ∷ []) h w x a b = absurd h.1
two_are p q (one ∷ two ∷ []) h w x a b = ap (λ (o : Option Given). o ∷ two ∷ []) (sym a) ∙ ap (λ (o : Option Given). w ∷ o ∷ []) (sym b)
two_are p q (one ∷ two ∷ more ∷ items) h w x a b = absurd h.1.1

-- ---- what arguments ask for, and what they name

-- a fault is one of what stands for an argument
pub order_fit : (fields : List FieldInfo) (four : Option Given) → IfSome four (λ g. order_fault fields (view g.json.now) ≡ None) → IfSome (option_map given_of four) (λ g. order_fault fields g.json ≡ None)
order_fit fields None h = tt
order_fit fields (Some g) h = h

-- the fields that a domain and an order name, as the code has them
abbrev pub search_pairs : ModelNo → Option Given → Option Given → forms.Sought → List Named
search_pairs model domain order sought =
    (is_first (option_map given_of domain), named_fields model sought.tree)
    ∷ (is_first (option_map given_of order), option_map_or (λ g. map (λ term. step_at model term.field) sought.order) (option_map given_of order) []) ∷ []

module _ (models : List ModelInfo) (c : Called) (one two three four : Option Given) (sought : forms.Sought) where
  -- those that a domain and an order name
  pub names_search : sought ≡ sought_in models c (option_map given_of one) (option_map given_of two) (option_map given_of three) (option_map given_of four)
      → IfSome four (λ g. order_fault c.info.fields (view g.json.now) ≡ None)
      → search_names models c (option_map given_of one ∷ option_map given_of two ∷ option_map given_of three ∷ option_map given_of four ∷ []) ≡ in_turn (search_pairs c.model one four sought)
  names_search is fit =
      let domain : Option arguments.Given = option_map given_of one in
      let order : Option arguments.Given = option_map given_of four in
      let first : Naming = record { given = domain; names = domain_names models c } in
      let second : Naming = record { given = order; names = order_names c } in
      sym (ap (λ (s : forms.Sought). in_turn (search_pairs c.model one four s)) is
      ∙ ap (λ (l : List Step). in_turn ((is_first domain, l) ∷ (is_first order, option_map_or (λ g. map (λ term. step_at c.model term.field) (forms.order_given c.info order)) order []) ∷ [])) (domain_same models c domain)
      ∙ ap (λ (l : List Step). in_turn ((is_first domain, option_map_or (λ g. domain_names models c g.json) domain []) ∷ (is_first order, l) ∷ [])) (order_same c order (order_fit c.info.fields four fit))
      ∙ named_same (first ∷ second ∷ []))

-- four that are given ask for what they are
pub taken_search : (models : List ModelInfo) (call : Call) (items : List (Option Given)) (one two three four : Option Given) (sought : forms.Sought) → items ≡ one ∷ two ∷ three ∷ four ∷ []
    → arguments_of (search_expects models call.model (fields_at models call.model)) (view call.args.now) (view call.kw.now) ≡ Ok (all_given_of items)
    → IfSome (model_at models call.model) (λ info. sought ≡ sought_in models (called_by call info) (option_map given_of one) (option_map given_of two) (option_map given_of three) (option_map given_of four))
    → IfSome (model_at models call.model) (λ info. sought_of models (called_by call info) ≡ Ok sought)
taken_search models call items one two three four sought are told is =
    both (model_at models call.model)
    (at_info models call.model (λ fields. arguments_of (search_expects models call.model fields) (view call.args.now) (view call.kw.now) ≡ Ok (all_given_of items)) told) is where
      both : (o : Option ModelInfo) → IfSome o (λ info. arguments_of (search_expects models call.model info.fields) (view call.args.now) (view call.kw.now) ≡ Ok (all_given_of items))
          → IfSome o (λ info. sought ≡ sought_in models (called_by call info) (option_map given_of one) (option_map given_of two) (option_map given_of three) (option_map given_of four))
          → IfSome o (λ info. sought_of models (called_by call info) ≡ Ok sought)
      both None a b = tt
      both (Some info) a b =
          ap (λ (r : Result (List (Option arguments.Given)) (List PathStep)). r >>= λ gs. Ok (sought_by models (called_by call info) gs)) (a ∙ ap (λ (l : List (Option Given)). Ok (all_given_of l)) are)
          ∙ ap Ok (sym b)

-- and name what they do
pub named_search : (models : List ModelInfo) (call : Call) (items : List (Option Given)) (one two three four : Option Given) (sought : forms.Sought) → items ≡ one ∷ two ∷ three ∷ four ∷ []
    → arguments_of (search_expects models call.model (fields_at models call.model)) (view call.args.now) (view call.kw.now) ≡ Ok (all_given_of items)
    → IfSome (model_at models call.model) (λ info. sought ≡ sought_in models (called_by call info) (option_map given_of one) (option_map given_of two) (option_map given_of three) (option_map given_of four))
    → IfSome four (λ g. order_fault (fields_at models call.model) (view g.json.now) ≡ None)
    → IfSome (model_at models call.model) (λ info. search_named models (called_by call info) ≡ Ok (in_turn (search_pairs call.model one four sought)))
named_search models call items one two three four sought are told is fit =
    all (model_at models call.model)
    (at_info models call.model (λ fields. arguments_of (search_expects models call.model fields) (view call.args.now) (view call.kw.now) ≡ Ok (all_given_of items)) told) is
    (at_info models call.model (λ fields. IfSome four (λ g. order_fault fields (view g.json.now) ≡ None)) fit) where
      all : (o : Option ModelInfo) → IfSome o (λ info. arguments_of (search_expects models call.model info.fields) (view call.args.now) (view call.kw.now) ≡ Ok (all_given_of items))
          → IfSome o (λ info. sought ≡ sought_in models (called_by call info) (option_map given_of one) (option_map given_of two) (option_map given_of three) (option_map given_of four))
          → IfSome o (λ info. IfSome four (λ g. order_fault info.fields (view g.json.now) ≡ None)) → IfSome o (λ info. search_named models (called_by call info) ≡ Ok (in_turn (search_pairs call.model one four sought)))
      all None a b f = tt
      all (Some info) a b f =
          ap (λ (r : Result (List (Option arguments.Given)) (List PathStep)). r >>= λ gs. Ok (search_names models (called_by call info) gs)) (a ∙ ap (λ (l : List (Option Given)). Ok (all_given_of l)) are)
          ∙ ap Ok (names_search models (called_by call info) one two three four sought b f)

-- two that a count is given
abbrev pub count_pairs : ModelNo → Option Given → forms.Sought → List Named
count_pairs model domain sought = (is_first (option_map given_of domain), named_fields model sought.tree) ∷ []

pub taken_count : (models : List ModelInfo) (call : Call) (items : List (Option Given)) (one two : Option Given) (sought : forms.Sought) → items ≡ one ∷ two ∷ []
    → arguments_of (count_expects models call.model) (view call.args.now) (view call.kw.now) ≡ Ok (all_given_of items)
    → IfSome (model_at models call.model) (λ info. sought ≡ sought_in models (called_by call info) (option_map given_of one) None (option_map given_of two) None)
    → IfSome (model_at models call.model) (λ info. counted_of models (called_by call info) ≡ Ok sought)
taken_count models call items one two sought are told is =
    IfSome_then (model_at models call.model) is
    (λ info b.
    ap (λ (r : Result (List (Option arguments.Given)) (List PathStep)). r >>= λ gs. Ok (counted_by models (called_by call info) gs)) (told ∙ ap (λ (l : List (Option Given)). Ok (all_given_of l)) are) ∙ ap Ok (sym b))

pub named_count : (models : List ModelInfo) (call : Call) (items : List (Option Given)) (one two : Option Given) (sought : forms.Sought) → items ≡ one ∷ two ∷ []
    → arguments_of (count_expects models call.model) (view call.args.now) (view call.kw.now) ≡ Ok (all_given_of items)
    → IfSome (model_at models call.model) (λ info. sought ≡ sought_in models (called_by call info) (option_map given_of one) None (option_map given_of two) None)
    → IfSome (model_at models call.model) (λ info. count_named models (called_by call info) ≡ Ok (in_turn (count_pairs call.model one sought)))
named_count models call items one two sought are told is =
    IfSome_then (model_at models call.model) is
    (λ info b.
    let c = called_by call info in
    let domain : Option arguments.Given = option_map given_of one in
    let first : Naming = record { given = domain; names = domain_names models c } in
    let same : in_turn (count_pairs call.model one sought) ≡ count_names models c (domain ∷ option_map given_of two ∷ []) = ap (λ (s : forms.Sought). in_turn (count_pairs call.model one s)) b
    ∙ ap (λ (l : List Step). in_turn ((is_first domain, l) ∷ [])) (domain_same models c domain) ∙ named_same (first ∷ []) in
    ap (λ (r : Result (List (Option arguments.Given)) (List PathStep)). r >>= λ gs. Ok (count_names models c gs)) (told ∙ ap (λ (l : List (Option Given)). Ok (all_given_of l)) are) ∙ ap Ok (sym same))
