-- A call that reads goes by its caller's view: where two views show the same, it may have the same outcomes.
use Rattle.std.proofs.Common.{◌≡◌, ◌≤◌, ◌<◌, ◌+◌, ◌++◌, ℕ, Bool, true, false, cond, List, [], ◌∷◌, map, filter, length, take, Option, Some, None, Result, Ok, Err, All, Contains, IsOkAnd, IsSomeAnd, Ordering, is_lt, inl, inr, refl, sym, ap, subst, ◌∙◌, arith}
use Rattle.std.proofs.lemmas.List.Elements.{All-append, All-cons, All-contains, All-contains_itself, All-filter, All-head, All-nil, All-tail, All-take, All-weaker, filter_passes}
use Rattle.std.proofs.lemmas.List.Sorted.{All-permutation}
use Rattle.std.specs.List.{cons_option, filter_map}
use Rattle.std.specs.Option.{option_map_or}
use Rattle.std.specs.Ordering.{ordering_then}
use Rattle.std.specs.Prelude.{◌&&◌, not, find, is_some, option_and_then, unwrap_or, slice_index_or, codes, ⊤}
use Rattle.std.specs.Result.{result_ok}
use Rattle.ob_access.specs.Policies.{PolicyData}
use Rattle.ob_access.specs.Views.{sees}
use Rattle.ob_base.specs.Chain.{◌>>=◌}
use Rattle.ob_base.specs.declared.id.FieldNo.{FieldNo}
use Rattle.ob_base.specs.declared.id.ModelNo.{ModelNo}
use Rattle.ob_base.specs.declared.id.RecId.{RecId}
use Rattle.ob_base.specs.declared.place.PathStep.{PathStep}
use Rattle.ob_base.specs.declared.refusal.Refusal.{Refusal}
use Rattle.ob_base.specs.declared.refusal.Refusal.TheVariants as refusal
use Rattle.ob_base.specs.declared.value.Value.{Value}
use Rattle.ob_call.specs.Arguments.{Given, arguments_of}
use Rattle.ob_call.specs.Called.{Called}
use Rattle.ob_call.specs.Columns.{asked_columns}
use Rattle.ob_call.specs.Context.{active_test}
use Rattle.ob_codec.specs.CommandForms.{number_json}
use Rattle.ob_codec.specs.JsonForm.{IsJsonOf}
use Rattle.ob_domain.specs.Holding.{holds}
use Rattle.ob_domain.specs.Naming.{AgreeOn, asks_field, held_in, named_fields, paths_asked}
use Rattle.ob_domain.specs.Reading.{domain_from}
use Rattle.ob_domain.specs.Trees.{Tree, constant}
use Rattle.ob_domain.specs.declared.fault.DomainFault.{DomainFault}
use Rattle.ob_expr.specs.Computing.{is_true}
use Rattle.ob_expr.specs.Meaning.{row_at}
use Rattle.ob_query.specs.Denials.{IsRefused, MayAsk}
use Rattle.ob_query.specs.Isolation.{IsActive, IsViewed, ShowTheSame}
use Rattle.ob_query.specs.NamedFields.{Naming, count_named, count_names, domain_names, is_positioned, named_by, named_where, names_name, objects_named, objects_names, order_names, read_named, read_names, search_named, search_names}
use Rattle.ob_query.specs.Read.{IsLeastFailing, ReadRefuses, ReadsOver, TellsFields, TellsRows, told_columns}
use Rattle.ob_query.specs.ReadArguments.{asked_of}
use Rattle.ob_query.specs.Search.{AreSought, SearchCountsOver, SearchReadsOver, SearchesOver, found_in, held_of, is_found, told_order}
use Rattle.ob_query.specs.SearchForms.{Sought, SoughtObjects, active_asked, active_field, count_expects, counted_by, objects_by, search_expects, search_read_expects, sought_by, sought_in, tree_given}
use Rattle.ob_query.specs.SearchOrder.{AreOrdered, by_direction, limited, row_order}
use Rattle.ob_query.specs.Views.{View, first_denied, may_read_field, view_of}
use Rattle.ob_schema.specs.Facts.{Told, told_by}
use Rattle.ob_schema.specs.Fields.{Column}
use Rattle.ob_schema.specs.Models.{model_at}
use Rattle.ob_schema.specs.Paths.{step_at}
use Rattle.ob_schema.specs.Tables.{Tables, ids_in}
use Rattle.ob_schema.specs.declared.info.ModelInfo.{ModelInfo}
use Rattle.ob_schema.specs.declared.info.OrderTerm.{OrderTerm}
use Rattle.ob_schema.specs.declared.info.Step.{Step}
use Rattle.serde_json.specs.Data.{Data, Members, put}

-- ---- lists

-- what holds of all of two lists behind one another holds of all of each
pub parts : {X : Type 0} (P : X → Type 0) (xs ys : List X) → All P (xs ++ ys) → All P xs × All P ys
parts P [] ys h = (All-nil P, h)
parts P (x ∷ xs) ys h =
    let rest = parts P xs ys (All-tail P x (xs ++ ys) h) in
    (All-cons P x xs (All-head P x (xs ++ ys) h) rest.0, rest.1)

-- two tests that agree at each element of a list keep the same of it
pub filter_alike : {X : Type 0} (p q : X → Bool) (xs : List X) → All (λ x. p x ≡ q x) xs → filter p xs ≡ filter q xs
filter_alike p q [] h = refl
filter_alike p q (x ∷ xs) h = rw (All-head (λ y. p y ≡ q y) x xs h, filter_alike p q xs (All-tail (λ y. p y ≡ q y) x xs h)) refl

-- two maps that agree at each element of a list give the same of it
pub map_alike : {X Y : Type 0} (f g : X → Y) (xs : List X) → All (λ x. f x ≡ g x) xs → map f xs ≡ map g xs
map_alike f g [] h = refl
map_alike f g (x ∷ xs) h = rw (All-head (λ y. f y ≡ g y) x xs h, map_alike f g xs (All-tail (λ y. f y ≡ g y) x xs h)) refl

-- what holds of all that a map gives
pub before_map : {X Y : Type 0} (P : Y → Type 0) (f : X → Y) (xs : List X) → All P (map f xs) → All (λ x. P (f x)) xs
before_map P f [] h = All-nil (λ x. P (f x))
before_map P f (x ∷ xs) h = All-cons (λ y. P (f y)) x xs (All-head P (f x) (map f xs) h) (before_map P f xs (All-tail P (f x) (map f xs) h))

-- where none fails a test all pass it
all_pass : {X : Type 0} (p : X → Bool) (xs : List X) → find (λ x. not (p x)) xs ≡ None → All (λ x. p x ≡ true) xs
all_pass p [] none = All-nil (λ x. p x ≡ true)
all_pass {X} p (x ∷ xs) none = first (p x) refl none (all_pass p xs) where
  first : (b : Bool) → p x ≡ b → cond (not b) (Some x) (find (λ y. not (p y)) xs) ≡ None → (find (λ y. not (p y)) xs ≡ None → All (λ y. p y ≡ true) xs) → All (λ y. p y ≡ true) (x ∷ xs)
  first true is left rest = All-cons (λ y. p y ≡ true) x xs is (rest left)
  first false is left rest = absurd cc

-- what holds of all that arguments name holds of what each of them names
abbrev EachNames : (Step → Type 0) → List Naming → Type 0
EachNames P [] = ⊤
EachNames P (n ∷ ns) = All P (option_map_or (λ g. n.names g.json) n.given []) × EachNames P ns

each_named : (P : Step → Type 0) (test : Given → Bool) (ns : List Naming) → All P (named_where test ns) → All P (named_where (λ g. not (test g)) ns) → EachNames P ns
each_named P test [] passing failing = tt
each_named P test (n ∷ ns) passing failing =
    let first = parts P (option_map_or (λ g. cond (test g) (n.names g.json) []) n.given []) (named_where test ns) passing in
    let second = parts P (option_map_or (λ g. cond (not (test g)) (n.names g.json) []) n.given []) (named_where (λ g. not (test g)) ns) failing in
    (of n.given first.0 second.0, each_named P test ns first.1 second.1)
  where
    of : (given : Option Given) → All P (option_map_or (λ g. cond (test g) (n.names g.json) []) given []) → All P (option_map_or (λ g. cond (not (test g)) (n.names g.json) []) given [])
        → All P (option_map_or (λ g. n.names g.json) given [])
    of None a b = All-nil P
    of (Some g) a b = which (test g) a b where
      which : (x : Bool) → All P (cond x (n.names g.json) []) → All P (cond (not x) (n.names g.json) []) → All P (n.names g.json)
      which true a b = a
      which false a b = b

pub each_of_named : (P : Step → Type 0) (ns : List Naming) → All P (named_by ns) → EachNames P ns
each_of_named P ns h =
    let both = parts P (named_where (λ g. is_positioned g.place) ns) (named_where (λ g. not (is_positioned g.place)) ns) h in
    each_named P (λ g. is_positioned g.place) ns both.0 both.1

-- ---- what a call asks for, and the fields that it names, come of the same arguments

pub from_given : {A : Type 0} (r : Result (List (Option Given)) (List PathStep)) (meant : List (Option Given) → A) (names : List (Option Given) → List Step) (a : A) (P : List Step → Type 0)
    → (r >>= λ given. Ok (meant given)) ≡ Ok a → IsOkAnd (r >>= λ given. Ok (names given)) P → (given : List (Option Given)) × (meant given ≡ a) × P (names given)
from_given (Ok given) meant names a P is h = (given, cc, h)
from_given (Err place) meant names a P is h = absurd h

-- ---- over two views that show the same

module _ (models : List ModelInfo) (policy : PolicyData) (own : List RecId) (user : RecId) (one other : Tables)
    (alike : ShowTheSame models policy (view_of models policy own user one) (view_of models policy own user other))
    (by_fields : (model : ModelNo) (tree : Tree) (a b : Told) → AgreeOn (named_fields model tree ++ paths_asked tree) a b → (u id : RecId) → a.knows model id ≡ true
    → holds a u tree (row_at model id) ≡ holds b u tree (row_at model id))
    (c : Called) (info_is : model_at models c.model ≡ Some c.info) where
  abbrev here : View
  here = view_of models policy own user one

  abbrev there : View
  there = view_of models policy own user other

  abbrev May : Step → Type 0
  May field = may_read_field policy own user field ≡ true

  abbrev Viewed : Step → Type 0
  Viewed = IsViewed models policy here

  abbrev Known : RecId → Type 0
  Known id = here.told.knows c.model id ≡ true

  -- what a field that the caller may read holds in a row that he sees
  pub held_alike : (id : RecId) → Known id → (field : FieldNo) → May (step_at c.model field) → held_of here.told c.model field id ≡ held_of there.told c.model field id
  held_alike id known field may = alike.values (step_at c.model field) id (inl may) known

  rows_known : All Known (here.rows c.model)
  rows_known = filter_passes (λ id. sees policy (told_by models one) own user c.model id) (ids_in one c.model)

  -- ---- refusals

  pub may_alike : (named : Result (List Step) (List PathStep)) → MayAsk policy here c named → MayAsk policy there c named
  may_alike named may = record { model = may.model; fields = may.fields }

  pub refused_alike : {A : Type 0} (asked : Result A (List PathStep)) (named : Result (List Step) (List PathStep)) (why : Refusal) → IsRefused policy here c asked named why → IsRefused policy there c asked named why
  refused_alike asked named (refusal.Request place) h = h
  refused_alike asked named (refusal.Right model operation) h = h
  refused_alike asked named (refusal.FieldRight model field) h = h
  refused_alike asked named (refusal.Missing model id) h = h
  refused_alike asked named (refusal.Rule model operation id name) h = h
  refused_alike asked named (refusal.Constraint broken) h = h
  refused_alike asked named refusal.Keeper h = h
  refused_alike asked named refusal.NoMemory h = h

  -- the fields that a call names may all be read
  pub all_may : (fields : List Step) → first_denied policy own user fields ≡ None → All May fields
  all_may fields none = all_pass (may_read_field policy own user) fields none

  -- ---- which rows are found

  active_is : (tree : Tree) (n : FieldNo) → active_asked c tree ≡ Some n → IsActive models (step_at c.model n)
  active_is tree n asked = subst (λ (found : Option ModelInfo). IsSomeAnd found (λ info. active_field info ≡ Some n)) (sym info_is) (left (active_field c.info) asked) where
    left : (field : Option FieldNo) → option_and_then (λ number. cond (active_test c.kw && not (asks_field number tree)) (Some number) None) field ≡ Some n → field ≡ Some n
    left None is = absurd cc
    left (Some m) is = kept (active_test c.kw && not (asks_field m tree)) is where
      kept : (b : Bool) → cond b (Some m) None ≡ Some n → Some m ≡ Some n
      kept true e = e
      kept false e = absurd cc

  shown_alike : (active : Option FieldNo) → ((n : FieldNo) → active ≡ Some n → IsActive models (step_at c.model n)) → (id : RecId) → Known id
      → option_map_or (λ field. is_true (held_of here.told c.model field id)) active true ≡ option_map_or (λ field. is_true (held_of there.told c.model field id)) active true
  shown_alike None is id known = refl
  shown_alike (Some n) is id known = ap is_true (alike.values (step_at c.model n) id (inr (inl (is n refl))) known)

  -- a domain that may be asked asks fields that a view has
  tree_viewed : (domain : Option Given) → All May (option_map_or (λ g. domain_names models c g.json) domain [])
      → All Viewed (named_fields c.model (tree_given models c.model domain) ++ paths_asked (tree_given models c.model domain))
  tree_viewed None may = All-nil Viewed
  tree_viewed (Some g) may = of (domain_from models c.model g.json) refl may where
    of : (r : Result Tree DomainFault) → domain_from models c.model g.json ≡ r → All May (named_fields c.model (unwrap_or (result_ok r) (constant true)))
        → All Viewed (named_fields c.model (unwrap_or (result_ok r) (constant true)) ++ paths_asked (unwrap_or (result_ok r) (constant true)))
    of (Err why) is h = All-nil Viewed
    of (Ok tree) is h =
        All-append Viewed (named_fields c.model tree) (paths_asked tree) (All-weaker May Viewed (λ field m. inl m) (named_fields c.model tree) h)
        (All-weaker (Contains (paths_asked tree)) Viewed (λ field has. inr (inr (c.model, g.json, tree, is, has))) (paths_asked tree) (All-contains_itself (paths_asked tree)))

  holds_alike : (tree : Tree) → All Viewed (named_fields c.model tree ++ paths_asked tree) → (id : RecId) → Known id
      → holds here.told user tree (row_at c.model id) ≡ holds there.told user tree (row_at c.model id)
  holds_alike tree viewed id known = by_fields c.model tree here.told there.told (record {
    rows = alike.seen;
    cells = λ field at has seen. alike.values field at (All-contains Viewed (named_fields c.model tree ++ paths_asked tree) field viewed has) seen;
  }) user id known

  found_alike : (sought : Sought) → ((n : FieldNo) → sought.active ≡ Some n → IsActive models (step_at c.model n)) → All Viewed (named_fields c.model sought.tree ++ paths_asked sought.tree)
      → found_in here c sought ≡ found_in there c sought
  found_alike sought active viewed =
      let found : RecId → Bool = is_found here.told user c.model sought in
      let met : RecId → Bool = is_found there.told user c.model sought in
      filter_alike found met (here.rows c.model)
      (All-weaker Known (λ id. found id ≡ met id)
      (λ id known.
      ap (λ (b : Bool). b && holds here.told user sought.tree (row_at c.model id)) (shown_alike sought.active active id known)
      ∙ ap (λ (b : Bool). option_map_or (λ field. is_true (held_of there.told c.model field id)) sought.active true && b) (holds_alike sought.tree viewed id known))
      (here.rows c.model) rows_known)
      ∙ ap (filter met) (alike.rows c.model)

  pub found_known : (sought : Sought) → All Known (found_in here c sought)
  found_known sought = All-filter (is_found here.told user c.model sought) Known (here.rows c.model) rows_known

  -- what arguments ask for is found alike, where the domain may be asked
  pub given_alike : (domain offset limit order : Option Given) → All May (option_map_or (λ g. domain_names models c g.json) domain [])
      → found_in here c (sought_in models c domain offset limit order) ≡ found_in there c (sought_in models c domain offset limit order)
  given_alike domain offset limit order may =
      found_alike (sought_in models c domain offset limit order) (active_is (tree_given models c.model domain)) (tree_viewed domain may)

  -- ---- in which order

  row_alike : (terms : List OrderTerm) → All (λ term. May (step_at c.model term.field)) terms → (a b : RecId) → Known a → Known b
      → row_order (held_of here.told c.model) terms a b ≡ row_order (held_of there.told c.model) terms a b
  row_alike [] may a b seen_a seen_b = refl
  row_alike (term ∷ terms) may a b seen_a seen_b =
      let first = All-head (λ t. May (step_at c.model t.field)) term terms may in
      let more = row_alike terms (All-tail (λ t. May (step_at c.model t.field)) term terms may) a b seen_a seen_b in
      let here_a = held_of here.told c.model term.field a in
      let there_b = held_of there.told c.model term.field b in
      ap (λ (o : Ordering). ordering_then (by_direction term.descending here_a (held_of here.told c.model term.field b)) o) more
      ∙ ap (λ (v : Value). ordering_then (by_direction term.descending here_a v) (row_order (held_of there.told c.model) terms a b)) (held_alike b seen_b term.field first)
      ∙ ap (λ (v : Value). ordering_then (by_direction term.descending v there_b) (row_order (held_of there.told c.model) terms a b)) (held_alike a seen_a term.field first)

  ordered_alike : (terms : List OrderTerm) (offset limit : ℕ) (found ids : List RecId) → All Known found
      → AreOrdered (held_of here.told c.model) (told_order policy own user c.model terms) offset limit found ids
      → AreOrdered (held_of there.told c.model) (told_order policy own user c.model terms) offset limit found ids
  ordered_alike terms offset limit found ids seen are =
      let known = All-permutation Known found are.ordered are.same seen in
      let told = told_order policy own user c.model terms in
      let may = filter_passes (λ term. may_read_field policy own user (step_at c.model term.field)) terms in
      record {
        ordered = are.ordered;
        same = are.same;
        rising = λ k d low lt.
            let a = slice_index_or are.ordered (k + 1) d in
            let b = slice_index_or are.ordered k d in
            ap is_lt (sym (row_alike told may a b (known (k + 1) d lt) (known k d (omega arith)))) ∙ are.rising k d low lt;
        cut = are.cut;
      }

  -- the rows that are sought
  sought_alike : (domain offset limit order : Option Given) (ids : List RecId) → All May (option_map_or (λ g. domain_names models c g.json) domain [])
      → AreSought policy here c (sought_in models c domain offset limit order) ids → AreSought policy there c (sought_in models c domain offset limit order) ids
  sought_alike domain offset limit order ids may are =
      let sought = sought_in models c domain offset limit order in
      subst (λ (found : List RecId). AreOrdered (held_of there.told c.model) (told_order policy own user c.model sought.order) sought.offset sought.limit found ids) (given_alike domain offset limit order may)
      (ordered_alike sought.order sought.offset sought.limit (found_in here c sought) ids (found_known sought) are)

  -- ---- what rows are told to hold

  fields_alike : (columns : List Column) → All (λ column. May (step_at c.model (record { 0 = column.0 }))) columns → (id : RecId) → Known id → (before : Members) (d : Data)
      → TellsFields here.told c.model id columns before d → TellsFields there.told c.model id columns before d
  fields_alike [] may id known before d told = told
  fields_alike (column ∷ columns) may id known before d told =
      let first = All-head (λ x. May (step_at c.model (record { 0 = x.0 }))) column columns may in
      let more = All-tail (λ x. May (step_at c.model (record { 0 = x.0 }))) column columns may in (
        told.0,
        subst (λ (v : Value). IsJsonOf v told.0) (held_alike id known (record { 0 = column.0 }) first) told.1,
        fields_alike columns more id known (put column.1.name told.0 before) d told.2,
      )

  rows_alike : (columns : List Column) → All (λ column. May (step_at c.model (record { 0 = column.0 }))) columns → (ids : List ℕ) (ds : List Data)
      → TellsRows here.told c.model columns ids ds → TellsRows there.told c.model columns ids ds
  rows_alike columns may [] [] told = told
  rows_alike columns may [] (d ∷ ds) told = told
  rows_alike columns may (id ∷ ids) [] told = told
  rows_alike columns may (id ∷ ids) (d ∷ ds) told = (
    sym (alike.seen c.model (record { 0 = id })) ∙ told.0,
    fields_alike columns may (record { 0 = id }) told.0 _ d told.1,
    rows_alike columns may ids ds told.2,
  )

  told_alike : (columns : List Column) (ids : List ℕ) (ds : List Data) → TellsRows here.told c.model (told_columns policy own user c.model columns) ids ds
      → TellsRows there.told c.model (told_columns policy own user c.model columns) ids ds
  told_alike columns ids ds = rows_alike (told_columns policy own user c.model columns) (filter_passes (λ column. may_read_field policy own user (step_at c.model (record { 0 = column.0 }))) columns) ids ds

  -- ---- the calls

  least_alike : (test same : RecId → Bool) → ((id : RecId) → test id ≡ same id) → (ids : List ℕ) (id : ℕ) → IsLeastFailing test ids id → IsLeastFailing same ids id
  least_alike test same are ids id least = record {
    asked = least.asked;
    fails = sym (are (record { 0 = id })) ∙ least.fails;
    least = All-weaker (λ other. test (record { 0 = other }) ≡ false → id ≤ other) (λ other. same (record { 0 = other }) ≡ false → id ≤ other) (λ other then fails. then (are (record { 0 = other }) ∙ fails)) ids least.least;
  }

  read_refused : (why : Refusal) → ReadRefuses policy here c why → ReadRefuses policy there c why
  read_refused (refusal.Missing model id) h =
      let least = least_alike (here.exists c.model) (there.exists c.model) (alike.exist c.model) h.1.ids id.0 h.3.1 in
      (may_alike (read_named c) h.0, h.1, h.2, (h.3.0, least))
  read_refused (refusal.Rule model operation id name) h =
      let exist = All-weaker (λ at. here.exists c.model (record { 0 = at }) ≡ true) (λ at. there.exists c.model (record { 0 = at }) ≡ true) (λ at is. sym (alike.exist c.model (record { 0 = at })) ∙ is) h.1.ids h.3.3 in
      let least = least_alike (here.told.knows c.model) (there.told.knows c.model) (alike.seen c.model) h.1.ids id.0 h.3.4 in
      (may_alike (read_named c) h.0, h.1, h.2, (h.3.0, h.3.1, h.3.2, exist, least))
  read_refused (refusal.Request place) h = refused_alike (asked_of c) (read_named c) (refusal.Request place) h
  read_refused (refusal.Right model operation) h = refused_alike (asked_of c) (read_named c) (refusal.Right model operation) h
  read_refused (refusal.FieldRight model field) h = refused_alike (asked_of c) (read_named c) (refusal.FieldRight model field) h
  read_refused (refusal.Constraint broken) h = refused_alike (asked_of c) (read_named c) (refusal.Constraint broken) h
  read_refused refusal.Keeper h = refused_alike (asked_of c) (read_named c) refusal.Keeper h
  read_refused refusal.NoMemory h = refused_alike (asked_of c) (read_named c) refusal.NoMemory h

  pub reads_alike : (outcome : Result Data Refusal) → ReadsOver policy c here outcome → ReadsOver policy c there outcome
  reads_alike (Ok json) h = (may_alike (read_named c) h.0, h.1, h.2, h.3, told_alike h.1.fields h.1.ids h.2 h.4, h.5)
  reads_alike (Err why) h = read_refused why h

  -- a domain, with the fields that it names
  abbrev by_domain : Option Given → Naming
  by_domain domain = record { given = domain; names = domain_names models c }

  -- an order, and a list of names
  abbrev by_order : Option Given → Naming
  by_order order = record { given = order; names = order_names c }

  abbrev by_names : Option Given → Naming
  by_names fields = record { given = fields; names = names_name c }

  -- what a search asks for, by its arguments
  search_alike : (given : List (Option Given)) (ids : List RecId) → All May (search_names models c given) → AreSought policy here c (sought_by models c given) ids → AreSought policy there c (sought_by models c given) ids
  search_alike [] ids may are = sought_alike None None None None ids (All-nil May) are
  search_alike (a ∷ []) ids may are = sought_alike None None None None ids (All-nil May) are
  search_alike (a ∷ b ∷ []) ids may are = sought_alike None None None None ids (All-nil May) are
  search_alike (a ∷ b ∷ d ∷ []) ids may are = sought_alike None None None None ids (All-nil May) are
  search_alike (domain ∷ offset ∷ limit ∷ order ∷ more) ids may are = sought_alike domain offset limit order ids (each_of_named May (by_domain domain ∷ by_order order ∷ []) may).0 are

  pub searches_alike : (outcome : Result Data Refusal) → SearchesOver models policy c here outcome → SearchesOver models policy c there outcome
  searches_alike (Ok json) h =
      let given = from_given (arguments_of (search_expects models c.model c.info.fields) c.args c.kw) (sought_by models c) (search_names models c) h.1 (λ fields. first_denied policy own user fields ≡ None) h.3 h.0.fields in
      let are = subst (λ (sought : Sought). AreSought policy here c sought h.2) (sym given.1) h.4 in
      (may_alike (search_named models c) h.0, h.1, h.2, h.3, subst (λ (sought : Sought). AreSought policy there c sought h.2) given.1 (search_alike given.0 h.2 (all_may (search_names models c given.0) given.2) are), h.5)
  searches_alike (Err why) h = refused_alike _ (search_named models c) why h

  -- what a count asks for
  count_alike : (given : List (Option Given)) → All May (count_names models c given) → found_in here c (counted_by models c given) ≡ found_in there c (counted_by models c given)
  count_alike [] may = given_alike None None None None (All-nil May)
  count_alike (domain ∷ []) may = given_alike None None None None (All-nil May)
  count_alike (domain ∷ limit ∷ more) may = given_alike domain None limit None (each_of_named May (by_domain domain ∷ []) may).0

  pub counts_alike : (outcome : Result Data Refusal) → SearchCountsOver models policy c here outcome → SearchCountsOver models policy c there outcome
  counts_alike (Ok json) h =
      let given = from_given (arguments_of (count_expects models c.model) c.args c.kw) (counted_by models c) (count_names models c) h.1 (λ fields. first_denied policy own user fields ≡ None) h.2 h.0.fields in
      let found = subst (λ (sought : Sought). found_in here c sought ≡ found_in there c sought) given.1 (count_alike given.0 (all_may (count_names models c given.0) given.2)) in
      (may_alike (count_named models c) h.0, h.1, h.2, h.3 ∙ ap (λ (ids : List RecId). number_json (length (limited h.1.limit ids))) found)
  counts_alike (Err why) h = refused_alike _ (count_named models c) why h

  -- what a search asks for that reads
  objects_alike : (given : List (Option Given)) (ids : List RecId) → All May (objects_names models c given) → AreSought policy here c (objects_by models c given).sought ids
      → AreSought policy there c (objects_by models c given).sought ids
  objects_alike [] ids may are = sought_alike None None None None ids (All-nil May) are
  objects_alike (a ∷ []) ids may are = sought_alike None None None None ids (All-nil May) are
  objects_alike (a ∷ b ∷ []) ids may are = sought_alike None None None None ids (All-nil May) are
  objects_alike (a ∷ b ∷ d ∷ []) ids may are = sought_alike None None None None ids (All-nil May) are
  objects_alike (a ∷ b ∷ d ∷ e ∷ []) ids may are = sought_alike None None None None ids (All-nil May) are
  objects_alike (domain ∷ fields ∷ offset ∷ limit ∷ order ∷ more) ids may are =
      sought_alike domain offset limit order ids (each_of_named May (by_domain domain ∷ by_names fields ∷ by_order order ∷ []) may).0 are

  pub search_reads_alike : (outcome : Result Data Refusal) → SearchReadsOver models policy c here outcome → SearchReadsOver models policy c there outcome
  search_reads_alike (Ok json) h =
      let given = from_given (arguments_of (search_read_expects models c.model c.info.fields) c.args c.kw) (objects_by models c) (objects_names models c) h.1 (λ fields. first_denied policy own user fields ≡ None) h.4 h.0.fields in
      let are = subst (λ (asked : SoughtObjects). AreSought policy here c asked.sought h.2) (sym given.1) h.5 in (
        may_alike (objects_named models c) h.0,
        h.1,
        h.2,
        h.3,
        h.4,
        subst (λ (asked : SoughtObjects). AreSought policy there c asked.sought h.2) given.1 (objects_alike given.0 h.2 (all_may (objects_names models c given.0) given.2) are),
        told_alike h.1.fields (map (λ id. id.0) h.2) h.3 h.6,
        h.7,
      )
  search_reads_alike (Err why) h = refused_alike _ (objects_named models c) why h
