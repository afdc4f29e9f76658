-- Groups of rows go by their caller's view: where two views show the same, he may be told the same groups.
use Rattle.std.proofs.Common.{◌≡◌, ℕ, Bool, true, false, cond, List, [], ◌∷◌, map, length, take, Option, Some, None, Result, Ok, Err, All, refl, sym, ap, subst, ◌∙◌}
use Rattle.std.proofs.lemmas.List.Elements.{All-cons, All-filter, All-head, All-nil, All-tail, All-take, All-weaker}
use Rattle.std.specs.List.{cons_option, filter_map}
use Rattle.std.specs.Option.{option_map_or}
use Rattle.std.specs.Prelude.{◌++◌, option_and_then}
use Rattle.ob_access.specs.Policies.{PolicyData}
use Rattle.ob_base.specs.declared.id.FieldNo.{FieldNo}
use Rattle.ob_base.specs.declared.id.ModelNo.{ModelNo}
use Rattle.ob_base.specs.declared.id.RecId.{RecId}
use Rattle.ob_base.specs.declared.refusal.Refusal.{Refusal}
use Rattle.ob_base.specs.declared.value.Value.{Value}
use Rattle.ob_call.specs.Arguments.{Given, arguments_of}
use Rattle.ob_call.specs.Called.{Called}
use Rattle.ob_codec.specs.CommandForms.{number_json}
use Rattle.ob_codec.specs.Commands.{listed}
use Rattle.ob_domain.specs.Holding.{holds}
use Rattle.ob_domain.specs.Naming.{AgreeOn, named_fields, paths_asked}
use Rattle.ob_domain.specs.Trees.{Tree}
use Rattle.ob_expr.specs.Meaning.{row_at}
use Rattle.ob_group.specs.GroupAmounts.{AreDistinct, TellsAmount}
use Rattle.ob_group.specs.GroupForms.{Aggregate, AskedGroups, Entry, Grouping, Written, aggregates_in, entry_from, entry_of, groupings_in, groups_by, groups_expects, items_in, json_of, used, written_in, written_of}
use Rattle.ob_group.specs.GroupPeriods.{group_value}
use Rattle.ob_group.specs.Groups.{AreTold, GroupsOver, TellsAmounts, TellsEachGroup, TellsGroup, group_order, keys_in, keys_of, rows_of, same_keys}
use Rattle.ob_query.specs.Isolation.{ShowTheSame}
use Rattle.ob_query.specs.NamedFields.{Naming, domain_names}
use Rattle.ob_group.specs.NamedGroups.{entries_name, entry_field, entry_fields, entry_name, groupings_name, groups_named, groups_names}
use Rattle.ob_query.specs.Search.{found_in, held_of}
use Rattle.ob_query.specs.SearchOrder.{window}
use Rattle.ob_query.specs.Views.{View, first_denied, may_read_field, view_of}
use Rattle.ob_query.proofs.CallerLemmas.{all_may, before_map, each_of_named, filter_alike, found_known, from_given, given_alike, held_alike, map_alike, may_alike, refused_alike}
use Rattle.ob_schema.specs.Facts.{Told}
use Rattle.ob_schema.specs.Models.{field_named, model_at}
use Rattle.ob_schema.specs.Paths.{step_at}
use Rattle.ob_schema.specs.Tables.{Tables}
use Rattle.ob_schema.specs.declared.info.FieldInfo.{FieldInfo}
use Rattle.ob_schema.specs.declared.info.ModelInfo.{ModelInfo}
use Rattle.ob_schema.specs.declared.info.Step.{Step}
use Rattle.serde_json.specs.Data.{Data, Items, Members, array, put}
use Rattle.serde_json.specs.Find.{as_str}

-- ---- what groupings and aggregates name

-- the aggregates of entries are of fields that the entries name
module _ (P : Step → Type 0) (model : ModelNo) (fields : List FieldInfo) where
  abbrev told_by : Data → Option Aggregate
  told_by d = option_and_then (λ e. e) (entry_from fields d)

  abbrev Fits : Aggregate → Type 0
  Fits a = P (step_at model a.field)

  abbrev steps_in : List Data → List Step
  steps_in ds = map (step_at model) (filter_map (entry_field fields) ds)

  abbrev told_in : List Data → List Aggregate
  told_in ds = filter_map told_by ds

  passed : (ds : List Data) (own : Option FieldNo) → (All P (steps_in ds) → All Fits (told_in ds)) → All P (map (step_at model) (cons_option own (filter_map (entry_field fields) ds))) → All Fits (told_in ds)
  passed ds None rest h = rest h
  passed ds (Some n) rest h = rest (All-tail P (step_at model n) (steps_in ds) h)

  by_entry : (ds : List Data) (text : List ℕ) (entry : Option Entry) → (All P (steps_in ds) → All Fits (told_in ds))
      → All P (map (step_at model) (cons_option (option_and_then (entry_name fields text) entry) (filter_map (entry_field fields) ds))) → All Fits (cons_option (option_and_then (λ e. e) entry) (told_in ds))
  by_entry ds text None rest h = rest h
  by_entry ds text (Some None) rest h = passed ds (field_named fields text) rest h
  by_entry ds text (Some (Some a)) rest h = All-cons Fits a (told_in ds) (All-head P (step_at model a.field) (steps_in ds) h) (rest (All-tail P (step_at model a.field) (steps_in ds) h))

  by_text : (ds : List Data) (text : Option (List ℕ)) → (All P (steps_in ds) → All Fits (told_in ds))
      → All P (map (step_at model) (cons_option (option_and_then (λ t. option_and_then (entry_name fields t) (entry_of fields t)) text) (filter_map (entry_field fields) ds)))
      → All Fits (cons_option (option_and_then (λ e. e) (option_and_then (entry_of fields) text)) (told_in ds))
  by_text ds None rest h = rest h
  by_text ds (Some text) rest h = by_entry ds text (entry_of fields text) rest h

  entries_fit : (ds : List Data) → All P (steps_in ds) → All Fits (told_in ds)
  entries_fit [] h = All-nil Fits
  entries_fit (d ∷ ds) h = by_text ds (as_str d) (entries_fit ds) h

-- ---- over two views that show the same

module _ (models : List ModelInfo) (policy : PolicyData) (own : List RecId) (user : RecId) (one other : Tables)
    (alike : ShowTheSame models policy (view_of models policy own user one) (view_of models policy own user other))
    (by_fields : (model : ModelNo) (tree : Tree) (a b : Told) → AgreeOn (named_fields model tree ++ paths_asked tree) a b → (u id : RecId) → a.knows model id ≡ true
    → holds a u tree (row_at model id) ≡ holds b u tree (row_at model id))
    (c : Called) (info_is : model_at models c.model ≡ Some c.info) where
  abbrev here : View
  here = view_of models policy own user one

  abbrev there : View
  there = view_of models policy own user other

  abbrev May : Step → Type 0
  May field = may_read_field policy own user field ≡ true

  abbrev Known : RecId → Type 0
  Known id = here.told.knows c.model id ≡ true

  abbrev GroupsBy : Grouping → Type 0
  GroupsBy g = May (step_at c.model g.field)

  abbrev SumsUp : Aggregate → Type 0
  SumsUp a = May (step_at c.model a.field)

  abbrev held : FieldNo → RecId → Value
  held = held_of here.told c.model

  abbrev same : FieldNo → RecId → Value
  same = held_of there.told c.model

  value_alike : (id : RecId) → Known id → (field : FieldNo) → May (step_at c.model field) → held field id ≡ same field id
  value_alike = held_alike models policy own user one other alike by_fields c info_is

  keys_alike : (groupings : List Grouping) → All GroupsBy groupings → (id : RecId) → Known id → keys_of held groupings id ≡ keys_of same groupings id
  keys_alike groupings may id known =
      map_alike (λ g. group_value g.period (held g.field id)) (λ g. group_value g.period (same g.field id)) groupings
      (All-weaker GroupsBy (λ g. group_value g.period (held g.field id) ≡ group_value g.period (same g.field id)) (λ g m. ap (group_value g.period) (value_alike id known g.field m)) groupings may)

  all_keys_alike : (groupings : List Grouping) → All GroupsBy groupings → (ids : List RecId) → All Known ids → keys_in held groupings ids ≡ keys_in same groupings ids
  all_keys_alike [] may ids known = refl
  all_keys_alike (g ∷ groupings) may ids known =
      map_alike (keys_of held (g ∷ groupings)) (keys_of same (g ∷ groupings)) ids
      (All-weaker Known (λ id. keys_of held (g ∷ groupings) id ≡ keys_of same (g ∷ groupings) id) (keys_alike (g ∷ groupings) may) ids known)

  group_rows_alike : (groupings : List Grouping) → All GroupsBy groupings → (ids : List RecId) → All Known ids → (keys : List Value) → rows_of held groupings ids keys ≡ rows_of same groupings ids keys
  group_rows_alike groupings may ids known keys =
      filter_alike (λ id. same_keys (keys_of held groupings id) keys) (λ id. same_keys (keys_of same groupings id) keys) ids
      (All-weaker Known (λ id. same_keys (keys_of held groupings id) keys ≡ same_keys (keys_of same groupings id) keys)
      (λ id k. ap (λ (of : List Value). same_keys of keys) (keys_alike groupings may id k)) ids known)

  amounts_alike : (ids : List RecId) → All Known ids → (aggregates : List Aggregate) → All SumsUp aggregates → (before after : Members) → TellsAmounts held ids aggregates before after
      → TellsAmounts same ids aggregates before after
  amounts_alike ids known [] may before after told = told
  amounts_alike ids known (a ∷ aggregates) may before after told =
      let first = All-head SumsUp a aggregates may in
      let values = map_alike (held a.field) (same a.field) ids (All-weaker Known (λ id. held a.field id ≡ same a.field id) (λ id k. value_alike id k a.field first) ids known) in (
        told.0,
        subst (λ (vs : List Value). TellsAmount a.amount vs told.0) values told.1,
        amounts_alike ids known aggregates (All-tail SumsUp a aggregates may) (put a.key told.0 before) after told.2,
      )

  module _ (asked : AskedGroups) (found : List RecId) (known : All Known found) (groups_by : All GroupsBy asked.groupings) (sums_up : All SumsUp asked.aggregates) where
    group_alike : (keys : List Value) (d : Data) → TellsGroup held asked found keys d → TellsGroup same asked found keys d
    group_alike keys d told =
        let rows = rows_of held asked.groupings found keys in
        let seen = All-filter (λ id. same_keys (keys_of held asked.groupings id) keys) Known found known in (
          told.0,
          told.1,
          told.2,
          subst (λ (ids : List RecId). TellsAmounts same ids asked.aggregates (put asked.count_key (number_json (length ids)) told.0) told.1) (group_rows_alike asked.groupings groups_by found known keys)
              (amounts_alike rows seen asked.aggregates sums_up (put asked.count_key (number_json (length rows)) told.0) told.1 told.3),
          told.4,
        )

    each_alike : (groups : List (List Value)) (ds : List Data) → TellsEachGroup held asked found groups ds → TellsEachGroup same asked found groups ds
    each_alike [] [] told = told
    each_alike [] (d ∷ ds) told = told
    each_alike (keys ∷ groups) [] told = told
    each_alike (keys ∷ groups) (d ∷ ds) told = (group_alike keys d told.0, each_alike groups ds told.1)

    told_alike : (objects : List Data) → AreTold held asked found objects → AreTold same asked found objects
    told_alike objects are = record {
      groups = are.groups;
      each_once = subst (λ (all : List (List Value)). AreDistinct (group_order asked.terms) all are.groups) (all_keys_alike asked.groupings groups_by found known) are.each_once;
      told = each_alike (window asked.offset asked.limit are.groups) objects are.told;
    }

  -- ---- what the arguments ask for

  used_may : (written : Written) → All GroupsBy written.groupings → All GroupsBy (used written)
  used_may written may = of written.lazy where
    of : (b : Bool) → All GroupsBy (cond b (take 1 written.groupings) written.groupings)
    of true = All-take GroupsBy 1 written.groupings may
    of false = may

  groupings_may : (groupby lazy : Option Given) → All May (option_map_or (λ g. groupings_name c g.json) groupby []) → All GroupsBy (used (written_in c.info.fields (json_of groupby) (json_of lazy)))
  groupings_may None lazy may = used_may (written_in c.info.fields None (json_of lazy)) (All-nil GroupsBy)
  groupings_may (Some g) lazy may =
      used_may (written_in c.info.fields (Some g.json) (json_of lazy)) (before_map May (λ (own : Grouping). step_at c.model own.field) (groupings_in c.info.fields (items_in (Some g.json))) may)

  aggregates_may : (d : Data) → All May (entries_name c d) → All SumsUp (aggregates_in c.info.fields d)
  aggregates_may (array items) may = entries_fit May c.model c.info.fields (listed items) may
  aggregates_may _ may = All-nil SumsUp

  given_may : (fields : Option Given) → All May (option_map_or (λ g. entries_name c g.json) fields []) → All SumsUp (option_map_or (λ g. aggregates_in c.info.fields g.json) fields [])
  given_may None may = All-nil SumsUp
  given_may (Some g) may = aggregates_may g.json may

  -- of these groupings and aggregates, where the domain may be asked
  asked_alike : (asked : AskedGroups) → found_in here c asked.sought ≡ found_in there c asked.sought → All GroupsBy asked.groupings → All SumsUp asked.aggregates → (objects : List Data)
      → AreTold held asked (found_in here c asked.sought) objects → AreTold same asked (found_in there c asked.sought) objects
  asked_alike asked found groups_by sums_up objects are =
      subst (λ (ids : List RecId). AreTold same asked ids objects) found
      (told_alike asked (found_in here c asked.sought) (found_known models policy own user one other alike by_fields c info_is asked.sought) groups_by sums_up objects are)

  nothing_may : found_in here c (groups_by models c []).sought ≡ found_in there c (groups_by models c []).sought
  nothing_may = given_alike models policy own user one other alike by_fields c info_is None None None None (All-nil May)

  groups_given : (given : List (Option Given)) (objects : List Data) → All May (groups_names models c given)
      → AreTold held (groups_by models c given) (found_in here c (groups_by models c given).sought) objects → AreTold same (groups_by models c given) (found_in there c (groups_by models c given).sought) objects
  groups_given [] objects may are = asked_alike (groups_by models c []) nothing_may (All-nil GroupsBy) (All-nil SumsUp) objects are
  groups_given (a ∷ []) objects may are = asked_alike (groups_by models c []) nothing_may (All-nil GroupsBy) (All-nil SumsUp) objects are
  groups_given (a ∷ b ∷ []) objects may are = asked_alike (groups_by models c []) nothing_may (All-nil GroupsBy) (All-nil SumsUp) objects are
  groups_given (a ∷ b ∷ d ∷ []) objects may are = asked_alike (groups_by models c []) nothing_may (All-nil GroupsBy) (All-nil SumsUp) objects are
  groups_given (a ∷ b ∷ d ∷ e ∷ []) objects may are = asked_alike (groups_by models c []) nothing_may (All-nil GroupsBy) (All-nil SumsUp) objects are
  groups_given (a ∷ b ∷ d ∷ e ∷ f ∷ []) objects may are = asked_alike (groups_by models c []) nothing_may (All-nil GroupsBy) (All-nil SumsUp) objects are
  groups_given (a ∷ b ∷ d ∷ e ∷ f ∷ h ∷ []) objects may are = asked_alike (groups_by models c []) nothing_may (All-nil GroupsBy) (All-nil SumsUp) objects are
  groups_given (domain ∷ fields ∷ groupby ∷ offset ∷ limit ∷ order ∷ lazy ∷ more) objects may are =
      let each = each_of_named May (record { given = domain; names = domain_names models c } ∷ record { given = fields; names = entries_name c } ∷ record { given = groupby; names = groupings_name c } ∷ []) may in
      asked_alike (groups_by models c (domain ∷ fields ∷ groupby ∷ offset ∷ limit ∷ order ∷ lazy ∷ more))
      (given_alike models policy own user one other alike by_fields c info_is domain None None None each.0) (groupings_may groupby lazy each.1.1.0) (given_may fields each.1.0) objects are

  pub groups_alike : (outcome : Result Data Refusal) → GroupsOver models policy c here outcome → GroupsOver models policy c there outcome
  groups_alike (Ok json) h =
      let given = from_given (arguments_of (groups_expects models c.model c.info.fields (written_of c.info.fields c.args c.kw)) c.args c.kw) (groups_by models c) (groups_names models c) h.1 (λ fields. first_denied policy own user fields ≡ None) h.3 h.0.fields in
      let may = all_may models policy own user one other alike by_fields c info_is (groups_names models c given.0) given.2 in
      let are = subst (λ (asked : AskedGroups). AreTold held asked (found_in here c asked.sought) h.2) (sym given.1) h.4 in (
        may_alike models policy own user one other alike by_fields c info_is (groups_named models c) h.0,
        h.1,
        h.2,
        h.3,
        subst (λ (asked : AskedGroups). AreTold same asked (found_in there c asked.sought) h.2) given.1 (groups_given given.0 h.2 may are),
        h.5,
      )
  groups_alike (Err why) h = refused_alike models policy own user one other alike by_fields c info_is _ (groups_named models c) why h
