-- What the parts of `read_group` give.
use Rattle.std.specs.Prelude.{◌≡◌, ◌++◌, ◌<◌, ℕ, List, [], ◌∷◌, map, filter, take, drop, length, if◌then◌else◌, All, Bool, true, is_some, Option, Some, None, option_map, Vec, ⊤}
use Rattle.std.specs.BTreeMap as tree
use Rattle.std.specs.BTreeMap.{BTreeMap}
use Rattle.std.specs.BTreeSet.{BTreeSet, contains_text}
use Rattle.std.specs.Borrow.{Bor}
use Rattle.std.specs.Cmp.Lexicographic.{slice_cmp}
use Rattle.std.specs.List.{slice_index_or}
use Rattle.std.specs.List.Sorted.{IsStrictlySortedBy}
use Rattle.std.specs.Option.{option_map_or}
use Rattle.std.specs.Ordering.{is_eq}
use Rattle.std.specs.String.{string_bytes}
use Rattle.std.specs.declared.alloc.Global.{Global}
use Rattle.std.specs.declared.string.String.{String}
use Rattle.std.specs.declared.cmp.Ordering.{Ordering}
use Rattle.ob_base.specs.declared.id.FieldNo.{FieldNo}
use Rattle.ob_base.specs.declared.id.ModelNo.{ModelNo}
use Rattle.ob_base.specs.declared.id.RecId.{RecId}
use Rattle.ob_base.specs.declared.place.PathStep.{PathStep}
use Rattle.ob_base.specs.declared.value.Value.{Value}
use Rattle.ob_base.specs.declared.value.Value.TheVariants as value
use Rattle.ob_call.specs.Arguments.{is_among}
use Rattle.ob_call.specs.Forms.{fields_at}
use Rattle.ob_codec.specs.CommandForms.{list_json}
use Rattle.ob_codec.specs.Held.{HasText}
use Rattle.ob_group.specs.GroupForms as forms
use Rattle.ob_group.specs.GroupForms.{aggregates_fault, count_key, group_order_fault, groupings_fault, texts_in, truth_fault, used, written_of}
use Rattle.ob_query.specs.SearchKeys.{rising}
use Rattle.ob_group.specs.GroupAmounts.{AreDistinct, TellsAmount}
use Rattle.ob_group.specs.Groups.{AreTold, group_order, keys_in, keys_of, rows_of}
use Rattle.ob_query.specs.SearchKeys.{key_order}
use Rattle.ob_query.specs.SearchParts.{IsSoughtOver, search_fault, sought_view}
use Rattle.ob_group.specs.declared.aggregates.Aggregate.{Aggregate}
use Rattle.ob_group.specs.declared.aggregates.Entry.{Entry}
use Rattle.ob_group.specs.declared.aggregates.Entry.TheVariants as entry
use Rattle.ob_group.specs.declared.asked.AskedGroups.{AskedGroups}
use Rattle.ob_group.specs.declared.forms.GroupsForm.{GroupsForm}
use Rattle.ob_group.specs.declared.forms.GroupsForm.TheVariants as form
use Rattle.ob_group.specs.declared.handed.Handed.{Handed}
use Rattle.ob_group.specs.declared.groupings.Grouping.{Grouping}
use Rattle.ob_group.specs.declared.terms.GroupTerm.{GroupTerm}
use Rattle.ob_group.specs.declared.told_groups.Group.{Group}
use Rattle.ob_group.specs.declared.written.Written.{Written}
use Rattle.ob_query.specs.declared.searching.order.Key.{Key}
use Rattle.ob_schema.specs.Models.{HasField}
use Rattle.ob_schema.specs.declared.info.ModelInfo.{ModelInfo}
use Rattle.serde_json.specs.Data.{Data, Members, put}
use Rattle.serde_json.specs.View.{view}
use Rattle.serde_json.specs.declared.value.Value.{Value as Json}

-- ---- what the code has of what is named

-- of two texts, and of a value that may be there
abbrev pub parts_view : Bor (List ℕ) × Bor (List ℕ) → List ℕ × List ℕ
parts_view parts = (parts.0.now, parts.1.now)

abbrev pub json_view : Option (Bor Json) → Option Data
json_view json = option_map (λ found. view found.now) json

-- of a grouping, of an aggregate and of a term
abbrev pub grouping_view : Grouping → forms.Grouping
grouping_view g = record { text = g.text.now; name = g.name.now; field = g.field; period = g.period }

abbrev pub text_of : Grouping → List ℕ
text_of g = g.text.now

abbrev pub aggregate_view : Aggregate → forms.Aggregate
aggregate_view a = record { key = a.key.now; field = a.field; amount = a.amount }

abbrev pub term_view : GroupTerm → forms.GroupTerm
term_view term = record { number = term.number; descending = term.descending }

abbrev pub terms_view : Vec GroupTerm Global → List forms.GroupTerm
terms_view terms = map term_view terms.items

-- of an entry
abbrev pub entry_view : Entry → forms.Entry
entry_view entry.PassedOver = None
entry_view (entry.Told a) = Some (aggregate_view a)

-- of what is written of groupings
abbrev pub written_view : Written → forms.Written
written_view written =
    record { texts = texts_in (map view written.items.now); first = option_map grouping_view written.first; groupings = map grouping_view written.groupings.items; lazy = written.lazy }

-- of those that are used
abbrev pub used_of : Written → List Grouping
used_of written = if written.lazy then take 1 written.groupings.items else written.groupings.items

-- of what is asked for, beside who asks and of which model
abbrev pub asked_view : AskedGroups → forms.AskedGroups
asked_view asked = record {
  sought = sought_view asked.sought;
  groupings = used (written_view asked.written);
  count_key = string_bytes asked.count_key;
  aggregates = map aggregate_view asked.aggregates.items;
  terms = terms_view asked.terms;
  offset = asked.offset;
  limit = asked.limit;
}

-- ---- fields that there are

abbrev pub IsEntryOver : List ModelInfo → ModelNo → Entry → Type 0
IsEntryOver models model entry.PassedOver = ⊤
IsEntryOver models model (entry.Told a) = HasField models model a.field

abbrev pub IsWrittenOver : List ModelInfo → ModelNo → Written → Type 0
IsWrittenOver models model written = All (λ g. HasField models model g.field) written.groupings.items

-- it asks of a model and of fields that there are
pub record IsAskedOver (models : List ModelInfo) (asked : AskedGroups) : Type 0 where
  pub sought : IsSoughtOver models asked.sought
  pub groupings : IsWrittenOver models asked.sought.model asked.written
  pub aggregates : All (λ a. HasField models asked.sought.model a.field) asked.aggregates.items

-- ---- forms

-- the set has these keys
abbrev pub AreTaken : List (List ℕ) → BTreeSet (String Global) → Type 0
AreTaken keys taken = (name : List ℕ) → contains_text taken name ≡ is_among name keys

-- the groupings that are written in the arguments of a call
abbrev pub handed_written : Handed → forms.Written
handed_written of = written_of (fields_at of.schema.now of.model) (view of.args.now) (view of.kw.now)

-- the place below an argument where it breaks its form
abbrev pub groups_fault : GroupsForm → Data → Option (List PathStep)
groups_fault (form.Search of) d = search_fault of d
groups_fault (form.Aggregates of) d = aggregates_fault (fields_at of.schema.now of.model) (handed_written of) d
groups_fault (form.Groupings of) d = groupings_fault (fields_at of.schema.now of.model) d
groups_fault (form.Order of) d = group_order_fault (used (handed_written of)) d
groups_fault form.Truth d = truth_fault d

-- ---- rows by their groups

-- what a group has for a term of the program
abbrev pub term_key : List Value → GroupTerm → Key
term_key values term = record { descending = term.descending; value = slice_index_or values term.number value.Nil }

-- by what a group is ordered: its keys for the terms, and then all
abbrev pub sort_keys : List forms.GroupTerm → List Value → List Key
sort_keys terms values = map (λ term. record { descending = term.descending; value = slice_index_or values term.number value.Nil }) terms ++ map rising values

-- the order of groups
abbrev pub keys_order : List Key → List Key → Ordering
keys_order = slice_cmp key_order

abbrev pub is_alike : List Key → List Key → Bool
is_alike a b = is_eq (keys_order a b)

-- rows by their groups
abbrev pub Groups : Type 0
Groups = BTreeMap (Vec Key Global) (Vec (Vec Value Global) Global)

-- the rows of a group, if there is one
abbrev pub group_at : Groups → List Key → Option (Vec (Vec Value Global) Global)
group_at groups keys = tree.get_by (λ (own : Vec Key Global). keys_order keys own.items) groups

-- what its rows hold for the aggregates
abbrev pub rows_items : List (Vec Value Global) → List (List Value)
rows_items rows = map (λ row. row.items) rows

abbrev pub rows_in : Vec (Vec Value Global) Global → List (List Value)
rows_in rows = rows_items rows.items

abbrev pub rows_at : Groups → List Key → List (List Value)
rows_at groups keys = option_map_or rows_in (group_at groups keys) []

-- no group is empty, and each key has a text where it is a day or a moment
pub record AreSome (groups : Groups) : Type 0 where
  pub rows : (keys : List Key) → is_some (group_at groups keys) ≡ true → 0 < length (rows_at groups keys)
  pub texts : (keys : List Key) → is_some (group_at groups keys) ≡ true → All (λ key. HasText key.value) keys

-- what a row holds for the aggregates
abbrev pub row_of : (FieldNo → RecId → Value) → List forms.Aggregate → RecId → List Value
row_of held aggregates id = map (λ a. held a.field id) aggregates

-- by what its group is ordered
abbrev pub sort_keys_of : (FieldNo → RecId → Value) → forms.AskedGroups → RecId → List Key
sort_keys_of held asked id = sort_keys asked.terms (keys_of held asked.groupings id)

-- the rows of these ids whose group has these keys
abbrev pub rows_among : (FieldNo → RecId → Value) → forms.AskedGroups → List RecId → List Key → List (List Value)
rows_among held asked ids keys = map (row_of held asked.aggregates) (filter (λ id. is_alike (sort_keys_of held asked id) keys) ids)

-- the rows of these ids, by their groups
abbrev pub AreGathered : (FieldNo → RecId → Value) → forms.AskedGroups → List RecId → Groups → Type 0
AreGathered held asked ids groups = (keys : List Key) → rows_at groups keys ≡ rows_among held asked ids keys

-- ---- groups in their order

-- a group of a map
abbrev pub group_of : Vec Key Global × Vec (Vec Value Global) Global → Group
group_of e = record { keys = e.0; rows = e.1 }

-- the keys of the map rise
abbrev pub AreInOrder : Groups → Type 0
AreInOrder groups = tree.IsOrdered (λ (a : Vec Key Global). λ (b : Vec Key Global). keys_order a.items b.items) groups

-- the rows of the first group of a map; of none there are none
abbrev pub first_rows : List (Vec Key Global × Vec (Vec Value Global) Global) → List (List Value)
first_rows [] = []
first_rows (e ∷ es) = rows_in e.1

-- the one group without keys, of those rows
pub record IsWhole (groups : Groups) (list : Vec Group Global) : Type 0 where
  pub keys : map (λ group. group.keys.items) list.items ≡ [] ∷ []
  pub rows : map (λ group. rows_in group.rows) list.items ≡ first_rows groups.entries ∷ []

-- the key at a number; unset where there is none
abbrev pub key_at : List Key → ℕ → Key
key_at keys number = slice_index_or keys number (rising value.Nil)

-- what a group has for the groupings, behind what it has for the terms
abbrev pub own_keys : forms.AskedGroups → Group → List Value
own_keys asked group = map (λ key. key.value) (drop (length asked.terms) group.keys.items)

-- it has the rows of these ids that have its keys
pub record IsGroupOf (held : FieldNo → RecId → Value) (asked : forms.AskedGroups) (ids : List RecId) (group : Group) : Type 0 where
  pub sized : length (own_keys asked group) ≡ length asked.groupings
  pub rows : rows_in group.rows ≡ map (row_of held asked.aggregates) (rows_of held asked.groupings ids (own_keys asked group))

-- each key that it tells has a text where it is a day or a moment
abbrev pub HasTexts : Group → Type 0
HasTexts group = All (λ key. HasText key.value) group.keys.items

-- the groups of these ids, in their order
pub record AreOrderedGroups (held : FieldNo → RecId → Value) (asked : forms.AskedGroups) (ids : List RecId) (groups : List Group) : Type 0 where
  pub each_once : AreDistinct (group_order asked.terms) (keys_in held asked.groupings ids) (map (own_keys asked) groups)
  pub each : All (IsGroupOf held asked ids) groups

-- the list of the objects of the groups of these ids
abbrev pub TellsGroups : (FieldNo → RecId → Value) → forms.AskedGroups → List RecId → Data → Type 0
TellsGroups held asked ids d = (objects : List Data) × AreTold held asked ids objects × (d ≡ list_json objects)

-- the object has what an aggregate makes of these values, under its key
abbrev pub IsPut : Aggregate → List Value → (before after : Members) → Type 0
IsPut a values before after = (own : Data) × TellsAmount a.amount values own × (after ≡ put a.key.now own before)
