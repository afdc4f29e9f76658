-- The machine's `read_group`: of the rows that the caller sees those that a domain finds, by groups.
use Rattle.std.specs.Prelude.{◌≡◌, List, [], ◌∷◌, filter, length, map, Bool, Result, Ok, Err, ⊤}
use Rattle.std.specs.Cmp.Lexicographic.{slice_cmp}
use Rattle.std.specs.List.{slice_index_or}
use Rattle.std.specs.Ordering.{is_eq, on, then_cmp}
use Rattle.std.specs.declared.cmp.Ordering.{Ordering}
use Rattle.ob_access.specs.Policies.{PolicyData}
use Rattle.ob_base.specs.ValueOrder.{value_order}
use Rattle.ob_base.specs.declared.id.FieldNo.{FieldNo}
use Rattle.ob_base.specs.declared.id.RecId.{RecId}
use Rattle.ob_base.specs.declared.refusal.Refusal.{Refusal}
use Rattle.ob_base.specs.declared.value.Value.{Value}
use Rattle.ob_base.specs.declared.value.Value.TheVariants as value
use Rattle.ob_call.specs.Called.{Called}
use Rattle.ob_codec.specs.CommandForms.{list_json, number_json}
use Rattle.ob_codec.specs.JsonForm.{IsJsonOf}
use Rattle.ob_group.specs.GroupAmounts.{AreDistinct, TellsAmount}
use Rattle.ob_group.specs.GroupForms.{Aggregate, AskedGroups, GroupTerm, Grouping, groups_of}
use Rattle.ob_group.specs.GroupPeriods.{group_value}
use Rattle.ob_query.specs.Denials.{AskCause, IsRefused, MayAsk}
use Rattle.ob_group.specs.NamedGroups.{groups_named}
use Rattle.ob_query.specs.Search.{found_in, held_of}
use Rattle.ob_query.specs.SearchOrder.{by_direction, unset_last, window}
use Rattle.ob_query.specs.Views.{FromView, View}
use Rattle.ob_schema.specs.Tables.{Tables}
use Rattle.ob_schema.specs.declared.info.ModelInfo.{ModelInfo}
use Rattle.serde_json.specs.Data.{Data, Members, no_members, object, put}

-- what a row holds for each grouping: its keys
abbrev pub keys_of : (FieldNo → RecId → Value) → List Grouping → RecId → List Value
keys_of held groupings id = map (λ g. group_value g.period (held g.field id)) groupings

-- the same keys
abbrev pub same_keys : List Value → List Value → Bool
same_keys a b = is_eq (slice_cmp value_order a b)

-- the keys of the rows; without groupings there is one group, also of no rows
abbrev pub keys_in : (FieldNo → RecId → Value) → List Grouping → List RecId → List (List Value)
keys_in held [] ids = [] ∷ []
keys_in held (g ∷ groupings) ids = map (keys_of held (g ∷ groupings)) ids

-- the rows of the group that has these keys
abbrev pub rows_of : (FieldNo → RecId → Value) → List Grouping → List RecId → List Value → List RecId
rows_of held groupings ids keys = filter (λ id. same_keys (keys_of held groupings id) keys) ids

-- groups go by the terms in turn, each by its grouping's key, then by all keys, rising and unset last
abbrev pub group_order : List GroupTerm → List Value → List Value → Ordering
group_order [] = slice_cmp unset_last
group_order (term ∷ terms) = then_cmp (on (λ keys. slice_index_or keys term.number value.Nil) (by_direction term.descending)) (group_order terms)

-- the object so far has each grouping's key under its text, and becomes this object
abbrev pub TellsKeys : List Grouping → List Value → (before after : Members) → Type 0
TellsKeys [] [] before after = after ≡ before
TellsKeys (g ∷ groupings) (v ∷ keys) before after = (own : Data) × IsJsonOf v own × TellsKeys groupings keys (put g.text own before) after
TellsKeys _ _ before after = ⊥

-- the object so far has the aggregates of what these rows hold, each under its key, and becomes this object
abbrev pub TellsAmounts : (FieldNo → RecId → Value) → List RecId → List Aggregate → (before after : Members) → Type 0
TellsAmounts held ids [] before after = after ≡ before
TellsAmounts held ids (a ∷ aggregates) before after = (own : Data) × TellsAmount a.amount (map (held a.field) ids) own × TellsAmounts held ids aggregates (put a.key own before) after

-- the object that tells of the group of these keys: the keys, the number of its rows, and the aggregates
abbrev pub TellsGroup : (FieldNo → RecId → Value) → AskedGroups → List RecId → List Value → Data → Type 0
TellsGroup held asked found keys d =
    (named : Members) × (members : Members) × TellsKeys asked.groupings keys no_members named
    × TellsAmounts held (rows_of held asked.groupings found keys) asked.aggregates (put asked.count_key (number_json (length (rows_of held asked.groupings found keys))) named) members × (d ≡ object members)

-- each of these groups has its object
abbrev pub TellsEachGroup : (FieldNo → RecId → Value) → AskedGroups → List RecId → List (List Value) → List Data → Type 0
TellsEachGroup held asked found [] [] = ⊤
TellsEachGroup held asked found (keys ∷ groups) (d ∷ ds) = TellsGroup held asked found keys d × TellsEachGroup held asked found groups ds
TellsEachGroup held asked found _ _ = ⊥

-- the objects of the groups of these rows: one for each list of keys, in their order, from one on and at most so many
pub record AreTold (held : FieldNo → RecId → Value) (asked : AskedGroups) (found : List RecId) (objects : List Data) : Type 0 where
  pub groups : List (List Value)
  pub each_once : AreDistinct (group_order asked.terms) (keys_in held asked.groupings found) groups
  pub told : TellsEachGroup held asked found (window asked.offset asked.limit groups) objects

-- From a view: the objects of the groups of the rows that a search finds, or why not.
abbrev pub GroupsOver : List ModelInfo → PolicyData → Called → View → Result Data Refusal → Type 0
GroupsOver models policy c view (Ok json) =
    MayAsk policy view c (groups_named models c) × (asked : AskedGroups) × (objects : List Data) × (groups_of models c ≡ Ok asked)
    × AreTold (held_of view.told c.model) asked (found_in view c asked.sought) objects × (json ≡ list_json objects)
GroupsOver models policy c view (Err why) = IsRefused policy view c (groups_of models c) (groups_named models c) why

-- The machine answers from the caller's view.
abbrev pub Groups : List ModelInfo → PolicyData → Called → Tables → Result Data Refusal → Type 0
Groups models policy c tables outcome = FromView models policy c.caller (GroupsOver models policy c) tables outcome

-- why it may be refused whatever the keeper tells
abbrev pub GroupsCause : List ModelInfo → PolicyData → Called → Refusal → Type 0
GroupsCause models policy c why = AskCause policy c (groups_of models c) (groups_named models c) why
