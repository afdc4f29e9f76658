-- What `read_group` is called with, and what that asks for.
use Rattle.std.specs.Prelude.{◌&&◌, ◌++◌, ◌+◌, ◌==◌, nat_lt, ℕ, List, [], ◌∷◌, length, map, take, codes, bytes_eq, Bool, true, false, not, is_some, if◌then◌else◌, Option, Some, None, option_and_then, option_map, position, unwrap_or, Result, Ok}
use Rattle.std.specs.Char.{is_ascii_alphanumeric}
use Rattle.std.specs.List.{after_first, before_first, filter_map, list_all, position_or_len, slice_get}
use Rattle.std.specs.Option.{option_map_or}
use Rattle.ob_base.specs.Chain.{◌>>=◌}
use Rattle.ob_base.specs.declared.id.FieldNo.{FieldNo}
use Rattle.ob_base.specs.declared.id.ModelNo.{ModelNo}
use Rattle.ob_base.specs.declared.place.PathStep.{PathStep}
use Rattle.ob_base.specs.declared.place.PathStep.TheVariants.{Item}
use Rattle.ob_call.specs.Arguments.{Expected, Given, arguments_of, is_among}
use Rattle.ob_call.specs.Called.{Called}
use Rattle.ob_call.specs.Context.{value_of_key}
use Rattle.ob_codec.specs.Commands.{listed}
use Rattle.ob_definition.specs.Orders.{Term, all_some, is_empty_piece, order_terms}
use Rattle.ob_definition.specs.Types.{is_list}
use Rattle.ob_definition.specs.declared.field_type.FieldType.{FieldType}
use Rattle.ob_definition.specs.declared.field_type.FieldType.TheVariants as type
use Rattle.ob_group.specs.GroupPeriods.{period_named}
use Rattle.ob_query.specs.SearchForms.{Sought, count_fault, count_given, domain_expected, limit_expected, sought_in}
use Rattle.ob_group.specs.declared.amounts.Amount.{Amount}
use Rattle.ob_group.specs.declared.amounts.Amount.TheVariants as amount
use Rattle.ob_group.specs.declared.period.Period.{Period}
use Rattle.ob_group.specs.declared.period.Period.TheVariants as period
use Rattle.ob_schema.specs.Built.{numbered}
use Rattle.ob_schema.specs.Fields.{has_value_of}
use Rattle.ob_schema.specs.Models.{field_named, is_id_from}
use Rattle.ob_schema.specs.declared.info.FieldInfo.{FieldInfo}
use Rattle.ob_schema.specs.declared.info.ModelInfo.{ModelInfo}
use Rattle.serde_json.specs.Data.{Data, array, boolean, null, string}
use Rattle.serde_json.specs.Find.{as_str}

-- what stands before the first such byte of a text, and behind it
abbrev pub parted : ℕ → List ℕ → Option (List ℕ × List ℕ)
parted mark text = if nat_lt (position_or_len (λ b. b == mark) text) (length text) then Some (before_first (λ b. b == mark) text, after_first (λ b. b == mark) text) else None

-- ---- groupings

-- a grouping: its text, the name in it, the field of that name, and of days and moments the period
pub record Grouping : Type 0 where
  pub text : List ℕ
  pub name : List ℕ
  pub field : FieldNo
  pub period : Option Period

-- values of the type lie in periods
abbrev pub has_periods : FieldType → Bool
has_periods type.Date = true
has_periods type.Datetime = true
has_periods _ = false

-- rows can be grouped by values of the type: neither lists nor long texts
abbrev pub is_groupable : FieldType → Bool
is_groupable type.Text = false
is_groupable t = not (is_list t)

-- rows can be grouped by the field: it has a value in each row, and isn't the id
abbrev pub can_group : FieldInfo → Bool
can_group field = is_groupable field.field_type && has_value_of field && not (is_id_from field.origin)

-- the period of a grouping, by what stands behind the colon: a day or a moment has one, the month where none is said; any other value has none
abbrev pub period_of : FieldType → Option (List ℕ) → Option (Option Period)
period_of t part = if has_periods t then option_map Some (option_map_or period_named part (Some period.Month)) else if is_some part then None else Some None

-- the grouping of a text by its name and what may stand behind the colon
abbrev pub grouping_by : List FieldInfo → (text name : List ℕ) → Option (List ℕ) → Option Grouping
grouping_by fields text name part =
    option_and_then (λ number. option_and_then (λ field. if can_group field then option_map (λ period. record { text = text; name = name; field = number; period = period }) (period_of field.field_type part) else None)
    (numbered fields number.0)) (field_named fields name)

-- a grouping: the name of a field, which a colon and a period may follow
abbrev pub grouping_of : List FieldInfo → List ℕ → Option Grouping
grouping_of fields text = option_map_or (λ parts. grouping_by fields text parts.0 (Some parts.1)) (parted 58 text) (grouping_by fields text text None)

abbrev pub grouping_from : List FieldInfo → Data → Option Grouping
grouping_from fields d = option_and_then (grouping_of fields) (as_str d)

-- the place of the first item that is no grouping, or one that stands before it
abbrev pub first_wrong_grouping : List FieldInfo → List (List ℕ) → ℕ → List Data → Option (List PathStep)
first_wrong_grouping fields earlier n [] = None
first_wrong_grouping fields earlier n (d ∷ ds) =
    option_map_or (λ g. if is_among g.text earlier then Some (Item n ∷ []) else first_wrong_grouping fields (earlier ++ g.text ∷ []) (n + 1) ds) (grouping_from fields d) (Some (Item n ∷ []))

-- a text that is no grouping
abbrev pub text_fault : List FieldInfo → List ℕ → Option (List PathStep)
text_fault fields text = if is_some (grouping_of fields text) then None else Some []

-- a list of groupings, none twice; or the text of one
abbrev pub groupings_fault : List FieldInfo → Data → Option (List PathStep)
groupings_fault fields (string text) = text_fault fields text
groupings_fault fields (array items) = first_wrong_grouping fields [] 0 (listed items)
groupings_fault fields _ = Some []

-- ---- what is written of them, before the arguments are judged

-- what is given for groupings: the items of a list, or another value alone
abbrev pub items_in : Option Data → List Data
items_in None = []
items_in (Some (array items)) = listed items
items_in (Some d) = d ∷ []

-- the texts among items, also such as are no groupings
abbrev pub texts_in : List Data → List (List ℕ)
texts_in items = filter_map as_str items

-- the grouping for which the first text stands, if it does for one
abbrev pub first_in : List FieldInfo → List Data → Option Grouping
first_in fields items = option_and_then (grouping_of fields) (slice_get (texts_in items) 0)

-- the groupings among items
abbrev pub groupings_in : List FieldInfo → List Data → List Grouping
groupings_in fields items = filter_map (grouping_from fields) items

-- the texts that are written, the first one's grouping, all groupings, and whether the first alone is used
pub record Written : Type 0 where
  pub texts : List (List ℕ)
  pub first : Option Grouping
  pub groupings : List Grouping
  pub lazy : Bool

-- a value, unless it is `null`
abbrev pub not_null : Data → Option Data
not_null null = None
not_null d = Some d

-- an item of a list, if there is one that isn't `null`
abbrev pub item_at : ℕ → Data → Option Data
item_at n (array items) = option_and_then not_null (slice_get (listed items) n)
item_at n _ = None

-- an argument, wherever it is given: at its position, else by its name
abbrev pub written_argument : ℕ → List ℕ → (args kw : Data) → Option Data
written_argument n name args kw = option_map_or Some (item_at n args) (value_of_key name kw)

-- the first grouping alone is used unless `false` is given
abbrev pub is_lazy : Option Data → Bool
is_lazy (Some (boolean b)) = b
is_lazy _ = true

abbrev pub written_in : List FieldInfo → (groupby lazy : Option Data) → Written
written_in fields groupby lazy =
    record { texts = texts_in (items_in groupby); first = first_in fields (items_in groupby); groupings = groupings_in fields (items_in groupby); lazy = is_lazy lazy }

abbrev pub written_of : List FieldInfo → (args kw : Data) → Written
written_of fields args kw = written_in fields (written_argument 2 (codes "groupby") args kw) (written_argument 6 (codes "lazy") args kw)

-- the groupings that are used
abbrev pub used : Written → List Grouping
used written = if written.lazy then take 1 written.groupings else written.groupings

-- the key of the count: of a first grouping that is used alone its name and `_count`
abbrev pub count_key : Written → List ℕ
count_key written = if written.lazy then option_map_or (λ g. g.name ++ codes "_count") written.first (codes "__count") else codes "__count"

-- the keys that no aggregate may have: the count's, and all texts that are written
abbrev pub taken_keys : Written → List (List ℕ)
taken_keys written = count_key written ∷ written.texts

-- ---- aggregates

-- an aggregate: the key under which it is told, the field, and what is told of its values
pub record Aggregate : Type 0 where
  pub key : List ℕ
  pub field : FieldNo
  pub amount : Amount

-- what is told of values, by its name
unfoldable pub amount_named : List ℕ → Option Amount
amount_named name =
    if bytes_eq name (codes "sum") then Some amount.Sum
    else if bytes_eq name (codes "min") then Some amount.Least
    else if bytes_eq name (codes "max") then Some amount.Greatest
    else if bytes_eq name (codes "count") then Some amount.Count
    else if bytes_eq name (codes "count_distinct") then Some amount.CountDistinct
    else None

abbrev pub is_integer_type : FieldType → Bool
is_integer_type type.Integer = true
is_integer_type _ = false

-- it has integers, and isn't the id
abbrev pub has_integers : FieldInfo → Bool
has_integers field = is_integer_type field.field_type && not (is_id_from field.origin)

-- numbers are told of integers alone, and how many values there are of any field that is no list
abbrev pub fits_amount : Amount → FieldInfo → Bool
fits_amount amount.Count field = true
fits_amount amount.CountDistinct field = true
fits_amount _ field = has_integers field

-- it can be told of the field, which has a value in each row
abbrev pub has_amount : Amount → FieldInfo → Bool
has_amount amount field = has_value_of field && not (is_list field.field_type) && fits_amount amount field

-- an entry of the fields: an aggregate, or a field that is passed over
abbrev pub Entry : Type 0
Entry = Option Aggregate

-- an aggregate of the field of a name
abbrev pub told_entry : List FieldInfo → (key name : List ℕ) → Option Amount → Option Entry
told_entry fields key name amount =
    option_and_then (λ number. option_and_then (λ field. option_and_then (λ a. if has_amount a field then Some (Some (record { key = key; field = number; amount = a })) else None) amount) (numbered fields number.0)) (field_named fields name)

-- a field alone: its sum; one without integers is passed over
abbrev pub plain_entry : List FieldInfo → List ℕ → Option Entry
plain_entry fields name =
    option_and_then (λ number. option_and_then (λ field. if has_integers field then told_entry fields name name (Some amount.Sum) else Some None) (numbered fields number.0)) (field_named fields name)

-- what stands before and within brackets that end a text
abbrev pub bracketed : List ℕ → Option (List ℕ × List ℕ)
bracketed text = option_and_then (λ front. option_and_then (λ within. if is_empty_piece within.1 then Some (front.0, within.0) else None) (parted 41 front.1)) (parted 40 text)

-- a letter, a digit or `_`
abbrev pub is_name_byte : ℕ → Bool
is_name_byte b = if is_ascii_alphanumeric b then true else b == 95

-- a text of these alone
abbrev pub is_name : List ℕ → Bool
is_name text = not (is_empty_piece text) && list_all is_name_byte text

-- `key:amount(field)`, by what stands before the colon and in the brackets
abbrev pub named_entry : List FieldInfo → List ℕ → (amount name : List ℕ) → Option Entry
named_entry fields key amount name = if is_name key then told_entry fields key name (amount_named amount) else None

-- what stands behind a colon: an amount of the field before it, or one with its field in brackets
abbrev pub coloned_entry : List FieldInfo → (key rest : List ℕ) → Option Entry
coloned_entry fields key rest = option_map_or (λ parts. named_entry fields key parts.0 parts.1) (bracketed rest) (told_entry fields key key (amount_named rest))

-- `field`, `field:amount` or `key:amount(field)`
abbrev pub entry_of : List FieldInfo → List ℕ → Option Entry
entry_of fields text = option_map_or (λ parts. coloned_entry fields parts.0 parts.1) (parted 58 text) (plain_entry fields text)

abbrev pub entry_from : List FieldInfo → Data → Option Entry
entry_from fields d = option_and_then (entry_of fields) (as_str d)

-- the keys that are taken behind an entry
abbrev pub with_key : Entry → List (List ℕ) → List (List ℕ)
with_key entry taken = option_map_or (λ a. a.key ∷ taken) entry taken

-- its key isn't taken; one that is passed over has none
abbrev pub is_free : Entry → List (List ℕ) → Bool
is_free entry taken = option_map_or (λ a. not (is_among a.key taken)) entry true

-- the place of the first item that is no entry, or whose key is taken
abbrev pub first_wrong_entry : List FieldInfo → List (List ℕ) → ℕ → List Data → Option (List PathStep)
first_wrong_entry fields taken n [] = None
first_wrong_entry fields taken n (d ∷ ds) =
    option_map_or (λ e. if is_free e taken then first_wrong_entry fields (with_key e taken) (n + 1) ds else Some (Item n ∷ [])) (entry_from fields d) (Some (Item n ∷ []))

-- a list of entries, none under a key that is taken
abbrev pub aggregates_fault : List FieldInfo → Written → Data → Option (List PathStep)
aggregates_fault fields written (array items) = first_wrong_entry fields (taken_keys written) 0 (listed items)
aggregates_fault fields written _ = Some []

-- the aggregates of a list of entries
abbrev pub aggregates_in : List FieldInfo → Data → List Aggregate
aggregates_in fields (array items) = filter_map (λ d. option_and_then (λ e. e) (entry_from fields d)) (listed items)
aggregates_in fields _ = []

-- ---- the order of groups

-- a grouping that is used, by its number from 0, and whether groups fall by it
pub record GroupTerm : Type 0 where
  pub number : ℕ
  pub descending : Bool

-- the grouping that a term of an order names as it is written
abbrev pub group_term : List Grouping → Term → Option GroupTerm
group_term groupings term = option_map (λ number. record { number = number; descending = term.descending }) (position (λ g. bytes_eq g.text term.name) groupings)

abbrev pub group_terms : List Grouping → Data → Option (List GroupTerm)
group_terms groupings d = option_and_then (λ terms. all_some (map (group_term groupings) terms)) (option_and_then order_terms (as_str d))

abbrev pub group_order_fault : List Grouping → Data → Option (List PathStep)
group_order_fault groupings d = if is_some (group_terms groupings d) then None else Some []

-- ---- what it is called with

-- `true` or `false`
abbrev pub truth_fault : Data → Option (List PathStep)
truth_fault (boolean b) = None
truth_fault _ = Some []

abbrev pub groups_expects : List ModelInfo → ModelNo → List FieldInfo → Written → List Expected
groups_expects models model fields written =
    domain_expected models model true ∷ record { name = codes "fields"; required = true; fault = aggregates_fault fields written } ∷ record { name = codes "groupby"; required = true; fault = groupings_fault fields }
    ∷ record { name = codes "offset"; required = false; fault = count_fault } ∷ limit_expected ∷ record { name = codes "orderby"; required = false; fault = group_order_fault (used written) }
    ∷ record { name = codes "lazy"; required = false; fault = truth_fault } ∷ []

-- ---- what that asks for

-- whose rows, by which groupings, under which key their number is told, what else is told of them, in which order, from which group on and how many at most; no limit is 0
pub record AskedGroups : Type 0 where
  pub sought : Sought
  pub groupings : List Grouping
  pub count_key : List ℕ
  pub aggregates : List Aggregate
  pub terms : List GroupTerm
  pub offset : ℕ
  pub limit : ℕ

-- the value of an argument
abbrev pub json_of : Option Given → Option Data
json_of given = option_map (λ g. g.json) given

-- by the groupings that are given, and the other arguments, each where it is given
abbrev pub asked_in : List ModelInfo → Called → Written → (domain fields offset limit order : Option Given) → AskedGroups
asked_in models c written domain fields offset limit order = record {
  sought = sought_in models c domain None None None;
  groupings = used written;
  count_key = count_key written;
  aggregates = option_map_or (λ g. aggregates_in c.info.fields g.json) fields [];
  terms = unwrap_or (option_and_then (λ g. group_terms (used written) g.json) order) [];
  offset = count_given offset;
  limit = count_given limit;
}

-- by the arguments of the call
abbrev pub groups_by : List ModelInfo → Called → List (Option Given) → AskedGroups
groups_by models c (domain ∷ fields ∷ groupby ∷ offset ∷ limit ∷ order ∷ lazy ∷ given) = asked_in models c (written_in c.info.fields (json_of groupby) (json_of lazy)) domain fields offset limit order
groups_by models c _ = asked_in models c (written_in [] None None) None None None None None

-- what the call asks for, or the first place that is wrong
abbrev pub groups_of : List ModelInfo → Called → Result AskedGroups (List PathStep)
groups_of models c = arguments_of (groups_expects models c.model c.info.fields (written_of c.info.fields c.args c.kw)) c.args c.kw >>= λ given. Ok (groups_by models c given)
