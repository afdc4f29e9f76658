-- What searches are called with, and what that asks for.
use Rattle.std.specs.Prelude.{◌&&◌, ◌^◌, nat_lt, ℕ, List, [], ◌∷◌, map, codes, Bool, true, false, not, is_some, if◌then◌else◌, Option, Some, None, option_and_then, option_map, unwrap_or, Result, Ok}
use Rattle.std.specs.Option.{option_map_or}
use Rattle.std.specs.Result.{result_err, result_ok}
use Rattle.ob_base.specs.Chain.{◌>>=◌}
use Rattle.ob_base.specs.declared.id.FieldNo.{FieldNo}
use Rattle.ob_base.specs.declared.id.ModelNo.{ModelNo}
use Rattle.ob_base.specs.declared.place.PathStep.{PathStep}
use Rattle.ob_call.specs.Arguments.{Expected, Given, arguments_of}
use Rattle.ob_call.specs.Called.{Called}
use Rattle.ob_call.specs.Columns.{asked_columns}
use Rattle.ob_call.specs.Context.{active_test}
use Rattle.ob_call.specs.Forms.{names_fault}
use Rattle.ob_definition.specs.Orders.{Term, all_some, order_terms}
use Rattle.ob_definition.specs.Types.{is_list}
use Rattle.ob_definition.specs.declared.field_type.FieldType.{FieldType}
use Rattle.ob_definition.specs.declared.field_type.FieldType.TheVariants as type
use Rattle.ob_domain.specs.Naming.{asks_field}
use Rattle.ob_domain.specs.Reading.{domain_from}
use Rattle.ob_domain.specs.Trees.{Tree, constant}
use Rattle.ob_domain.specs.declared.fault.DomainFault.{DomainFault}
use Rattle.ob_domain.specs.declared.fault.DomainFault.TheVariants as fault
use Rattle.ob_schema.specs.Built.{numbered}
use Rattle.ob_schema.specs.Fields.{Column, has_value_of}
use Rattle.ob_schema.specs.Models.{field_named}
use Rattle.ob_schema.specs.declared.info.FieldInfo.{FieldInfo}
use Rattle.ob_schema.specs.declared.info.ModelInfo.{ModelInfo}
use Rattle.ob_schema.specs.declared.info.OrderTerm.{OrderTerm}
use Rattle.serde_json.specs.Data.{Data}
use Rattle.serde_json.specs.Find.{as_number, as_str, as_u64}

-- ---- the forms of arguments, each told by its fault

-- the place below a domain at which it is wrong
abbrev pub place_of_fault : DomainFault → List PathStep
place_of_fault (fault.Shape place) = place
place_of_fault (fault.Field place) = place
place_of_fault (fault.Operator place) = place
place_of_fault (fault.Operand place) = place
place_of_fault (fault.NotStored place) = place
place_of_fault (fault.NoTree place) = place
place_of_fault fault.NoMemory = []

-- a domain of the model
abbrev pub domain_fault : List ModelInfo → ModelNo → Data → Option (List PathStep)
domain_fault models model d = option_map place_of_fault (result_err (domain_from models model d))

-- how many rows: an integer from 0 to 2^63 - 1
abbrev pub count_from : Data → Option ℕ
count_from d = option_and_then (λ n. if nat_lt n (2 ^ 63) then Some n else None) (option_and_then as_u64 (as_number d))

abbrev pub count_fault : Data → Option (List PathStep)
count_fault d = if is_some (count_from d) then None else Some []

-- rows can be ordered by the field: it is no list and has a value in each row
abbrev pub can_order : FieldInfo → Bool
can_order field = not (is_list field.field_type) && has_value_of field

-- the field of a name by which rows can be ordered
abbrev pub order_field : List FieldInfo → List ℕ → Option FieldNo
order_field fields name = option_and_then (λ number. if option_map_or can_order (numbered fields number.0) false then Some number else None) (field_named fields name)

-- what a term of an order stands for
abbrev pub order_term : List FieldInfo → Term → Option OrderTerm
order_term fields term = option_map (λ number. record { field = number; descending = term.descending }) (order_field fields term.name)

-- an order: a text of terms, each by a field by which rows can be ordered
abbrev pub order_of : List FieldInfo → Data → Option (List OrderTerm)
order_of fields d = option_and_then (λ terms. all_some (map (order_term fields) terms)) (option_and_then order_terms (as_str d))

abbrev pub order_fault : List FieldInfo → Data → Option (List PathStep)
order_fault fields d = if is_some (order_of fields d) then None else Some []

-- ---- what searches are called with

abbrev pub domain_expected : List ModelInfo → ModelNo → Bool → Expected
domain_expected models model required = record { name = codes "domain"; required = required; fault = domain_fault models model }

abbrev pub limit_expected : Expected
limit_expected = record { name = codes "limit"; required = false; fault = count_fault }

-- from which row on, how many at most, and in which order
abbrev pub window_expected : List FieldInfo → List Expected
window_expected fields = record { name = codes "offset"; required = false; fault = count_fault } ∷ limit_expected ∷ record { name = codes "order"; required = false; fault = order_fault fields } ∷ []

abbrev pub search_expects : List ModelInfo → ModelNo → List FieldInfo → List Expected
search_expects models model fields = domain_expected models model true ∷ window_expected fields

abbrev pub count_expects : List ModelInfo → ModelNo → List Expected
count_expects models model = domain_expected models model true ∷ limit_expected ∷ []

abbrev pub search_read_expects : List ModelInfo → ModelNo → List FieldInfo → List Expected
search_read_expects models model fields = domain_expected models model false ∷ record { name = codes "fields"; required = false; fault = names_fault fields } ∷ window_expected fields

-- ---- what they ask for

-- what a search asks for: the rows that meet a tree, and in which a field is true where it asks for one, in an order, from one on, at most so many; no limit is 0
pub record Sought : Type 0 where
  pub tree : Tree
  pub active : Option FieldNo
  pub order : List OrderTerm
  pub offset : ℕ
  pub limit : ℕ

-- the tree of a domain that was judged; without one all rows are meant
abbrev pub tree_given : List ModelInfo → ModelNo → Option Given → Tree
tree_given models model (Some g) = unwrap_or (result_ok (domain_from models model g.json)) (constant true)
tree_given models model None = constant true

-- a number of rows; without one 0
abbrev pub count_given : Option Given → ℕ
count_given given = unwrap_or (option_and_then (λ g. count_from g.json) given) 0

-- the terms of an order; without one those of the model
abbrev pub order_given : ModelInfo → Option Given → List OrderTerm
order_given info given = unwrap_or (option_and_then (λ g. order_of info.fields g.json) given) info.order

abbrev pub is_boolean : FieldType → Bool
is_boolean type.Boolean = true
is_boolean _ = false

-- the Boolean field `active` of a model, where it has one
abbrev pub active_field : ModelInfo → Option FieldNo
active_field info = option_and_then (λ number. if option_map_or (λ field. is_boolean field.field_type) (numbered info.fields number.0) false then Some number else None) (field_named info.fields (codes "active"))

-- the field by which rows that aren't active are left out: `active`, where the domain doesn't ask of it and the context lets
abbrev pub active_asked : Called → Tree → Option FieldNo
active_asked c tree = option_and_then (λ number. if active_test c.kw && not (asks_field number tree) then Some number else None) (active_field c.info)

-- by a domain, an order, an offset and a limit, each where it is given
abbrev pub sought_in : List ModelInfo → Called → (domain offset limit order : Option Given) → Sought
sought_in models c domain offset limit order = record {
  tree = tree_given models c.model domain;
  active = active_asked c (tree_given models c.model domain);
  order = order_given c.info order;
  offset = count_given offset;
  limit = count_given limit;
}

-- by the arguments of a search
abbrev pub sought_by : List ModelInfo → Called → List (Option Given) → Sought
sought_by models c (domain ∷ offset ∷ limit ∷ order ∷ given) = sought_in models c domain offset limit order
sought_by models c _ = sought_in models c None None None None

-- by those of a count: whatever the order
abbrev pub counted_by : List ModelInfo → Called → List (Option Given) → Sought
counted_by models c (domain ∷ limit ∷ given) = sought_in models c domain None limit None
counted_by models c _ = sought_in models c None None None None

-- what is asked of rows that are told: which rows, and the fields of their objects
pub record SoughtObjects : Type 0 where
  pub sought : Sought
  pub fields : List Column

abbrev pub objects_in : Sought → List Column → SoughtObjects
objects_in sought fields = record { sought = sought; fields = fields }

-- by the arguments of a search that reads
abbrev pub objects_by : List ModelInfo → Called → List (Option Given) → SoughtObjects
objects_by models c (domain ∷ fields ∷ offset ∷ limit ∷ order ∷ given) = objects_in (sought_in models c domain offset limit order) (asked_columns c.info fields)
objects_by models c _ = objects_in (sought_in models c None None None None) []

-- what each call asks for, or the first place that is wrong
abbrev pub sought_of : List ModelInfo → Called → Result Sought (List PathStep)
sought_of models c = arguments_of (search_expects models c.model c.info.fields) c.args c.kw >>= λ given. Ok (sought_by models c given)

abbrev pub counted_of : List ModelInfo → Called → Result Sought (List PathStep)
counted_of models c = arguments_of (count_expects models c.model) c.args c.kw >>= λ given. Ok (counted_by models c given)

abbrev pub objects_of : List ModelInfo → Called → Result SoughtObjects (List PathStep)
objects_of models c = arguments_of (search_read_expects models c.model c.info.fields) c.args c.kw >>= λ given. Ok (objects_by models c given)
