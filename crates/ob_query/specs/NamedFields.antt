-- Which fields the arguments of a call name, as one wants them who asks for a caller's rights to them.
use Rattle.std.specs.Prelude.{ℕ, ◌++◌, List, [], ◌∷◌, map, Bool, true, not, bytes_eq, codes, if◌then◌else◌, Option, Some, None, option_and_then, unwrap_or, Result, Ok}
use Rattle.std.specs.List.{filter_map}
use Rattle.std.specs.Option.{option_map_or}
use Rattle.std.specs.Result.{result_ok}
use Rattle.ob_base.specs.Chain.{◌>>=◌}
use Rattle.ob_base.specs.declared.id.FieldNo.{FieldNo}
use Rattle.ob_base.specs.declared.id.ModelNo.{ModelNo}
use Rattle.ob_base.specs.declared.place.PathStep.{PathStep}
use Rattle.ob_base.specs.declared.place.PathStep.TheVariants.{Key}
use Rattle.ob_call.specs.Arguments.{Given, arguments_of}
use Rattle.ob_call.specs.Called.{Called}
use Rattle.ob_call.specs.Forms.{number_from}
use Rattle.ob_codec.specs.Commands.{listed}
use Rattle.ob_domain.specs.Naming.{named_fields}
use Rattle.ob_domain.specs.Reading.{domain_from}
use Rattle.ob_domain.specs.Trees.{constant}
use Rattle.ob_query.specs.ReadArguments.{read_expects}
use Rattle.ob_query.specs.SearchForms.{count_expects, order_of, search_expects, search_read_expects}
use Rattle.ob_schema.specs.Models.{field_named}
use Rattle.ob_schema.specs.Paths.{step_at}
use Rattle.ob_schema.specs.declared.info.FieldInfo.{FieldInfo}
use Rattle.ob_schema.specs.declared.info.ModelInfo.{ModelInfo}
use Rattle.ob_schema.specs.declared.info.Step.{Step}
use Rattle.serde_json.specs.Data.{Data, array}
use Rattle.serde_json.specs.Find.{as_str}

-- ---- of one argument, as it is written

-- the fields that a list of names names
abbrev pub name_fields : List FieldInfo → Data → List FieldNo
name_fields fields (array items) = filter_map (number_from fields) (listed items)
name_fields fields _ = []

abbrev pub names_name : Called → Data → List Step
names_name c d = map (step_at c.model) (name_fields c.info.fields d)

-- those that a domain names: each step of a dotted field, and those of inner criteria
abbrev pub domain_names : List ModelInfo → Called → Data → List Step
domain_names models c d = named_fields c.model (unwrap_or (result_ok (domain_from models c.model d)) (constant true))

-- those by which an order goes
abbrev pub order_names : Called → Data → List Step
order_names c d = map (λ term. step_at c.model term.field) (unwrap_or (order_of c.info.fields d) [])

-- ---- of several, in the order in which their forms are tested

-- an argument, if it is given, and which fields its value names
pub record Naming : Type 0 where
  pub given : Option Given
  pub names : Data → List Step

-- it is given by its position
abbrev pub is_positioned : List PathStep → Bool
is_positioned (Key name ∷ steps) = bytes_eq name (codes "args")
is_positioned _ = true

-- what those name that are given so
abbrev pub named_where : (Given → Bool) → List Naming → List Step
named_where test [] = []
named_where test (n ∷ ns) = option_map_or (λ g. if test g then n.names g.json else []) n.given [] ++ named_where test ns

-- the fields that arguments name: first those of arguments by position, then those of arguments by name, which are handed in the byte order of their names
abbrev pub named_by : List Naming → List Step
named_by ns = named_where (λ g. is_positioned g.place) ns ++ named_where (λ g. not (is_positioned g.place)) ns

-- ---- of the calls

abbrev pub read_names : Called → List (Option Given) → List Step
read_names c (ids ∷ fields ∷ given) = named_by (record { given = fields; names = names_name c } ∷ [])
read_names c _ = []

abbrev pub search_names : List ModelInfo → Called → List (Option Given) → List Step
search_names models c (domain ∷ offset ∷ limit ∷ order ∷ given) = named_by (record { given = domain; names = domain_names models c } ∷ record { given = order; names = order_names c } ∷ [])
search_names models c _ = []

abbrev pub count_names : List ModelInfo → Called → List (Option Given) → List Step
count_names models c (domain ∷ given) = named_by (record { given = domain; names = domain_names models c } ∷ [])
count_names models c _ = []

abbrev pub objects_names : List ModelInfo → Called → List (Option Given) → List Step
objects_names models c (domain ∷ fields ∷ offset ∷ limit ∷ order ∷ given) =
    named_by (record { given = domain; names = domain_names models c } ∷ record { given = fields; names = names_name c } ∷ record { given = order; names = order_names c } ∷ [])
objects_names models c _ = []

-- the fields that each call names, or the first place that is wrong
abbrev pub read_named : Called → Result (List Step) (List PathStep)
read_named c = arguments_of (read_expects c.info.fields) c.args c.kw >>= λ given. Ok (read_names c given)

abbrev pub search_named : List ModelInfo → Called → Result (List Step) (List PathStep)
search_named models c = arguments_of (search_expects models c.model c.info.fields) c.args c.kw >>= λ given. Ok (search_names models c given)

abbrev pub count_named : List ModelInfo → Called → Result (List Step) (List PathStep)
count_named models c = arguments_of (count_expects models c.model) c.args c.kw >>= λ given. Ok (count_names models c given)

abbrev pub objects_named : List ModelInfo → Called → Result (List Step) (List PathStep)
objects_named models c = arguments_of (search_read_expects models c.model c.info.fields) c.args c.kw >>= λ given. Ok (objects_names models c given)
