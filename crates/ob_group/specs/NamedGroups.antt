-- Which fields the arguments of `read_group` name, as one wants them who asks for a caller's rights to them.
use Rattle.std.specs.Prelude.{ℕ, List, [], ◌∷◌, map, Option, Some, None, option_and_then, Result, Ok}
use Rattle.std.specs.List.{filter_map}
use Rattle.ob_base.specs.Chain.{◌>>=◌}
use Rattle.ob_base.specs.declared.id.FieldNo.{FieldNo}
use Rattle.ob_base.specs.declared.place.PathStep.{PathStep}
use Rattle.ob_call.specs.Arguments.{Given, arguments_of}
use Rattle.ob_call.specs.Called.{Called}
use Rattle.ob_codec.specs.Commands.{listed}
use Rattle.ob_group.specs.GroupForms.{Entry, entry_of, groupings_in, groups_expects, items_in, written_of}
use Rattle.ob_query.specs.NamedFields.{domain_names, named_by}
use Rattle.ob_schema.specs.Models.{field_named}
use Rattle.ob_schema.specs.Paths.{step_at}
use Rattle.ob_schema.specs.declared.info.FieldInfo.{FieldInfo}
use Rattle.ob_schema.specs.declared.info.ModelInfo.{ModelInfo}
use Rattle.ob_schema.specs.declared.info.Step.{Step}
use Rattle.serde_json.specs.Data.{Data, array}
use Rattle.serde_json.specs.Find.{as_str}

-- the field that an entry names; one that is passed over names it too
abbrev pub entry_name : List FieldInfo → List ℕ → Entry → Option FieldNo
entry_name fields text (Some a) = Some a.field
entry_name fields text None = field_named fields text

abbrev pub entry_field : List FieldInfo → Data → Option FieldNo
entry_field fields d = option_and_then (λ text. option_and_then (entry_name fields text) (entry_of fields text)) (as_str d)

-- those that entries name
abbrev pub entry_fields : List FieldInfo → Data → List FieldNo
entry_fields fields (array items) = filter_map (entry_field fields) (listed items)
entry_fields fields _ = []

abbrev pub entries_name : Called → Data → List Step
entries_name c d = map (step_at c.model) (entry_fields c.info.fields d)

-- those of groupings, also of such as aren't used
abbrev pub groupings_name : Called → Data → List Step
groupings_name c d = map (λ g. step_at c.model g.field) (groupings_in c.info.fields (items_in (Some d)))

-- an order of groups goes by groupings, which are named
abbrev pub groups_names : List ModelInfo → Called → List (Option Given) → List Step
groups_names models c (domain ∷ fields ∷ groupby ∷ given) =
    named_by (record { given = domain; names = domain_names models c } ∷ record { given = fields; names = entries_name c } ∷ record { given = groupby; names = groupings_name c } ∷ [])
groups_names models c _ = []

-- the fields that it names, or the first place that is wrong
abbrev pub groups_named : List ModelInfo → Called → Result (List Step) (List PathStep)
groups_named models c = arguments_of (groups_expects models c.model c.info.fields (written_of c.info.fields c.args c.kw)) c.args c.kw >>= λ given. Ok (groups_names models c given)
