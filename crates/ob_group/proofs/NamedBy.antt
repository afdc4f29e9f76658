-- The fields that entries and groupings name, as the code has them.
use Rattle.std.proofs.Common.{◌≡◌, ◌++◌, Bool, true, false, cond, List, [], ◌∷◌, map, Option, Some, None, is_some, refl, sym, ap, subst, ◌∙◌}
use Rattle.std.specs.Prelude.{IfSome, not, unwrap_or}
use Rattle.std.specs.Option.{option_map_or}
use Rattle.ob_base.specs.declared.place.PathStep.{PathStep}
use Rattle.ob_call.specs.Arguments.{Given}
use Rattle.ob_call.specs.Called.{Called}
use Rattle.ob_domain.specs.Naming.{named_fields}
use Rattle.ob_query.specs.Callers.{Named, fields_named, in_turn, is_first, named_of}
use Rattle.ob_query.specs.Callers as callers
use Rattle.ob_query.specs.NamedFields.{Naming, domain_names, is_positioned, name_fields, named_by, names_name, order_names}
use Rattle.ob_query.specs.NamedFields as spec
use Rattle.ob_query.specs.SearchForms.{order_fault, order_given, order_of, tree_given}
use Rattle.ob_query.specs.declared.naming.Naming.{Naming as Own}
use Rattle.ob_schema.specs.Paths.{step_at}
use Rattle.ob_schema.specs.declared.info.ModelInfo.{ModelInfo}
use Rattle.ob_schema.specs.declared.info.OrderTerm.{OrderTerm}
use Rattle.ob_schema.specs.declared.info.Step.{Step}
use Rattle.serde_json.specs.Data.{Data}
use Rattle.ob_group.specs.GroupForms.{groupings_in, items_in, json_of}
use Rattle.ob_group.specs.NamedGroups.{entries_name, entry_fields, groupings_name}

pub entries_same : (c : Called) (given : Option Given) → map (step_at c.model) (option_map_or (λ g. entry_fields c.info.fields g.json) given []) ≡ option_map_or (λ g. entries_name c g.json) given []
entries_same c None = refl
entries_same c (Some g) = refl

pub groupings_same : (c : Called) (given : Option Given) → map (λ g. step_at c.model g.field) (groupings_in c.info.fields (items_in (json_of given))) ≡ option_map_or (λ g. groupings_name c g.json) given []
groupings_same c None = refl
groupings_same c (Some g) = refl
