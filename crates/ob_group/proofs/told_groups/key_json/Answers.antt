use Rattle.std.proofs.Common.{◌≡◌, List, map, subst}
use Rattle.std.specs.Prelude.{IfOk}
use Rattle.std.proofs.lemmas.Result.{IfOk-weaker}
use Rattle.ob_base.specs.declared.id.RecId.{RecId}
use Rattle.ob_base.specs.declared.value.Value.TheVariants as value
use Rattle.ob_codec.specs.CommandForms.{id_json, list_json}
use Rattle.ob_query.proofs.CallerLemmas.{value_plain}
use Rattle.serde_json.specs.View.{view}
use Rattle.ob_group.proofs.told_groups.key_json.Goals as goal

pub returns-in-Refs-clause-plain : goal.returns-in-Refs-clause-plain
returns-in-Refs-clause-plain c = IfOk-weaker c.ids_json.result _ _ (λ json told. value_plain (value.Refs c.in-Refs.ids) (view json) told)
    (subst (λ (ids : List RecId). IfOk c.ids_json.result (λ json. view json ≡ list_json (map id_json ids))) c.as_slice.ensures.same c.ids_json.ensures)
