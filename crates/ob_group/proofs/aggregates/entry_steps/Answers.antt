use Rattle.std.proofs.Common.{◌≡◌, List, map, refl, ap, ◌∙◌}
use Rattle.std.specs.List.{filter_map}
use Rattle.std.proofs.lemmas.Result.{IfOk-weaker}
use Rattle.ob_call.specs.Forms.{fields_at}
use Rattle.ob_query.proofs.CallerLemmas.{by_items}
use Rattle.ob_group.specs.NamedGroups.{entry_field, entry_fields}
use Rattle.ob_schema.specs.Paths.{step_at}
use Rattle.ob_group.proofs.aggregates.entry_steps.Goals as goal

pub returns-in-Array : goal.returns-in-Array
returns-in-Array c =
    let fields = fields_at c.args.schema.now c.args.model in
    IfOk-weaker c.steps_of.result _ _
    (λ steps told. told ∙ ap (map (step_at c.args.model)) (by_items (entry_fields fields) (filter_map (entry_field fields)) c.args.json.now c.in-Array.items c.as_slice.result.now c.in-Array.is c.as_slice.ensures.value refl))
    c.steps_of.ensures
