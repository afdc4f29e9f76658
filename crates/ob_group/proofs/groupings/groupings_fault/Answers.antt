use Rattle.std.proofs.Common.{◌≡◌, [], refl, ◌∙◌}
use Rattle.std.proofs.lemmas.Result.{IfOk-weaker}
use Rattle.ob_call.specs.Forms.{fields_at}
use Rattle.ob_query.proofs.CallerLemmas.{by_items}
use Rattle.ob_group.specs.GroupForms.{first_wrong_grouping, groupings_fault}
use Rattle.ob_group.proofs.groupings.groupings_fault.Goals as goal

pub returns-in-Array : goal.returns-in-Array
returns-in-Array c =
    let fields = fields_at c.args.schema.now c.args.model in
    let items = c.in-Array.items in
    IfOk-weaker c.first_wrong_grouping.result _ _
    (λ fault told. told ∙ by_items (groupings_fault fields) (first_wrong_grouping fields [] 0) c.args.json.now items c.as_slice.result.now c.in-Array.is c.as_slice.ensures.value refl)
    c.first_wrong_grouping.ensures
