use Rattle.std.proofs.Common.{◌≡◌, refl, ◌∙◌}
use Rattle.std.proofs.lemmas.Result.{IfOk-weaker}
use Rattle.ob_call.specs.Forms.{fields_at}
use Rattle.ob_query.proofs.CallerLemmas.{by_items}
use Rattle.ob_group.specs.GroupForms.{aggregates_fault, first_wrong_entry, taken_keys}
use Rattle.ob_group.specs.GroupParts.{written_view}
use Rattle.ob_group.proofs.aggregates.aggregates_fault.Goals as goal

pub returns : goal.returns
returns c =
    let fields = fields_at c.args.schema.now c.args.model in
    let written = written_view c.args.written.now in
    let keys = taken_keys written in
    IfOk-weaker c.first_wrong_entry.result _ _
    (λ fault told. told keys c.in_ok-taken.ensures ∙ by_items (aggregates_fault fields written) (first_wrong_entry fields keys 0) c.args.json.now c.in-Array.items c.as_slice.result.now c.in-Array.is c.as_slice.ensures.value refl)
    c.first_wrong_entry.ensures
