use Rattle.std.proofs.Common.{◌≡◌, List, map, refl, ◌∙◌}
use Rattle.std.specs.Prelude.{option_and_then}
use Rattle.std.specs.List.{filter_map}
use Rattle.std.proofs.lemmas.Result.{IfOk-weaker}
use Rattle.ob_call.specs.Forms.{fields_at}
use Rattle.ob_query.proofs.CallerLemmas.{by_items}
use Rattle.ob_group.specs.GroupForms.{Entry, aggregates_in, entry_from}
use Rattle.serde_json.specs.Data.{Data}
use Rattle.ob_group.proofs.aggregates.aggregates_in.Goals as goal

pub returns-in-Array-clause-aggregates : goal.returns-in-Array-clause-aggregates
returns-in-Array-clause-aggregates c =
    let fields = fields_at c.args.schema.now c.args.model in
    let items = c.in-Array.items in
    IfOk-weaker c.aggregates_of.result _ _
    (λ aggregates told. told ∙ by_items (aggregates_in fields) (filter_map (λ (d : Data). option_and_then (λ (e : Entry). e) (entry_from fields d))) c.args.json.now items c.as_slice.result.now c.in-Array.is c.as_slice.ensures.value refl)
    c.aggregates_of.ensures.aggregates
