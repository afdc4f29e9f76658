use Rattle.std.proofs.Common.{◌++◌, List, Option, ap, subst, ◌∙◌}
use Rattle.std.specs.Prelude.{IfSome}
use Rattle.std.specs.List.{filter_map}
use Rattle.ob_base.specs.declared.value.Value.{Value}
use Rattle.ob_audit.proofs.OneRead.{one-read}
use Rattle.ob_audit.specs.Reading.{IsTold, entries, given_of, stored_of}
use Rattle.ob_schema.specs.Models.{model_at}
use Rattle.ob_audit.proofs.kept_rows.read_row.Goals as goal

pub returns-clause-read : goal.returns-clause-read
returns-clause-read c =
    let models = c.args.schema.now in
    let model = c.args.model in
    let row = c.args.row.now in
    let fields = c.fields-fields.result.now in
    let values = c.in-Some.values in
    let told = subst (λ (o : Option (List Value)). IfSome (model_at models model) (λ info. IsTold c.args.next info row o)) c.in-Some.is c.in_ok-values.ensures in
    one-read models model c.args.next row fields values c.in_ok-plain.plain c.args.rows.now c.add_stored.new.rows c.requires c.fields-fields.ensures.same told
    (c.in_ok-plain.ensures ∙ ap (λ (vs : List Value). filter_map given_of (entries fields vs)) c.as_slice.ensures)
    (c.add_stored.ensures.edits ∙ c.in_ok-push.ensures.ok)
    (c.in_ok-add_stored.ensures.stored ∙ ap (λ (vs : List Value). c.args.rows.now.stored ++ filter_map (stored_of model row.id) (entries fields vs)) c.as_slice-2.ensures)
