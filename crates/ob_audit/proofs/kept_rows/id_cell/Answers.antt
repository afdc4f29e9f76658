use Rattle.std.proofs.Common.{◌≡◌, sym, ◌∙◌}
use Rattle.std.specs.Prelude.{codes}
use Rattle.ob_audit.proofs.IdFields.{id-found, id-there}
use Rattle.ob_schema.specs.Models.{field_named, model_at}
use Rattle.ob_tables.proofs.CallerLemmas.{is_there, known_if}
use Rattle.ob_audit.proofs.kept_rows.id_cell.Goals as goal

pub unreachable-requires : goal.unreachable-requires
unreachable-requires c =
    let models = c.args.schema.now in
    let info = is_there (model_at models c.args.model) c.requires in
    let found = known_if (model_at models c.args.model) info.0 (λ i. c.field.result ≡ field_named i.fields (codes "id")) info.1 c.field.ensures.named in
    id-there models c.parts_fit_together.ensures c.args.model info.0 info.1 (sym found ∙ c.in-None.is)

pub returns-clause-field : goal.returns-clause-field
returns-clause-field c =
    let models = c.args.schema.now in
    let info = is_there (model_at models c.args.model) c.requires in
    let found = known_if (model_at models c.args.model) info.0 (λ i. c.field.result ≡ field_named i.fields (codes "id")) info.1 c.field.ensures.named in
    id-found models c.parts_fit_together.ensures c.args.model info.0 info.1 c.in-Some.field (sym found ∙ c.in-Some.is)
