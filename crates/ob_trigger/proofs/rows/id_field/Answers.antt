-- Each model has the field, by its name.
use Rattle.std.proofs.Common.{◌≡◌, sym, ◌∙◌}
use Rattle.std.specs.Prelude.{codes}
use Rattle.ob_schema.specs.Models.{field_named, model_at}
use Rattle.ob_schema.specs.declared.info.ModelInfo.{ModelInfo}
use Rattle.ob_trigger.proofs.IdFields.{id-finds, id-found}
use Rattle.ob_trigger.proofs.Known.{is_there, known_if}
use Rattle.ob_trigger.proofs.rows.id_field.Goals as goal

pub returns : goal.returns
returns c =
    let models = c.args.schema.now in
    let r = is_there (model_at models c.args.model) c.requires in
    let named = known_if (model_at models c.args.model) r.0 (λ (info : ModelInfo). c.field.result ≡ field_named info.fields (codes "id")) r.1 c.field.ensures.named in
    id-found models c.args.model r.0 r.1 (c.parts_fit_together.ensures.each c.args.model r.0 r.1) c.in-Some.number (sym named ∙ c.in-Some.is)

pub unreachable-requires : goal.unreachable-requires
unreachable-requires c =
    let models = c.args.schema.now in
    let r = is_there (model_at models c.args.model) c.requires in
    let named = known_if (model_at models c.args.model) r.0 (λ (info : ModelInfo). c.field.result ≡ field_named info.fields (codes "id")) r.1 c.field.ensures.named in
    id-finds models c.args.model r.0 r.1 (c.parts_fit_together.ensures.each c.args.model r.0 r.1) (sym named ∙ c.in-None.is)
