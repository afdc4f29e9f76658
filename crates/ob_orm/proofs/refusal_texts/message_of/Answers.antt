use Rattle.std.proofs.Common.{decimal, ◌∙◌}
use Rattle.std.proofs.lemmas.Result.{IfOk-weaker}
use Rattle.ob_orm.proofs.RefusalTexts.{no_right_on, not_there}
use Rattle.ob_orm.specs.RefusalText.{field_name, model_name}
use Rattle.ob_orm.proofs.refusal_texts.message_of.Goals as goal

pub returns-in-FieldRight : goal.returns-in-FieldRight
returns-in-FieldRight c =
    let i = c.in-FieldRight.is in let schema = c.args.schema.now in
    let model = model_name schema c.in-FieldRight.model in
    let field = field_name schema c.in-FieldRight.model c.in-FieldRight.field in
    rw i (IfOk-weaker c.format-in-FieldRight.result _ _
    (λ s e. e ∙ no_right_on c.model_name-model-in-FieldRight.result.now model c.field_name-field.result.now field c.model_name-model-in-FieldRight.ensures c.field_name-field.ensures)
    c.format-in-FieldRight.ensures.ok)

pub returns-in-Missing : goal.returns-in-Missing
returns-in-Missing c =
    let i = c.in-Missing.is in
    let model = model_name c.args.schema.now c.in-Missing.model in
    rw i (IfOk-weaker c.format-in-Missing.result _ _
    (λ s e. e ∙ not_there c.model_name-model-in-Missing.result.now model (decimal c.in-Missing.id.0) c.model_name-model-in-Missing.ensures)
    c.format-in-Missing.ensures.ok)
