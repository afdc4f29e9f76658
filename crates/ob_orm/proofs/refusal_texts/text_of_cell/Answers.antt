use Rattle.std.proofs.Common.{decimal, ◌∙◌}
use Rattle.std.proofs.lemmas.Result.{IfOk-weaker}
use Rattle.ob_orm.proofs.RefusalTexts.{broken_at}
use Rattle.ob_orm.specs.RefusalText.{field_name, model_name}
use Rattle.ob_orm.proofs.refusal_texts.text_of_cell.Goals as goal

pub returns : goal.returns
returns c =
    let cell = c.args.cell in
    let model = model_name c.args.schema.now cell.model in
    let field = field_name c.args.schema.now cell.model cell.field in
    IfOk-weaker c.format.result _ _
    (λ s e. e ∙ broken_at c.model_name-model.result.now model (decimal cell.id.0) c.field_name-field.result.now field c.model_name-model.ensures c.field_name-field.ensures)
    c.format.ensures.ok
