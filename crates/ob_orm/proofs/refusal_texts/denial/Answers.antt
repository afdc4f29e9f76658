use Rattle.std.proofs.Common.{decimal, ◌∙◌}
use Rattle.std.proofs.lemmas.Result.{IfOk-weaker}
use Rattle.ob_base.specs.Names.{op_name}
use Rattle.ob_orm.proofs.RefusalTexts.{denied, denied_by}
use Rattle.ob_orm.specs.RefusalText.{model_name}
use Rattle.ob_orm.proofs.refusal_texts.denial.Goals as goal

pub returns-in-None : goal.returns-in-None
returns-in-None c =
    let i = c.in-None.is in let name = model_name c.args.schema.now c.args.model in
    rw i (IfOk-weaker c.format.result _ _ (λ s e. e ∙ denied c.model_name-model.result.now name (decimal c.args.id.0) c.model_name-model.ensures) c.format.ensures.ok)

pub returns-in-Some : goal.returns-in-Some
returns-in-Some c =
    let i = c.in-Some.is in let name = model_name c.args.schema.now c.args.model in
    rw i (IfOk-weaker c.format-in-Some.result _ _ (λ s e. e ∙ denied_by c.model_name-model.result.now name (decimal c.args.id.0) c.in-Some.rule (op_name c.args.op) c.model_name-model.ensures) c.format-in-Some.ensures.ok)
