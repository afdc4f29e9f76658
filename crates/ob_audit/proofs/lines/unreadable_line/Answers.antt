use Rattle.std.proofs.Common.{decimal, ◌∙◌}
use Rattle.ob_audit.specs.Report.{model_name}
use Rattle.ob_audit.proofs.LineTexts.{unreadable_as}
use Rattle.ob_audit.proofs.lines.unreadable_line.Goals as goal

pub returns : goal.returns
returns c =
    let cell = c.args.cell in
    c.new.ensures ∙ c.in_ok-format.ensures.ok ∙ unreadable_as c.model_name-model.result.now (model_name c.args.schema.now cell.model) (decimal cell.id.0) c.model_name-model.ensures
