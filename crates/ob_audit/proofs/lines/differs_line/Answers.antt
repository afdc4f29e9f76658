use Rattle.std.proofs.Common.{decimal, ◌∙◌}
use Rattle.std.specs.Prelude.{codes}
use Rattle.ob_audit.proofs.LineTexts.{eleven}
use Rattle.ob_audit.proofs.lines.differs_line.Goals as goal

pub returns : goal.returns
returns c =
    c.new.ensures ∙ c.in_ok-format.ensures.ok
    ∙ eleven c.args.model.now (codes ".") c.args.field.now (codes " ") (decimal c.args.rows) (codes " differs at ") (decimal c.args.id.0) (codes ": kept ") c.args.kept.now (codes " scratch ") c.args.scratch.now
