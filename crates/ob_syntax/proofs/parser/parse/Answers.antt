use Rattle.ob_base.specs.Limits.{max_expression_depth}
use Rattle.ob_base.specs.declared.expr_fault.ExprFault.TheVariants.{At, TooDeep}
use Rattle.ob_syntax.proofs.Spelling.{parsed-whole}
use Rattle.ob_syntax.proofs.Parsed.{tree-answer, depth-answer, fault-answer, whole-answer}
use Rattle.ob_syntax.proofs.parser.parse.Goals as goal

pub returns-clause-spelled : goal.returns-clause-spelled
returns-clause-spelled c = rw c.new.ensures.tokens at (tree-answer c.new.result.end c.new.result.tokens c.read.result c.read.ensures)

pub returns-clause-shallow : goal.returns-clause-shallow
returns-clause-shallow c = depth-answer c.new.result.end c.new.result.tokens c.read.result c.read.ensures

pub returns-clause-complete : goal.returns-clause-complete
returns-clause-complete c = λ tree spelled shallow.
    let whole = parsed-whole max_expression_depth c.new.result.end tree c.new.result.tokens (rw c.new.ensures.tokens spelled) shallow in
    whole-answer _ tree c.read.result whole c.read.ensures

pub returns-clause-at : goal.returns-clause-at
returns-clause-at c = λ offset is.
    rw (c.new.ensures.tokens, c.new.ensures.end) at (fault-answer c.new.result.end c.new.result.tokens c.read.result (At offset) is (λ no. absurd (cc)) c.read.ensures)

pub returns-clause-too_deep : goal.returns-clause-too_deep
returns-clause-too_deep c = λ offset is.
    rw c.new.ensures.tokens at (fault-answer c.new.result.end c.new.result.tokens c.read.result (TooDeep offset) is (λ no. absurd (cc)) c.read.ensures)
