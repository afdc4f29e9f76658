use Rattle.std.proofs.lemmas.Result.{err_from_is_err_and}
use Rattle.ob_base.specs.Limits.{max_expression_depth}
use Rattle.ob_syntax.specs.Lexemes.{lexeme_of}
use Rattle.ob_syntax.specs.Waits.{all_pending, state_of}
use Rattle.ob_syntax.proofs.Parsed.{parsed-stops}
use Rattle.ob_syntax.proofs.parser.read.Goals as goal

pub returns-in_err-state : goal.returns-in_err-state
returns-in_err-state c =
    let p = err_from_is_err_and c.from_residual.result c.from_residual.ensures.1 in
    rw (p.1, p.2) (λ not_memory. parsed-stops max_expression_depth c.args.lexer.end c.args.lexer.tokens c.loop-token.lexer.tokens c.next.new.self.tokens (state_of (all_pending c.loop-token.stack) c.loop-token.state)
    (lexeme_of c.in-Some.token) c.in_err-state.field-0.0 c.loop-token.invariant.goes_on c.in-Some.ensures.token (c.in_err-state.ensures not_memory))
