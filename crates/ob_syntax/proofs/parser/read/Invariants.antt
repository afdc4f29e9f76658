use Rattle.std.proofs.Common.{◌≡◌, ◌≤◌, Ok, [], length}
use Rattle.ob_base.specs.Limits.{max_expression_depth}
use Rattle.ob_syntax.specs.Parsing.{need, run, wanted}
use Rattle.ob_syntax.specs.Waits.{all_pending, state_of}
use Rattle.ob_syntax.proofs.parser.read.Given as goal

abbrev pub invariant-loop-token : goal.invariant-loop-token
invariant-loop-token l = record {
  same_end : l.lexer.end ≡ l.fn.lexer.end;
  goes_on : run max_expression_depth (Ok (wanted [])) l.fn.lexer.tokens ≡ run max_expression_depth (Ok (state_of (all_pending l.stack) l.state)) l.lexer.tokens;
  fits : need (state_of (all_pending l.stack) l.state) ≤ max_expression_depth;
}

abbrev pub decreases-loop-token : goal.decreases-loop-token
decreases-loop-token l = length l.lexer.tokens
