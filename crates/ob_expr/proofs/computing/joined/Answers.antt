use Rattle.std.proofs.Common.{arith, string_bytes}
use Rattle.ob_expr.proofs.Texts.{joined_too_long}
use Rattle.ob_expr.proofs.computing.joined.Goals as goal

pub returns-then-len : goal.returns-then-len
returns-then-len g c =
    joined_too_long c.args.values.now c.loop-value.value-index c.value-item.result c.in-Word.word (string_bytes c.loop-value.text) c.loop-value-test.true c.value-item.is c.in-Word.is
    c.loop-value.invariant.0 (omega arith) c.loop-value.invariant.1
