use Rattle.std.proofs.Common.{◌∙◌, arith}
use Rattle.ob_server.proofs.LineLaws.{feed_at-from_first, feed_at-le-length}
use Rattle.ob_server.proofs.lines.line_len.Goals as goal

pub returns : goal.returns
returns c =
    let value = c.unwrap_or.ensures ∙ feed_at-from_first c.args.bytes.now c.memchr.result c.memchr.ensures in
    record { value = value; bound = omega (arith, value, feed_at-le-length c.args.bytes.now) }
