-- What stands between the blanks.
use Rattle.std.proofs.Common.{arith, length, drop, take, ◌-◌}
use Rattle.std.proofs.lemmas.List.Sums.{prefix_len-le-length}
use Rattle.httparse.specs.Grammar.{is_ows}
use Rattle.ob_http.proofs.Trims.{trimmed_is, suffix_fits}
use Rattle.ob_http.proofs.text.trimmed.Goals as goal

pub slice_bounds-rest-count : goal.slice_bounds-rest-count
slice_bounds-rest-count c = omega (arith, prefix_len-le-length is_ows c.args.bytes.now)

pub slice_bounds-rest-start : goal.slice_bounds-rest-start
slice_bounds-rest-start c = omega (arith, prefix_len-le-length is_ows c.args.bytes.now)

pub slice_bounds-result-count : goal.slice_bounds-result-count
slice_bounds-result-count c = omega (arith, suffix_fits (take (length c.args.bytes.now - c.leading_blanks.result) (drop c.leading_blanks.result c.args.bytes.now)))

pub returns : goal.returns
returns c = trimmed_is c.args.bytes.now c.leading_blanks.result c.trailing_blanks.result c.leading_blanks.ensures c.trailing_blanks.ensures
