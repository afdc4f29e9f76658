-- The digits begin after the zeros.
use Rattle.std.proofs.Common.{arith}
use Rattle.std.proofs.lemmas.List.Sums.{prefix_len-le-length}
use Rattle.ob_http.proofs.Decimals.{is_zero}
use Rattle.ob_http.proofs.length.number_digits.Goals as goal

pub slice_bounds-result-count : goal.slice_bounds-result-count
slice_bounds-result-count c = omega (arith, prefix_len-le-length is_zero c.args.text.now)

pub slice_bounds-result-start : goal.slice_bounds-result-start
slice_bounds-result-start c = omega (arith, prefix_len-le-length is_zero c.args.text.now)
