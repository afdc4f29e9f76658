use Rattle.std.proofs.Common.{◌≡◌, ◌∷◌, [], ℤ, ap, ◌∙◌, eqb, of_z, rules}
use Rattle.std.specs.Prelude.{FitsSigned}
use Rattle.std.specs.Int.{w128}
use Rattle.std.specs.Map.Iter.{deref_pair}
use Rattle.std.proofs.lemmas.Int.{to_z-of_z}
use Rattle.std.proofs.lemmas.Map.Iter.{rest_all, rest_more}
use Rattle.ob_audit.specs.Report.{sum_line}
use Rattle.ob_audit.specs.Sums.{Goods}
use Rattle.ob_audit.proofs.Totals.{lines-more, lines-end, zero-more, zero-end, zero-from, zero-back}
use Rattle.ob_audit.proofs.sums.add_sums.Goals as goal

pub loop-product-preserved : goal.loop-product-preserved
loop-product-preserved c =
    let from = c.loop-product.product-iterator in
    let left = c.next.new.self in
    let one : Goods = (c.in-Some.product.now, c.in-Some.total.now) in
    let is : from ≡ one ∷ left = rest_more deref_pair from left c.next.result (c.in-Some.product, c.in-Some.total) c.in-Some.is c.next.ensures.steps in
    let fits : FitsSigned w128 c.in-Some.total.now = search rules in
    record {
      lines = lines-more c.loop-product.report.lines c.add.new.self.lines one c.in_ok-line.line from left _ is c.in_ok-add.ensures.lines
          (c.in_ok-line.ensures ∙ ap (λ (z : ℤ). sum_line (c.in-Some.product.now, z)) (to_z-of_z w128 c.in-Some.total.now fits)) c.loop-product.invariant.lines;
      equal = zero-more c.loop-product.report.equal c.add.new.self.equal (eqb (of_z w128 c.in-Some.total.now) 0) one from left _ is c.in_ok-add.ensures.equal
          (zero-from c.in-Some.total.now fits) (zero-back c.in-Some.total.now) c.loop-product.invariant.equal;
    }

pub returns : goal.returns
returns c =
    let old = c.args.report.now in
    let new = c.loop-product.report in
    let from = c.loop-product.product-iterator in
    let whole = c.into_iter-product-iterator.result in
    let none : from ≡ [] = rest_all deref_pair from c.next.new.self c.next.result c.in-None.is c.next.ensures.steps in
    let all : whole ≡ c.in_ok-totals.totals.entries = c.into_iter-product-iterator.ensures.into_iter_gives ∙ c.iter-product-items.ensures.rest in
    record {
      totals = c.in_ok-totals.totals.entries;
      are = c.in_ok-totals.ensures;
      lines = lines-end old.lines new.lines from whole c.in_ok-totals.totals.entries none all c.loop-product.invariant.lines;
      equal = zero-end old.equal new.equal from whole c.in_ok-totals.totals.entries none all c.loop-product.invariant.equal;
    }
