use Rattle.std.proofs.Common.{rules, ap, ◌∙◌, pos, arith}
use Rattle.std.specs.Prelude.{int_lt}
use Rattle.std.specs.List.{filter}
use Rattle.std.specs.Ordering.{is_lt}
use Rattle.std.proofs.lemmas.Fn.{always_returns_same}
use Rattle.std.proofs.lemmas.List.{take_all}
use Rattle.std.proofs.lemmas.List.Sorted.{ranks_by}
use Rattle.wh_quant.specs.declared.stock.Stock.{Stock}
use Rattle.wh_quant.specs.Takes.{removal_cmp}
use Rattle.wh_quant.proofs.Removals.{removal_cmp_total}
use Rattle.wh_quant.proofs.Sorting.{behind, IsRanked-sorted}
use Rattle.wh_quant.proofs.taking.ranked.Goals as goal

pub returns : goal.returns
returns c =
    IsRanked-sorted c.args.order c.args.free.now c.loop-stock.candidates.items c.sort_by.new.self.items
    (c.loop-stock.invariant ∙ ap (filter (λ (s : Stock). int_lt (pos 0) s.free)) (take_all c.loop-stock.stock-index c.args.free.now (omega arith)))
    c.sort_by.ensures.permutation
    (c.in_ok-sort_by.ensures.sorted (λ x y. is_lt (removal_cmp c.args.order (behind x) (behind y))) (ranks_by (removal_cmp_total c.args.order) behind)
    (always_returns_same _ _ _ (λ a r q k. search rules)))
