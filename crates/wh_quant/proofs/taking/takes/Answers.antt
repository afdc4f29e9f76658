use Rattle.std.proofs.Common.{◌≡◌, List, map, nat_eq, to_z, of_z, w64, pos}
use Rattle.std.specs.List.{All, IsDistinct}
use Rattle.std.specs.Int.{int_min, int_max}
use Rattle.std.proofs.lemmas.Int.{to_z-of_z}
use Rattle.std.proofs.lemmas.Result.{IfOk-weaker}
use Rattle.wh_quant.specs.declared.stock.Take.{Take}
use Rattle.wh_quant.specs.Sums.{total}
use Rattle.wh_quant.specs.Takes.{IsRanked, takes_from, IsTakeOf}
use Rattle.wh_quant.proofs.Sorting.{behind}
use Rattle.wh_quant.proofs.Taken.{ranked_free, taken_within, taken_whole}
use Rattle.wh_quant.proofs.Only.{taken_only, takes_apart}
use Rattle.wh_quant.proofs.taking.takes.Goals as goal

pub given-requires : goal.given-requires
given-requires c = rw c.as_slice.ensures.value (ranked_free c.args.order c.args.free.now (map behind c.in_ok-candidates.candidates.items) c.in_ok-candidates.ensures)

pub returns-clause-within : goal.returns-clause-within
returns-clause-within c =
    let order : IsRanked c.args.order c.args.free.now (map behind c.as_slice.result.now) = rw c.as_slice.ensures.value c.in_ok-candidates.ensures in
    IfOk-weaker c.given.result (λ (taken : List Take). taken ≡ takes_from (to_z w64 (of_z w64 c.args.want)) (map behind c.as_slice.result.now)) (All (IsTakeOf c.args.free.now))
    (λ taken is. rw is (taken_within c.args.order c.args.free.now (map behind c.as_slice.result.now) order (to_z w64 (of_z w64 c.args.want)))) c.given.ensures

pub returns-clause-whole : goal.returns-clause-whole
returns-clause-whole c =
    let order : IsRanked c.args.order c.args.free.now (map behind c.as_slice.result.now) = rw c.as_slice.ensures.value c.in_ok-candidates.ensures in
    IfOk-weaker c.given.result (λ (taken : List Take). taken ≡ takes_from (to_z w64 (of_z w64 c.args.want)) (map behind c.as_slice.result.now))
    (λ taken. total (λ t. t.amount) taken ≡ int_min (int_max (pos 0) c.args.want) (total (λ s. int_max (pos 0) s.free) c.args.free.now))
    (λ taken is. rw (is, to_z-of_z w64 c.args.want c.ranges.want) (taken_whole c.args.order c.args.free.now (map behind c.as_slice.result.now) order c.args.want))
    c.given.ensures

pub returns-clause-only : goal.returns-clause-only
returns-clause-only c distinct = taken_only c.args.order c.args.free.now distinct c.args.want

pub returns-in_err-candidates-clause-only : goal.returns-in_err-candidates-clause-only
returns-in_err-candidates-clause-only c distinct = taken_only c.args.order c.args.free.now distinct c.args.want

pub returns-clause-distinct : goal.returns-clause-distinct
returns-clause-distinct c distinct =
    let order : IsRanked c.args.order c.args.free.now (map behind c.as_slice.result.now) = rw c.as_slice.ensures.value c.in_ok-candidates.ensures in
    IfOk-weaker c.given.result (λ (taken : List Take). taken ≡ takes_from (to_z w64 (of_z w64 c.args.want)) (map behind c.as_slice.result.now))
    (λ taken. IsDistinct nat_eq (map (λ t. t.quant.0) taken))
    (λ taken is. rw is (takes_apart c.args.order c.args.free.now distinct (to_z w64 (of_z w64 c.args.want)) (map behind c.as_slice.result.now) order)) c.given.ensures
