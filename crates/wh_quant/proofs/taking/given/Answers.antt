use Rattle.std.proofs.Common.{◌≡◌, pos, ◌<ℤ◌, ◌-ℤ◌, ◌<◌, length, map, arith, get_or, sym, ◌∙◌, ap, to_z, of_z, w64, FitsSigned, rules}
use Rattle.std.specs.Int.{int_min}
use Rattle.std.proofs.lemmas.Int.{ints, clamps, to_z-of_z}
use Rattle.std.proofs.lemmas.List.{length-map, get_or-map}
use Rattle.std.proofs.lemmas.List.Elements.{All-get_or}
use Rattle.wh_quant.specs.declared.stock.Stock.{Stock}
use Rattle.wh_quant.specs.Takes.{HasFree, takes_from}
use Rattle.wh_quant.proofs.Sorting.{behind}
use Rattle.wh_quant.proofs.Taken.{takes_turn, takes_end, takes_all, left_fits}
use Rattle.wh_quant.proofs.taking.given.Goals as goal

pub overflow_sub-left : goal.overflow_sub-left
overflow_sub-left c =
    let stock : Stock = c.stock-item.result.now in
    let is : stock ≡ get_or (map behind c.args.candidates.now) c.loop-stock.stock-index stock = ap behind c.stock-item.is ∙ sym
    (get_or-map behind c.args.candidates.now c.loop-stock.stock-index c.stock-item.result stock c.loop-stock-test.true) in
    let within : c.loop-stock.stock-index < length (map behind c.args.candidates.now) = rw length-map c.loop-stock-test.true in
    let free : pos 0 <ℤ stock.free = rw is (All-get_or HasFree (map behind c.args.candidates.now) c.loop-stock.stock-index stock within c.requires) in
    left_fits (to_z w64 c.loop-stock.left-bits) stock.free (to_z w64 (of_z w64 c.min-amount.result)) (search rules) (grind (arith, ints)) free (omega (arith, ints, clamps, c.min-amount.ensures.value))

pub loop-stock-preserved : goal.loop-stock-preserved
loop-stock-preserved c =
    let stock : Stock = c.stock-item.result.now in
    let left = to_z w64 c.loop-stock.left-bits in
    let amount = to_z w64 (of_z w64 c.min-amount.result) in
    let within : c.loop-stock.stock-index < length (map behind c.args.candidates.now) = rw length-map c.loop-stock-test.true in
    let is : stock ≡ get_or (map behind c.args.candidates.now) c.loop-stock.stock-index stock = ap behind c.stock-item.is ∙ sym
    (get_or-map behind c.args.candidates.now c.loop-stock.stock-index c.stock-item.result stock c.loop-stock-test.true) in
    let some : pos 0 <ℤ to_z w64 c.loop-stock.left-bits = grind (arith, ints) in
    let least : to_z w64 (of_z w64 c.min-amount.result) ≡ int_min stock.free (to_z w64 c.loop-stock.left-bits) = omega (arith, ints, clamps, c.min-amount.ensures.value) in
    let free : pos 0 <ℤ stock.free = rw is (All-get_or HasFree (map behind c.args.candidates.now) c.loop-stock.stock-index stock within c.requires) in
    let fits : FitsSigned w64 (to_z w64 c.loop-stock.left-bits -ℤ to_z w64 (of_z w64 c.min-amount.result)) = left_fits left stock.free amount (search rules) some free least in
    takes_turn (to_z w64 (of_z w64 c.args.want)) left amount (to_z w64 (of_z w64 (to_z w64 c.loop-stock.left-bits -ℤ to_z w64 (of_z w64 c.min-amount.result))))
    (map behind c.args.candidates.now) c.loop-stock.stock-index stock c.loop-stock.taken c.push.new.self c.requires within is some least (to_z-of_z w64 _ fits)
    c.in_ok-push.ensures.ok c.loop-stock.invariant

pub returns-then-left-le0 : goal.returns-then-left-le0
returns-then-left-le0 c = takes_end (to_z w64 (of_z w64 c.args.want)) (to_z w64 c.loop-stock.left-bits) (map behind c.args.candidates.now) c.loop-stock.stock-index
    c.loop-stock.taken c.requires (grind (arith, ints)) c.loop-stock.invariant ∙ ap (λ want. takes_from want (map behind c.args.candidates.now))
    (to_z-of_z w64 c.args.want c.ranges.want)

pub returns : goal.returns
returns c = takes_all (to_z w64 (of_z w64 c.args.want)) (to_z w64 c.loop-stock.left-bits) (map behind c.args.candidates.now) c.loop-stock.stock-index c.loop-stock.taken
    (rw length-map (omega arith)) c.loop-stock.invariant ∙ ap (λ want. takes_from want (map behind c.args.candidates.now)) (to_z-of_z w64 c.args.want c.ranges.want)
