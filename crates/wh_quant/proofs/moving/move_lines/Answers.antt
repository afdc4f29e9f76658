use Rattle.std.proofs.Common.{◌≡◌, get_or, None, false, pos, sym, ◌∙◌, ap, arith, to_z, of_z, w64}
use Rattle.std.proofs.lemmas.Int.{to_z-of_z}
use Rattle.std.proofs.lemmas.Option.{slice_get-get_or}
use Rattle.std.proofs.lemmas.Result.{err_from_is_err_and}
use Rattle.wh_quant.specs.declared.quant.Line.{Line}
use Rattle.wh_quant.specs.Indexed.{holdings_of}
use Rattle.wh_quant.specs.Moves.{Holdings, after_line}
use Rattle.wh_quant.proofs.Runs.{next-after_line, holdings_after-more, AllMove-more, short_at, overflow_at, moved_all}
use Rattle.wh_quant.proofs.Laws.{moved_sums, moved_rising, moved_ids, moved_covered, moved_quantities, moved_reservations}
use Rattle.wh_quant.proofs.Touched.{left_beside}
use Rattle.wh_quant.proofs.Single.{moved_single}
use Rattle.wh_quant.proofs.Only.{moved_only, fault_only, moved_without_fault}
use Rattle.wh_quant.proofs.moving.move_lines.Goals as goal

-- where a list has no line
abbrev none : Line
none = record { product = record { 0 = 0 }; from = record { 0 = 0 }; to = record { 0 = 0 }; lot = None; amount = pos 0; guarded_from = false; guarded_to = false }

pub returns-in_err-move_line-clause-short : goal.returns-in_err-move_line-clause-short
returns-in_err-move_line-clause-short c i q told =
    let p = err_from_is_err_and c.from_residual-in_err-move_line.result c.from_residual-in_err-move_line.ensures.1 in
    let short = c.in_err-move_line.ensures.short i q (cc (p.1, p.2, told)) in
    rw short.0 (short_at c.args.now _ c.args.next c.args.quants.now c.args.lines.now (holdings_of c.in_ok-stock.stock) (holdings_of c.loop-number.stock) c.loop-number.number
    (get_or c.args.lines.now c.loop-number.number none) q
    (to_z-of_z w64 c.args.now c.ranges.now) c.in_ok-stock.ensures.start c.loop-number.invariant.is c.loop-number.invariant.each
    (slice_get-get_or c.args.lines.now c.loop-number.number none c.loop-number-test.true) short.1 short.2)

pub returns-in_err-move_line-clause-overflow : goal.returns-in_err-move_line-clause-overflow
returns-in_err-move_line-clause-overflow c i q told =
    let p = err_from_is_err_and c.from_residual-in_err-move_line.result c.from_residual-in_err-move_line.ensures.1 in
    let over = c.in_err-move_line.ensures.overflow i q (cc (p.1, p.2, told)) in
    rw over.0 (overflow_at c.args.now _ c.args.next c.args.quants.now c.args.lines.now (holdings_of c.in_ok-stock.stock) (holdings_of c.loop-number.stock) c.loop-number.number
    (get_or c.args.lines.now c.loop-number.number none) q
    (to_z-of_z w64 c.args.now c.ranges.now) c.in_ok-stock.ensures.start c.loop-number.invariant.is c.loop-number.invariant.each
    (slice_get-get_or c.args.lines.now c.loop-number.number none c.loop-number-test.true) over.1 over.2)

pub loop-number-preserved : goal.loop-number-preserved
loop-number-preserved c =
    let line = get_or c.args.lines.now c.loop-number.number none in
    let one : c.move_line.new.stock.next ≡ (after_line (to_z w64 (of_z w64 c.args.now)) (holdings_of c.loop-number.stock) line).next = ap (λ (stock : Holdings). stock.next)
    c.in_ok-move_line.ensures.moved in
    let most = next-after_line (to_z w64 (of_z w64 c.args.now)) (holdings_of c.loop-number.stock) line in
    record {
      indexed = c.in_ok-move_line.ensures.still;
      is = holdings_after-more _ (holdings_of c.in_ok-stock.stock) (holdings_of c.loop-number.stock) (holdings_of c.move_line.new.stock) c.args.lines.now c.loop-number.number none
          c.loop-number-test.true c.loop-number.invariant.is c.in_ok-move_line.ensures.moved;
      each = AllMove-more _ (holdings_of c.in_ok-stock.stock) c.args.lines.now c.loop-number.number line c.loop-number.invariant.each
          (slice_get-get_or c.args.lines.now c.loop-number.number none c.loop-number-test.true) (rw (sym c.loop-number.invariant.is) c.in_ok-move_line.ensures.moves);
      next = omega (arith, one, most, c.loop-number.invariant.next);
    }

pub returns-in_err-stock-clause-only : goal.returns-in_err-stock-clause-only
returns-in_err-stock-clause-only c = moved_only c.args.now c.args.next c.args.quants.now c.args.lines.now

pub returns-in_err-move_line-clause-only : goal.returns-in_err-move_line-clause-only
returns-in_err-move_line-clause-only c = moved_only c.args.now c.args.next c.args.quants.now c.args.lines.now

pub returns-in_err-touched-clause-only : goal.returns-in_err-touched-clause-only
returns-in_err-touched-clause-only c = moved_only c.args.now c.args.next c.args.quants.now c.args.lines.now

pub returns-in_err-left_after-clause-only : goal.returns-in_err-left_after-clause-only
returns-in_err-left_after-clause-only c = moved_only c.args.now c.args.next c.args.quants.now c.args.lines.now

pub returns-clause-only : goal.returns-clause-only
returns-clause-only c = moved_only c.args.now c.args.next c.args.quants.now c.args.lines.now

pub returns-in_err-stock-clause-only_fault : goal.returns-in_err-stock-clause-only_fault
returns-in_err-stock-clause-only_fault c = fault_only c.args.now c.args.next c.args.quants.now c.args.lines.now

pub returns-in_err-move_line-clause-only_fault : goal.returns-in_err-move_line-clause-only_fault
returns-in_err-move_line-clause-only_fault c = fault_only c.args.now c.args.next c.args.quants.now c.args.lines.now

pub returns-in_err-touched-clause-only_fault : goal.returns-in_err-touched-clause-only_fault
returns-in_err-touched-clause-only_fault c = fault_only c.args.now c.args.next c.args.quants.now c.args.lines.now

pub returns-in_err-left_after-clause-only_fault : goal.returns-in_err-left_after-clause-only_fault
returns-in_err-left_after-clause-only_fault c = fault_only c.args.now c.args.next c.args.quants.now c.args.lines.now

pub returns-clause-only_fault : goal.returns-clause-only_fault
returns-clause-only_fault c = fault_only c.args.now c.args.next c.args.quants.now c.args.lines.now

pub returns-in_err-stock-clause-apart : goal.returns-in_err-stock-clause-apart
returns-in_err-stock-clause-apart c = moved_without_fault c.args.now c.args.next c.args.quants.now c.args.lines.now

pub returns-in_err-move_line-clause-apart : goal.returns-in_err-move_line-clause-apart
returns-in_err-move_line-clause-apart c = moved_without_fault c.args.now c.args.next c.args.quants.now c.args.lines.now

pub returns-in_err-touched-clause-apart : goal.returns-in_err-touched-clause-apart
returns-in_err-touched-clause-apart c = moved_without_fault c.args.now c.args.next c.args.quants.now c.args.lines.now

pub returns-in_err-left_after-clause-apart : goal.returns-in_err-left_after-clause-apart
returns-in_err-left_after-clause-apart c = moved_without_fault c.args.now c.args.next c.args.quants.now c.args.lines.now

pub returns-clause-apart : goal.returns-clause-apart
returns-clause-apart c = moved_without_fault c.args.now c.args.next c.args.quants.now c.args.lines.now

pub returns-clause-moved : goal.returns-clause-moved
returns-clause-moved c =
    moved_all c.args.now _ c.args.next c.args.quants.now c.args.lines.now (holdings_of c.in_ok-stock.stock) (holdings_of c.loop-number.stock) c.loop-number.number c.in_ok-left_after.field-0
    (to_z-of_z w64 c.args.now c.ranges.now) c.in_ok-stock.ensures.start c.loop-number.invariant.is c.loop-number.invariant.each (omega arith)
    (c.in_ok-left_after.ensures ∙ rw c.as_slice.ensures.value (left_beside c.args.lines.now c.in_ok-touched.touched c.loop-number.stock.quants.items c.in_ok-touched.ensures))

pub returns-clause-rising : goal.returns-clause-rising
returns-clause-rising c = moved_rising c.args.now c.args.next c.args.quants.now c.args.lines.now c.in_ok-left_after.field-0 (returns-clause-moved c) c.requires.below

pub returns-clause-new_ids : goal.returns-clause-new_ids
returns-clause-new_ids c = moved_ids c.args.now c.args.next c.args.quants.now c.args.lines.now c.in_ok-left_after.field-0 (returns-clause-moved c) c.requires.below

pub returns-clause-sums : goal.returns-clause-sums
returns-clause-sums c = moved_sums c.args.now c.args.next c.args.quants.now c.args.lines.now c.in_ok-left_after.field-0 (returns-clause-moved c)

pub returns-clause-covered : goal.returns-clause-covered
returns-clause-covered c = moved_covered c.args.now c.args.next c.args.quants.now c.args.lines.now c.in_ok-left_after.field-0 (returns-clause-moved c)

pub returns-clause-quantities : goal.returns-clause-quantities
returns-clause-quantities c = moved_quantities c.args.now c.args.next c.args.quants.now c.args.lines.now c.in_ok-left_after.field-0 (returns-clause-moved c)

pub returns-clause-reservations : goal.returns-clause-reservations
returns-clause-reservations c = moved_reservations c.args.now c.args.next c.args.quants.now c.args.lines.now c.in_ok-left_after.field-0 (returns-clause-moved c)

pub returns-clause-single : goal.returns-clause-single
returns-clause-single c = moved_single c.args.now c.args.next c.args.quants.now c.args.lines.now c.in_ok-left_after.field-0 (returns-clause-moved c)
