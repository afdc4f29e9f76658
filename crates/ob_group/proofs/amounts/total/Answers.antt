use Rattle.std.proofs.Common.{◌≡◌, ◌<◌, ◌+◌, ◌∷◌, [], length, get_or, ℤ, ◌+ℤ◌, List, FitsSigned, to_z, of_z, to_z-of_z, w64, sym, ap, subst, ◌∙◌, arith, drop}
use Rattle.std.specs.Int.{w128}
use Rattle.std.proofs.lemmas.Int.{ints}
use Rattle.ob_base.specs.declared.value.Value.{Value}
use Rattle.ob_base.specs.declared.value.Value.TheVariants as value
use Rattle.ob_group.proofs.ToldAmounts.{cell_of, column-end, column-next, total-more}
use Rattle.ob_group.specs.GroupAmounts.{total, whole_of}
use Rattle.ob_group.specs.GroupValues.{column_of}
use Rattle.ob_group.proofs.amounts.total.Goals as goal

pub overflow_add-total : goal.overflow_add-total
overflow_add-total c = omega (arith, ints)

pub loop-row-preserved : goal.loop-row-preserved
loop-row-preserved c =
    let rows = c.args.rows.now in
    let number = c.args.number in
    let i = c.loop-row.row-index in
    let row = c.row-item.result in
    let old : ℤ = to_z w128 c.loop-row.total-bits in
    let n = c.whole_at.result in
    let lt : i < length rows = omega arith in
    let next = column-next number rows i row lt c.row-item.is in
    let rest : List Value = column_of number (drop (i + 1) rows) in
    let whole : n ≡ whole_of (cell_of number row) = c.whole_at.ensures ∙ ap (λ (l : List Value). whole_of (get_or l number value.Nil)) c.as_slice.ensures.value in
    let sum : ℤ = to_z w128 (of_z w128 (old +ℤ to_z w128 (of_z w128 (to_z w64 (of_z w64 n))))) in
    let new : sum ≡ old +ℤ n = omega (arith, ints) in
    let so_far : old +ℤ total (cell_of number row ∷ rest) ≡ total (column_of number rows) = ap (λ (l : List Value). old +ℤ total l) (sym next) ∙ c.loop-row.invariant.sum in
    record {
      sum = total-more (column_of number rows) rest (cell_of number row) old sum (new ∙ ap (λ (z : ℤ). old +ℤ z) whole) so_far;
      low = omega (arith, ints);
      high = omega (arith, ints);
    }

pub returns : goal.returns
returns c =
    let end = column-end c.args.number c.args.rows.now c.loop-row.row-index c.loop-row-test.false in
    let sum = c.loop-row.invariant.sum in
    let none : total (column_of c.args.number (drop c.loop-row.row-index c.args.rows.now)) ≡ total [] = ap total end in
    omega (arith, ints, sum, none)
