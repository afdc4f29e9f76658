use Rattle.std.proofs.Common.{◌≡◌, ◌<◌, ◌+◌, length, get_or, Option, Some, ℤ, List, FitsSigned, to_z, of_z, to_z-of_z, w64, sym, ap, ◌∙◌, arith, drop}
use Rattle.std.specs.Int.{int_max}
use Rattle.std.specs.Option.{option_map_or}
use Rattle.std.proofs.lemmas.Int.{ints}
use Rattle.ob_base.specs.declared.value.Value.{Value}
use Rattle.ob_base.specs.declared.value.Value.TheVariants as value
use Rattle.ob_group.proofs.ToldAmounts.{cell_of, column-end, column-next, greater_of, greatest-end, greatest-more}
use Rattle.ob_group.specs.GroupAmounts.{greatest, whole_of}
use Rattle.ob_group.specs.GroupValues.{column_of}
use Rattle.ob_group.proofs.amounts.greatest.Goals as goal

pub loop-row-preserved : goal.loop-row-preserved
loop-row-preserved c =
    let rows = c.args.rows.now in
    let number = c.args.number in
    let i = c.loop-row.row-index in
    let row = c.row-item.result in
    let before = c.loop-row.greatest in
    let lt : i < length rows = omega arith in
    let next = column-next number rows i row lt c.row-item.is in
    let rest : List Value = column_of number (drop (i + 1) rows) in
    let n : ℤ = whole_of (cell_of number row) in
    let fits : FitsSigned w64 c.greater.result = omega (arith, ints) in
    let own : FitsSigned w64 c.whole_at.result = omega (arith, ints) in
    let whole : c.whole_at.result ≡ n = c.whole_at.ensures ∙ ap (λ (l : List Value). whole_of (get_or l number value.Nil)) c.as_slice.ensures.value in
    let is : c.greater.result ≡ option_map_or (λ (other : ℤ). int_max other n) before n = c.greater.ensures ∙ ap (λ (x : ℤ). option_map_or (λ (other : ℤ). int_max other x) before x) (to_z-of_z own ∙ whole) in
    ap (λ (z : ℤ). greater_of (Some z) (greatest rest)) (to_z-of_z fits ∙ is) ∙ greatest-more before (greatest rest) n ∙ ap (λ (l : List Value). greater_of before (greatest l)) (sym next) ∙ c.loop-row.invariant

pub returns : goal.returns
returns c =
    sym (greatest-end c.loop-row.greatest) ∙ ap (λ (l : List Value). greater_of c.loop-row.greatest (greatest l)) (sym (column-end c.args.number c.args.rows.now c.loop-row.row-index c.loop-row-test.false)) ∙ c.loop-row.invariant
