use Rattle.std.proofs.Common.{◌≡◌, ◌<◌, ◌≤◌, ◌+◌, ◌∷◌, length, get_or, true, false, ℕ, List, sym, ap, subst, ◌∙◌, arith, drop}
use Rattle.std.specs.Prelude.{not}
use Rattle.ob_base.specs.declared.value.Value.{Value}
use Rattle.ob_base.specs.declared.value.Value.TheVariants as value
use Rattle.ob_domain.specs.Passing.{is_unset}
use Rattle.ob_group.proofs.ToldAmounts.{cell_of, column-next, count-set, unset-dropped}
use Rattle.ob_group.specs.GroupAmounts.{set_values}
use Rattle.ob_group.specs.GroupValues.{column_of}
use Rattle.ob_group.proofs.amounts.set_count.Goals as goal
use Rattle.ob_group.proofs.amounts.set_count.Goals.{then-is_set_at, else-is_set_at}

pub loop-row-preserved : goal.loop-row-preserved
loop-row-preserved c =
    let rows = c.args.rows.now in
    let number = c.args.number in
    let i = c.loop-row.row-index in
    let row = c.row-item.result in
    let lt : i < length rows = omega arith in
    let next = column-next number rows i row lt c.row-item.is in
    let rest : List Value = column_of number (drop (i + 1) rows) in
    let all : ℕ = length (set_values (column_of number rows)) in
    let test : c.is_set_at.result ≡ not (is_unset (cell_of number row)) = c.is_set_at.ensures ∙ ap (λ (l : List Value). not (is_unset (get_or l number value.Nil))) c.as_slice.ensures.value in
    let so_far : c.loop-row.count + length (set_values (cell_of number row ∷ rest)) ≡ all = ap (λ (l : List Value). c.loop-row.count + length (set_values l)) (sym next) ∙ c.loop-row.invariant.counted in
    elim c.if-is_set_at.branch [
      | then-is_set_at w ↦ (let is = w.count-is in record { counted = ap (λ (n : ℕ). n + length (set_values rest)) is ∙ count-set all c.loop-row.count (cell_of number row) rest (sym test ∙ w.if-is_set_at.true) so_far; few = omega (arith, is) })
      | else-is_set_at w ↦ (let is = w.count-is in record {
        counted = ap (λ (n : ℕ). n + length (set_values rest)) is
            ∙ ap (λ (l : List Value). c.loop-row.count + length l) (sym (unset-dropped (cell_of number row) rest (sym test ∙ w.if-is_set_at.false))) ∙ so_far;
        few = omega (arith, is);
      })
    ]
