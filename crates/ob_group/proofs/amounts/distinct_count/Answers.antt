use Rattle.std.proofs.Common.{◌≡◌, ◌<◌, ◌+◌, ◌∷◌, [], length, get_or, List, true, false, sym, ap, subst, ◌∙◌, arith, drop}
use Rattle.std.specs.Prelude.{not}
use Rattle.ob_base.specs.declared.value.Value.{Value}
use Rattle.ob_base.specs.declared.value.Value.TheVariants as value
use Rattle.ob_domain.specs.Passing.{is_unset}
use Rattle.ob_group.proofs.ToldAmounts.{cell_of, column-end, column-next, set-kept, unset-dropped}
use Rattle.ob_group.proofs.Distinct.{HasKeys, HasKeys-more, HasKeys-none, distinct_keys}
use Rattle.ob_group.specs.GroupAmounts.{set_values}
use Rattle.ob_group.specs.GroupValues.{column_of}
use Rattle.ob_query.specs.SearchKeys.{rising}
use Rattle.ob_query.specs.declared.searching.order.Key.{Key}
use Rattle.ob_group.proofs.amounts.distinct_count.Goals as goal
use Rattle.ob_group.proofs.amounts.distinct_count.Goals.{then-is_set_at+in_ok-key_at+in_ok-insert, else-is_set_at}

pub loop-row-init : goal.loop-row-init
loop-row-init c = HasKeys-none (set_values (column_of c.args.number c.args.rows.now)) c.new-distinct.result c.new-distinct.ensures.empty

pub loop-row-preserved : goal.loop-row-preserved
loop-row-preserved c =
    let rows = c.args.rows.now in
    let number = c.args.number in
    let i = c.loop-row.row-index in
    let row = c.row-item.result in
    let cell = cell_of number row in
    let all = set_values (column_of number rows) in
    let rest : List Value = column_of number (drop (i + 1) rows) in
    let next : column_of number (drop i rows) ≡ cell ∷ rest = column-next number rows i row c.loop-row-test.true c.row-item.is in
    let so_far : HasKeys all (set_values (cell ∷ rest)) c.loop-row.distinct = subst (λ (l : List Value). HasKeys all (set_values l) c.loop-row.distinct) next c.loop-row.invariant in
    elim c.if-is_set_at.branch [
      | then-is_set_at+in_ok-key_at+in_ok-insert w ↦ (
          let set : not (is_unset cell) ≡ true = sym (c.is_set_at.ensures ∙ ap (λ (l : List Value). not (is_unset (get_or l number value.Nil))) c.as_slice.ensures.value) ∙ w.if-is_set_at.true in
          let key : w.in_ok-key_at.field-0 ≡ rising cell = w.in_ok-key_at.ensures ∙ ap (λ (l : List Value). rising (get_or l number value.Nil)) w.as_slice-then-is_set_at.ensures.value in
          subst (HasKeys all (set_values rest)) (sym w.distinct-is)
          (HasKeys-more all (set_values rest) cell c.loop-row.distinct w.insert.new.self (rw key at w.in_ok-insert.ensures.updates.0)
          (subst (λ (l : List Value). HasKeys all l c.loop-row.distinct) (set-kept cell rest set) so_far)))
      | else-is_set_at w ↦ (
          let unset : not (is_unset cell) ≡ false = sym (c.is_set_at.ensures ∙ ap (λ (l : List Value). not (is_unset (get_or l number value.Nil))) c.as_slice.ensures.value) ∙ w.if-is_set_at.false in
          subst (HasKeys all (set_values rest)) (sym w.distinct-is)
          (subst (λ (l : List Value). HasKeys all l c.loop-row.distinct) (unset-dropped cell rest unset) so_far))
    ]

pub returns : goal.returns
returns c =
    let rows = c.args.rows.now in
    let number = c.args.number in
    let all = set_values (column_of number rows) in
    let end = column-end number rows c.loop-row.row-index c.loop-row-test.false in
    distinct_keys all c.loop-row.distinct c.len.result (subst (λ (l : List Value). HasKeys all (set_values l) c.loop-row.distinct) end c.loop-row.invariant) c.len.ensures.ordered c.len.ensures.len
