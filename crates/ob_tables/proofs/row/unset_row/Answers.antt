use Rattle.std.proofs.Common.{◌≡◌, ◌≤◌, ◌+◌, ℕ, [], length, Some, ap, sym, subst, refl, ◌∙◌}
use Rattle.std.specs.List.{slice_get}
use Rattle.std.specs.BTreeMap as tree
use Rattle.std.specs.Ordering.{nat_cmp}
use Rattle.std.specs.Cmp.{nat_cmp_total}
use Rattle.std.specs.Map.{lookup}
use Rattle.std.specs.FinMap as finite
use Rattle.std.proofs.lemmas.Map.Lookups.{exact_unsigned}
use Rattle.std.proofs.lemmas.Option.{slice_get_read}
use Rattle.ob_tables.specs.After.{given_for, row_of}
use Rattle.ob_tables.specs.Rooms.{shown_row}
use Rattle.ob_tables.proofs.Shown.{get-shown_row}
use Rattle.ob_tables.proofs.Columns.{get-row_of, up_to, up_to-none, up_to-all, up_to-kept, up_to-passed}
use Rattle.ob_tables.proofs.row.unset_row.Goals as goal
use Rattle.ob_tables.proofs.row.unset_row.Goals.{then-is_plain_kept+in_ok-insert+in-Some+in-Word-1, then-is_plain_kept+in_ok-insert+in-Some+in-Refs-1, then-is_plain_kept+in_ok-insert+in-Some+in-Nil-1}
use Rattle.ob_tables.proofs.row.unset_row.Goals.{then-is_plain_kept+in_ok-insert+in-None-1, else-is_plain_kept}

pub loop-place-init : goal.loop-place-init
loop-place-init c q = ap (lookup (tree.is_at (nat_cmp q))) c.new-row.ensures.empty ∙ sym (up_to-none (given_for []) c.args.info.now q)

pub loop-place-preserved : goal.loop-place-preserved
loop-place-preserved c =
    let g = given_for [] in
    let info = c.args.info.now in
    let i = c.loop-place.place in
    let field = c.field-item.result in
    let old = tree.get nat_cmp c.loop-place.row in
    let all = c.as_slice-field-items.result.now in
    let at = subst (λ fields. slice_get fields i ≡ Some field) c.as_slice-field-items.ensures (slice_get_read all (length all) i field refl c.loop-place-test.true c.field-item.is) in
    elim c.if-is_plain_kept.branch [
      | then-is_plain_kept+in_ok-insert+in-Some+in-Word-1 w ↦ subst (λ row. (q : ℕ) → tree.get nat_cmp row q ≡ up_to g info (i + 1) q) (sym w.row-is)
          (up_to-kept g info old (tree.get nat_cmp w.insert.new.self) i field w.initial_value.result at
          (sym c.is_plain_kept.ensures ∙ w.if-is_plain_kept.true) w.initial_value.ensures c.loop-place.invariant w.in_ok-insert.ensures.updates.0)
      | then-is_plain_kept+in_ok-insert+in-Some+in-Refs-1 w ↦ subst (λ row. (q : ℕ) → tree.get nat_cmp row q ≡ up_to g info (i + 1) q) (sym w.row-is)
          (up_to-kept g info old (tree.get nat_cmp w.insert.new.self) i field w.initial_value.result at
          (sym c.is_plain_kept.ensures ∙ w.if-is_plain_kept.true) w.initial_value.ensures c.loop-place.invariant w.in_ok-insert.ensures.updates.0)
      | then-is_plain_kept+in_ok-insert+in-Some+in-Nil-1 w ↦ subst (λ row. (q : ℕ) → tree.get nat_cmp row q ≡ up_to g info (i + 1) q) (sym w.row-is)
          (up_to-kept g info old (tree.get nat_cmp w.insert.new.self) i field w.initial_value.result at
          (sym c.is_plain_kept.ensures ∙ w.if-is_plain_kept.true) w.initial_value.ensures c.loop-place.invariant w.in_ok-insert.ensures.updates.0)
      | then-is_plain_kept+in_ok-insert+in-None-1 w ↦ subst (λ row. (q : ℕ) → tree.get nat_cmp row q ≡ up_to g info (i + 1) q) (sym w.row-is)
          (up_to-kept g info old (tree.get nat_cmp w.insert.new.self) i field w.initial_value.result at
          (sym c.is_plain_kept.ensures ∙ w.if-is_plain_kept.true) w.initial_value.ensures c.loop-place.invariant w.in_ok-insert.ensures.updates.0)
      | else-is_plain_kept w ↦ subst (λ row. (q : ℕ) → tree.get nat_cmp row q ≡ up_to g info (i + 1) q) (sym w.row-is)
          (up_to-passed g info old i field at (sym c.is_plain_kept.ensures ∙ w.if-is_plain_kept.false) c.loop-place.invariant)
    ]

pub returns : goal.returns
returns c =
    let info = c.args.info.now in
    let i = c.loop-place.place in
    finite.same_map nat_cmp_total exact_unsigned (shown_row c.loop-place.row) (row_of info []) (λ q.
    get-shown_row c.loop-place.row q ∙ c.loop-place.invariant q
    ∙ up_to-all (given_for []) info i q (subst (λ fields. length fields ≤ i) c.as_slice-field-items.ensures c.loop-place-test.false) ∙ sym (get-row_of info [] q))
