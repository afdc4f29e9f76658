use Rattle.std.proofs.Common.{◌≡◌, ◌<◌, ◌==◌, ◌+◌, ◌-◌, ℕ, IsSome, map, min, filter, ap, sym, subst, ◌∙◌}
use Rattle.std.specs.Prelude.{nat_lt}
use Rattle.std.specs.declared.ops.Bound.TheVariants.{Included, Excluded}
use Rattle.std.specs.BTreeMap.Range.{entries_between}
use Rattle.ob_base.specs.declared.id.RecId.{RecId}
use Rattle.ob_base.specs.Ids.{row_key_cmp}
use Rattle.ob_tables.specs.Rooms.{shown_row}
use Rattle.ob_schema.specs.Tables.{PlainRow, key_of, row_at, rows_in}
use Rattle.ob_tables.proofs.Above.{shown-above}
use Rattle.ob_tables.proofs.Between.{entries-shown_rows, ids-below}
use Rattle.ob_tables.proofs.tables.Tables.rows_above.Goals as goal

pub returns : goal.returns
returns c =
    let model = c.args.model in
    let after = c.args.after.0 in
    let n = c.next-next.result in
    let es = c.self.inside.rows.entries in
    let low = subst (λ s. (id : RecId) → IsSome (row_at s.tables model id) → id.0 < n) (sym c.self.view_is) c.next-next.ensures.above in
    subst (λ s. map (λ entry. (entry.0.id, shown_row entry.1)) c.range.result ≡ filter (λ entry. nat_lt after entry.0.0) (rows_in s.tables model)) c.self.view_is
    (ap (map (λ entry. (entry.0.id, shown_row entry.1)))
    (c.range.ensures.between ∙ ap (λ k. entries_between row_key_cmp (Included k) (Excluded c.row_key-2.result) es) (c.row_key.ensures ∙ ap (λ (i : ℕ). key_of model (record { 0 = i + 1 })) c.min-first.ensures)
    ∙ ap (λ k. entries_between row_key_cmp (Included (key_of model (record { 0 = min after (n - 1) + 1 }))) (Excluded k) es) c.row_key-2.ensures)
    ∙ shown-above model n after es (ids-below c.self.inside.rows model n low)
    ∙ ap (λ rows. filter (λ (entry : RecId × PlainRow). nat_lt after entry.0.0) (map (λ entry. (entry.0.id, entry.1)) (filter (λ entry. entry.0.model.0 == model.0) rows)))
    (sym (entries-shown_rows c.self.inside.rows c.range.ensures.ordered)))
