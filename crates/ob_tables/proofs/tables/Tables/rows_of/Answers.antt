use Rattle.std.proofs.Common.{◌≡◌, ◌<◌, ◌==◌, IsSome, map, filter, ap, sym, subst, ◌∙◌}
use Rattle.std.specs.declared.ops.Bound.TheVariants.{Included, Excluded}
use Rattle.std.specs.BTreeMap.Range.{entries_between}
use Rattle.ob_base.specs.declared.id.RecId.{RecId}
use Rattle.ob_base.specs.Ids.{row_key_cmp}
use Rattle.ob_tables.specs.Rooms.{shown_row}
use Rattle.ob_schema.specs.Tables.{key_of, row_at, rows_in}
use Rattle.ob_tables.proofs.Between.{entries-shown_rows, ids-below, shown-between}
use Rattle.ob_tables.proofs.tables.Tables.rows_of.Goals as goal

pub returns : goal.returns
returns c =
    let model = c.args.model in
    let n = c.next.result in
    let es = c.self.inside.rows.entries in
    let low = subst (λ s. (id : RecId) → IsSome (row_at s.tables model id) → id.0 < n) (sym c.self.view_is) c.next.ensures.above in
    subst (λ s. map (λ entry. (entry.0.id, shown_row entry.1)) c.range.result ≡ rows_in s.tables model) c.self.view_is
    (ap (map (λ entry. (entry.0.id, shown_row entry.1)))
    (c.range.ensures.between ∙ ap (λ k. entries_between row_key_cmp (Included k) (Excluded c.row_key-2.result) es) c.row_key.ensures
    ∙ ap (λ k. entries_between row_key_cmp (Included (key_of model (record { 0 = 0 }))) (Excluded k) es) c.row_key-2.ensures)
    ∙ shown-between model n es (ids-below c.self.inside.rows model n low)
    ∙ ap (λ rows. map (λ entry. (entry.0.id, entry.1)) (filter (λ entry. entry.0.model.0 == model.0) rows)) (sym (entries-shown_rows c.self.inside.rows c.range.ensures.ordered)))
