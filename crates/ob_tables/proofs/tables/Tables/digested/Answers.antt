use Rattle.std.proofs.Common.{◌<◌, IsSome, List, map, sym, ap, subst, ◌∙◌}
use Rattle.std.specs.declared.ops.Bound.TheVariants.{Excluded, Included}
use Rattle.std.specs.BTreeMap.Range.{entries_between}
use Rattle.ob_base.specs.declared.id.RecId.{RecId}
use Rattle.ob_base.specs.declared.id.RowKey.{RowKey}
use Rattle.ob_schema.specs.Tables.{Standing, key_of, row_at}
use Rattle.ob_tables.specs.Digests.{AmongDigested, digested_at, digested_order}
use Rattle.ob_tables.specs.Rooms.{shown_tables}
use Rattle.ob_tables.specs.declared.digests.Digested.{Digested}
use Rattle.ob_tables.proofs.DigestedRows.{among-digested}
use Rattle.ob_tables.proofs.tables.Tables.digested.Goals as goal

pub returns : goal.returns
returns c =
    let model = c.args.model in
    let digest = c.args.digest in
    let models = c.self.inside.schema.now in
    let rows = c.self.inside.rows in
    let next_ids = c.self.inside.next_ids in
    let held = c.self.inside.digests in
    let n = c.next.result in
    let first : Digested = digested_at (key_of model (record { 0 = 0 })) digest in
    let low = subst (λ (s : Standing). (id : RecId) → IsSome (row_at s.tables model id) → id.0 < n) (sym c.self.view_is) c.next.ensures.above in
    let is = ap (map (λ entry. entry.0.id))
    (c.range.ensures.between
    ∙ ap (λ (k : Digested). entries_between digested_order (Included k) (Excluded c.digested_at-end.result) held.entries) (c.digested_at-first.ensures ∙ ap (λ (k : RowKey). digested_at k digest) c.row_key.ensures)
    ∙ ap (λ (k : Digested). entries_between digested_order (Included first) (Excluded k) held.entries) (c.digested_at-end.ensures ∙ ap (λ (k : RowKey). digested_at k digest) c.row_key-2.ensures)) in
    subst (λ (s : Standing). AmongDigested s model digest (map (λ entry. entry.0.id) c.range.result)) c.self.view_is
    (subst (λ (ids : List RecId). AmongDigested (record { models = models; tables = shown_tables models rows next_ids }) model digest ids) (sym is)
    (among-digested model digest models rows next_ids held (record { 0 = n }) c.self.invariant.digested low))
