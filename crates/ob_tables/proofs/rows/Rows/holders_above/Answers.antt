use Rattle.std.proofs.Common.{map, refl, ap, subst, ◌∙◌}
use Rattle.std.specs.Ordering.{is_lt}
use Rattle.std.specs.declared.ops.Bound.TheVariants.{Excluded}
use Rattle.std.specs.BTreeMap.Range.{entries_between}
use Rattle.ob_base.specs.declared.id.RecId.{RecId}
use Rattle.std.specs.Prelude.{nat_lt}
use Rattle.ob_schema.specs.Tables.{key_of}
use Rattle.ob_tables.specs.Holdings.{IsIndexOf, RowMap, holding_at, holding_order}
use Rattle.ob_tables.specs.declared.holdings.Holding.{Holding}
use Rattle.ob_tables.proofs.HeldRows.{above-test, holders-name}
use Rattle.ob_tables.proofs.rows.Rows.holders_above.Goals as goal

pub returns : goal.returns
returns c =
    let held = c.self.inside.holdings in
    let hold = λ (id : RecId). holding_at (key_of c.args.model id) c.args.field c.args.target in
    let index = subst (λ (r : RowMap). IsIndexOf r held) c.self.view_is c.self.invariant in
    ap (map (λ entry. entry.0.holder))
    (c.range.ensures.between ∙ ap (λ (k : Holding). entries_between holding_order (Excluded k) (Excluded c.holding-2.result) held.entries) c.holding.ensures
    ∙ ap (λ (k : Holding). entries_between holding_order (Excluded (hold c.args.after)) (Excluded k) held.entries) c.holding-2.ensures)
    ∙ holders-name c.args.self.now c.args.model c.args.field c.args.target is_lt refl c.args.after c.args.end held index c.range.ensures.ordered (λ id. nat_lt c.args.after.0 id.0)
    (λ id. above-test c.args.after.0 id.0) c.requires
