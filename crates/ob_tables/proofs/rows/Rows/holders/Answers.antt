use Rattle.std.proofs.Common.{map, refl, ap, subst, ◌∙◌, true}
use Rattle.std.specs.Ordering.{is_le}
use Rattle.std.specs.declared.ops.Bound.TheVariants.{Included, Excluded}
use Rattle.std.specs.BTreeMap.Range.{entries_between}
use Rattle.ob_base.specs.declared.id.RecId.{RecId}
use Rattle.ob_schema.specs.Plain.{naming}
use Rattle.ob_schema.specs.Tables.{key_of}
use Rattle.ob_tables.specs.Holdings.{IsIndexOf, RowMap, holding_at, holding_order, rows_alone}
use Rattle.ob_tables.specs.declared.holdings.Holding.{Holding}
use Rattle.ob_tables.proofs.HeldRows.{all-pass, from-none, holders-name}
use Rattle.ob_tables.proofs.rows.Rows.holders.Goals as goal

pub returns : goal.returns
returns c =
    let rows = c.args.self.now in
    let held = c.self.inside.holdings in
    let hold = λ (id : RecId). holding_at (key_of c.args.model id) c.args.field c.args.target in
    let none : RecId = record { 0 = 0 } in
    let index = subst (λ (r : RowMap). IsIndexOf r held) c.self.view_is c.self.invariant in
    ap (map (λ entry. entry.0.holder))
    (c.range.ensures.between ∙ ap (λ (k : Holding). entries_between holding_order (Included k) (Excluded c.holding.result) held.entries) c.holding-first.ensures
    ∙ ap (λ (k : Holding). entries_between holding_order (Included (hold none)) (Excluded k) held.entries) c.holding.ensures)
    ∙ holders-name rows c.args.model c.args.field c.args.target is_le refl none c.args.end held index c.range.ensures.ordered (λ _. true) (λ id. from-none id.0) c.requires
    ∙ all-pass (naming (rows_alone rows) c.args.model c.args.field c.args.target)
