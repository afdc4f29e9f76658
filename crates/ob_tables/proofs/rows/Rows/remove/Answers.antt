use Rattle.std.proofs.Common.{◌≡◌, cond, None, subst}
use Rattle.std.specs.BTreeMap as tree
use Rattle.std.specs.Ordering.{eq_by_cmp}
use Rattle.ob_base.specs.Ids.{row_key_cmp}
use Rattle.ob_base.specs.declared.id.RowKey.{RowKey}
use Rattle.ob_tables.specs.Holdings.{RowMap}
use Rattle.ob_tables.proofs.HeldRows.{index-taken}
use Rattle.ob_tables.proofs.rows.Rows.remove.Goals as goal

pub invariant_of-self-2 : goal.invariant_of-self-2
invariant_of-self-2 c =
    let new = c.remove.new.self in
    index-taken c.args.self.now new c.in_ok-holdings.holdings c.args.key.now c.new-none.result c.in_ok-holdings.ensures c.new-none.ensures.empty
    (subst (λ (rows : RowMap). (q : RowKey) → tree.get row_key_cmp new q ≡ cond (eq_by_cmp row_key_cmp c.args.key.now q) None (tree.get row_key_cmp rows q)) c.self.view_is c.in_ok-remove.ensures.updates.0)

pub returns-clause-updates : goal.returns-clause-updates
returns-clause-updates c = subst (λ (rows : RowMap). tree.Updates row_key_cmp rows c.remove.new.self c.args.key.now None) c.self.view_is c.in_ok-remove.ensures.updates
