use Rattle.std.proofs.Common.{◌≡◌, cond, Some, subst}
use Rattle.std.specs.BTreeMap as tree
use Rattle.std.specs.Ordering.{eq_by_cmp}
use Rattle.ob_base.specs.Ids.{row_key_cmp}
use Rattle.ob_base.specs.declared.id.RowKey.{RowKey}
use Rattle.ob_tables.specs.Holdings.{RowMap}
use Rattle.ob_tables.proofs.HeldRows.{index-put}
use Rattle.ob_tables.proofs.rows.Rows.insert.Goals as goal

pub invariant_of-self-2 : goal.invariant_of-self-2
invariant_of-self-2 c =
    let new = c.insert.new.self in
    index-put c.args.self.now new c.in_ok-holdings.holdings c.args.key c.args.row c.in_ok-holdings.ensures
    (subst (λ (rows : RowMap). (q : RowKey) → tree.get row_key_cmp new q ≡ cond (eq_by_cmp row_key_cmp c.args.key q) (Some c.args.row) (tree.get row_key_cmp rows q)) c.self.view_is c.in_ok-insert.ensures.updates.0)

pub returns-clause-updates : goal.returns-clause-updates
returns-clause-updates c = subst (λ (rows : RowMap). tree.Updates row_key_cmp rows c.insert.new.self c.args.key (Some c.args.row)) c.self.view_is c.in_ok-insert.ensures.updates
