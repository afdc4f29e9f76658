use Rattle.ob_shared.specs.Trees.{entries_in, entry_of}
use Rattle.ob_shared.proofs.Nodes.{shown, without-first}
use Rattle.ob_shared.proofs.removing.+without_first.Goals as goal

pub returns : goal.returns
returns g t c =
    let node = c.args.node.now in
    shown c.balanced.result _ _ c.balanced.ensures
    (without-first node.left c.in-Fork.first c.deref.result.now (entry_of node) (entries_in c.in_ok-left.left) (entries_in c.in_ok-share.field-0) (entries_in node.right)
    c.in-Fork.is c.deref.ensures c.in_ok-left.ensures c.in_ok-share.ensures)
