use Rattle.std.proofs.Common.{sym, ◌∙◌, rules}
use Rattle.ob_shared.specs.Trees.{entries_in}
use Rattle.ob_shared.specs.declared.node.Tree.{the_lemmas}
use Rattle.ob_shared.proofs.Nodes.{removed-Equal, removed-Greater, removed-Less, shown, sides}
use Rattle.ob_shared.proofs.removing.+removed.Goals as goal

pub removed-requires : goal.removed-requires
removed-requires g t c κs within =
    let parts = sides c.args.tree.now c.in-Fork.root c.as_ref-node.result.now c.in-Fork.is c.as_ref-node.ensures g.K.Ord.cmp c.requires in
    (search (rules, the_lemmas), (within.0, (within.1, parts.left)))

pub removed-requires-in-Greater : goal.removed-requires-in-Greater
removed-requires-in-Greater g t c κs within =
    let parts = sides c.args.tree.now c.in-Fork.root c.as_ref-node.result.now c.in-Fork.is c.as_ref-node.ensures g.K.Ord.cmp c.requires in
    (search (rules, the_lemmas), (within.0, (within.1, parts.right)))

pub returns-in_ok-share-in-Less : goal.returns-in_ok-share-in-Less
returns-in_ok-share-in-Less g t c =
    shown c.balanced.result _ _ c.balanced.ensures
    (removed-Less c.args.tree.now c.in-Fork.root c.as_ref-node.result.now c.in-Fork.is c.as_ref-node.ensures g.K.Ord.cmp c.requires g.met.K.Ord.total c.args.key.now
    (entries_in c.in_ok-left-in-Less.left) (entries_in c.in_ok-share-in-Less.field-0) (sym c.cmp.ensures ∙ c.in-Less.is) c.in_ok-left-in-Less.ensures c.in_ok-share-in-Less.ensures)

pub returns-in-Equal : goal.returns-in-Equal
returns-in-Equal g t c =
    shown c.joined.result _ _ c.joined.ensures
    (removed-Equal c.args.tree.now c.in-Fork.root c.as_ref-node.result.now c.in-Fork.is c.as_ref-node.ensures g.K.Ord.cmp c.requires g.met.K.Ord.total c.args.key.now (sym c.cmp.ensures ∙ c.in-Equal.is))

pub returns-in_ok-share-in-Greater : goal.returns-in_ok-share-in-Greater
returns-in_ok-share-in-Greater g t c =
    shown c.balanced-in-Greater.result _ _ c.balanced-in-Greater.ensures
    (removed-Greater c.args.tree.now c.in-Fork.root c.as_ref-node.result.now c.in-Fork.is c.as_ref-node.ensures g.K.Ord.cmp c.requires g.met.K.Ord.total c.args.key.now
    (entries_in c.in_ok-share-in-Greater.field-0) (entries_in c.in_ok-right-in-Greater.right) (sym c.cmp.ensures ∙ c.in-Greater.is) c.in_ok-share-in-Greater.ensures c.in_ok-right-in-Greater.ensures)
