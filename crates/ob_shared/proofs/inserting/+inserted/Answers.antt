use Rattle.std.proofs.Common.{sym, ◌∙◌, rules}
use Rattle.ob_shared.specs.Trees.{entries_in}
use Rattle.ob_shared.specs.declared.node.Tree.{the_lemmas}
use Rattle.ob_shared.proofs.Nodes.{inserted-Equal, inserted-Greater, inserted-Less, shown, sides}
use Rattle.ob_shared.proofs.inserting.+inserted.Goals as goal

pub inserted-requires : goal.inserted-requires
inserted-requires g t c κs within =
    let parts = sides c.args.tree.now c.in-Fork.root c.as_ref-node.result.now c.in-Fork.is c.as_ref-node.ensures g.K.Ord.cmp c.requires in
    (search (rules, the_lemmas), (within.0, (within.1, parts.left)))

pub inserted-requires-in-Greater : goal.inserted-requires-in-Greater
inserted-requires-in-Greater g t c κs within =
    let parts = sides c.args.tree.now c.in-Fork.root c.as_ref-node.result.now c.in-Fork.is c.as_ref-node.ensures g.K.Ord.cmp c.requires in
    (search (rules, the_lemmas), (within.0, (within.1, parts.right)))

pub returns-in_ok-share-in-Less : goal.returns-in_ok-share-in-Less
returns-in_ok-share-in-Less g t c =
    shown c.balanced.result _ _ c.balanced.ensures
    (inserted-Less c.args.tree.now c.in-Fork.root c.as_ref-node.result.now c.in-Fork.is c.as_ref-node.ensures g.K.Ord.cmp c.requires g.met.K.Ord.total c.args.key
    (entries_in c.in_ok-left-in-Less.left) (entries_in c.in_ok-share-in-Less.field-0) c.args.value.value (sym c.cmp.ensures ∙ c.in-Less.is) c.in_ok-left-in-Less.ensures c.in_ok-share-in-Less.ensures)

pub returns-in_ok-share-in-Equal-2 : goal.returns-in_ok-share-in-Equal-2
returns-in_ok-share-in-Equal-2 g t c =
    shown c.fork-in-Equal.result _ _ c.fork-in-Equal.ensures
    (inserted-Equal c.args.tree.now c.in-Fork.root c.as_ref-node.result.now c.in-Fork.is c.as_ref-node.ensures g.K.Ord.cmp c.requires g.met.K.Ord.total c.args.key
    (entries_in c.in_ok-share-in-Equal.field-0) (entries_in c.in_ok-share-in-Equal-2.field-0) c.args.value.value (sym c.cmp.ensures ∙ c.in-Equal.is) c.in_ok-share-in-Equal.ensures c.in_ok-share-in-Equal-2.ensures)

pub returns-in_ok-share-in-Greater : goal.returns-in_ok-share-in-Greater
returns-in_ok-share-in-Greater g t c =
    shown c.balanced-in-Greater.result _ _ c.balanced-in-Greater.ensures
    (inserted-Greater c.args.tree.now c.in-Fork.root c.as_ref-node.result.now c.in-Fork.is c.as_ref-node.ensures g.K.Ord.cmp c.requires g.met.K.Ord.total c.args.key
    (entries_in c.in_ok-share-in-Greater.field-0) (entries_in c.in_ok-right-in-Greater.right) c.args.value.value (sym c.cmp.ensures ∙ c.in-Greater.is) c.in_ok-share-in-Greater.ensures c.in_ok-right-in-Greater.ensures)
