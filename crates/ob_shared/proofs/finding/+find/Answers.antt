use Rattle.std.proofs.Common.{Some, sym, ap, ◌∙◌, rules}
use Rattle.ob_shared.specs.declared.node.Tree.{the_lemmas}
use Rattle.ob_shared.proofs.Nodes.{find-Equal, find-Greater, find-Less, sides}
use Rattle.ob_shared.proofs.finding.+find.Goals as goal

pub find-requires : goal.find-requires
find-requires g t c κs within =
    let parts = sides c.args.tree.now c.in-Fork.root c.as_ref-node.result.now c.in-Fork.is c.as_ref-node.ensures g.K.Ord.cmp c.requires in
    (search (rules, the_lemmas), (within.0, (within.1, parts.left)))

pub find-requires-in-Greater : goal.find-requires-in-Greater
find-requires-in-Greater g t c κs within =
    let parts = sides c.args.tree.now c.in-Fork.root c.as_ref-node.result.now c.in-Fork.is c.as_ref-node.ensures g.K.Ord.cmp c.requires in
    (search (rules, the_lemmas), (within.0, (within.1, parts.right)))

pub returns-in-Less : goal.returns-in-Less
returns-in-Less g t c =
    c.find.ensures
    ∙ find-Less c.args.tree.now c.in-Fork.root c.as_ref-node.result.now c.in-Fork.is c.as_ref-node.ensures g.K.Ord.cmp c.requires g.met.K.Ord.total c.args.key.now (sym c.cmp.ensures ∙ c.in-Less.is)

pub returns-in-Equal : goal.returns-in-Equal
returns-in-Equal g t c =
    ap Some c.as_ref.ensures
    ∙ find-Equal c.args.tree.now c.in-Fork.root c.as_ref-node.result.now c.in-Fork.is c.as_ref-node.ensures g.K.Ord.cmp c.requires g.met.K.Ord.total c.args.key.now (sym c.cmp.ensures ∙ c.in-Equal.is)

pub returns-in-Greater : goal.returns-in-Greater
returns-in-Greater g t c =
    c.find-in-Greater.ensures
    ∙ find-Greater c.args.tree.now c.in-Fork.root c.as_ref-node.result.now c.in-Fork.is c.as_ref-node.ensures g.K.Ord.cmp c.requires g.met.K.Ord.total c.args.key.now (sym c.cmp.ensures ∙ c.in-Greater.is)
