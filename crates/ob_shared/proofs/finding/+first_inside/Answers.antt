use Rattle.std.proofs.Common.{Some, option_map, sym, ap, ◌∙◌, rules}
use Rattle.std.specs.Map.Iter.{deref_pair}
use Rattle.ob_shared.specs.declared.node.Tree.{the_lemmas}
use Rattle.ob_shared.proofs.Nodes.{first-after, first-before, first-here, sides}
use Rattle.ob_shared.proofs.finding.+first_inside.Goals as goal

pub first_inside-requires : goal.first_inside-requires
first_inside-requires g t c κs within =
    let parts = sides c.args.tree.now c.in-Fork.root c.as_ref-node.result.now c.in-Fork.is c.as_ref-node.ensures g.K.Ord.cmp c.requires in
    (search (rules, the_lemmas), (within.0, (within.1, parts.right)))

pub first_inside-requires-2 : goal.first_inside-requires-2
first_inside-requires-2 g t c κs within =
    let parts = sides c.args.tree.now c.in-Fork.root c.as_ref-node.result.now c.in-Fork.is c.as_ref-node.ensures g.K.Ord.cmp c.requires in
    (search (rules, the_lemmas), (within.0, (within.1, parts.left)))

pub returns-then-not-is_inside : goal.returns-then-not-is_inside
returns-then-not-is_inside g t c =
    c.first_inside.ensures
    ∙ first-after c.args.tree.now c.in-Fork.root c.as_ref-node.result.now c.in-Fork.is c.as_ref-node.ensures g.K.Ord.cmp c.requires g.met.K.Ord.total c.args.start.now
    (sym c.is_inside.ensures ∙ c.if-not-is_inside.true)

pub returns-in-None : goal.returns-in-None
returns-in-None g t c =
    ap (λ v. Some (c.as_ref-node.result.now.key, v)) c.as_ref.ensures
    ∙ first-here c.args.tree.now c.in-Fork.root c.as_ref-node.result.now c.in-Fork.is c.as_ref-node.ensures g.K.Ord.cmp c.requires g.met.K.Ord.total c.args.start.now
    (sym c.is_inside.ensures ∙ c.if-not-is_inside.false) (sym c.first_inside-2.ensures ∙ ap (option_map deref_pair) c.in-None.is)

pub returns-in-Some : goal.returns-in-Some
returns-in-Some g t c =
    first-before c.args.tree.now c.in-Fork.root c.as_ref-node.result.now c.in-Fork.is c.as_ref-node.ensures g.K.Ord.cmp c.requires g.met.K.Ord.total c.args.start.now
    (deref_pair c.in-Some.entry) (sym c.first_inside-2.ensures ∙ ap (option_map deref_pair) c.in-Some.is)
