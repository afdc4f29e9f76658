use Rattle.std.proofs.Common.{◌<◌, ◌≤◌, ◌∷◌, List, Ok, ap, sym, ◌∙◌, arith, reverse}
use Rattle.ob_base.specs.Limits.{max_expression_depth}
use Rattle.ob_syntax.specs.declared.frame.Frame.{Frame}
use Rattle.ob_syntax.specs.Parsing.{least, wanted}
use Rattle.ob_syntax.specs.Waits.{all_pending, pending}
use Rattle.ob_syntax.proofs.Depths.{nodes_in-few, within-fits, within-deep}
use Rattle.ob_syntax.proofs.Frames.{counted-few, counted-pushed, least-pushed, least-too_deep, reverse-last}
use Rattle.ob_syntax.proofs.stack.Stack.push.Goals as goal

pub overflow_add-nodes : goal.overflow_add-nodes
overflow_add-nodes c = omega (arith, counted-few c.self.inside.nodes c.self.inside.frames.items c.self.invariant, c.nodes.ensures, nodes_in-few (pending c.args.frame))

pub invariant_of-self-2 : goal.invariant_of-self-2
invariant_of-self-2 c = counted-pushed c.self.inside.nodes c.nodes.result c.part.result c.self.inside.frames.items c.push.new.self.items c.args.frame c.in_ok-push.ensures.items c.self.invariant c.nodes.ensures
    c.part.ensures (omega (arith, c.max.ensures, c.if-max-nodes.false))

pub returns : goal.returns
returns c =
    let room : least (pending c.args.frame ∷ all_pending (reverse c.self.inside.frames.items)) 1 ≤ max_expression_depth =
    least-pushed c.self.inside.nodes c.nodes.result c.part.result c.self.inside.frames.items c.args.frame c.self.invariant c.nodes.ensures c.part.ensures (omega (arith, c.max.ensures, c.if-max-nodes.false)) in
    let fits = rw c.self.view_is at room in
    let parts = reverse-last c.push.new.self.items c.self.inside.frames.items c.args.frame c.in_ok-push.ensures.items in
    within-fits c.args.at (wanted (pending c.args.frame ∷ all_pending c.args.self.now)) fits ∙ ap (λ (frames : List Frame). Ok (wanted (all_pending frames))) (sym (parts ∙ ap (λ (frames : List Frame). c.args.frame ∷ frames) c.self.view_is))

pub overflow_sub-nodes : goal.overflow_sub-nodes
overflow_sub-nodes c = omega (arith, counted-few c.self.inside.nodes c.self.inside.frames.items c.self.invariant, c.nodes.ensures, nodes_in-few (pending c.args.frame))

pub returns-then-max-nodes : goal.returns-then-max-nodes
returns-then-max-nodes c = λ _.
    let above : max_expression_depth < least (pending c.args.frame ∷ all_pending (reverse c.self.inside.frames.items)) 1 =
    least-too_deep c.self.inside.nodes c.nodes.result c.part.result c.self.inside.frames.items c.args.frame c.self.invariant c.nodes.ensures c.part.ensures (omega (arith, c.max.ensures, c.if-max-nodes.true)) in
    within-deep c.args.at (wanted (pending c.args.frame ∷ all_pending c.args.self.now)) (rw c.self.view_is at above)
