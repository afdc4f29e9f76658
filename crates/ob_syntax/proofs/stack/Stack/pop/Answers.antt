use Rattle.ob_syntax.proofs.Frames.{counted-popped}
use Rattle.ob_syntax.proofs.stack.Stack.pop.Goals as goal

pub invariant_of-self-2 : goal.invariant_of-self-2
invariant_of-self-2 c = counted-popped c.self.inside.nodes c.nodes.result c.self.inside.frames.items c.pop.new.self.items c.in_ok-frame.frame c.in_ok-frame.ensures.items c.self.invariant c.nodes.ensures
