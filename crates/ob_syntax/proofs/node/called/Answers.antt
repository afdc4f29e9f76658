use Rattle.std.proofs.Common.{ap, map, arith}
use Rattle.ob_base.specs.Syntax.{Arguments, call, no_arguments, tree_of}
use Rattle.ob_base.proofs.CallerLemmas.{arguments_of-items}
use Rattle.ob_syntax.proofs.Spelling.{depth-given_before}
use Rattle.ob_syntax.proofs.node.called.Goals as goal

pub returns-clause-tree : goal.returns-clause-tree
returns-clause-tree c = ap (λ (given : Arguments). call c.args.whole.name given c.args.whole.first) (arguments_of-items c.args.whole.arguments)

pub invariant_of-result : goal.invariant_of-result
invariant_of-result c = record { counted = rw (arguments_of-items c.args.whole.arguments) (omega (arith, c.args.whole.counted, depth-given_before (map tree_of c.args.whole.arguments.items) no_arguments)) }
