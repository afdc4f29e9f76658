use Rattle.ob_syntax.proofs.Spelling.{one_tree}
use Rattle.ob_syntax.proofs.parser.one_tree.Goals as goal

pub returns : goal.returns
returns c = one_tree
