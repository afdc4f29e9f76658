use Rattle.ob_expr.proofs.KindsOf.{meaning-kind}
use Rattle.ob_expr.proofs.evaluator.values_of_kinds.Goals as goal

pub returns : goal.returns
returns c = λ tree held row v well holds is. meaning-kind held row tree v well holds is
