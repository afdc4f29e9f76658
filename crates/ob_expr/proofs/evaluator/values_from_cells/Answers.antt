use Rattle.ob_expr.proofs.FromCells.{meaning-given}
use Rattle.ob_expr.proofs.evaluator.values_from_cells.Goals as goal

pub returns : goal.returns
returns c = λ tree held row v is. meaning-given held row tree v is
