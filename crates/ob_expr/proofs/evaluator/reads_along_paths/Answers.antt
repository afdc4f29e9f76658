use Rattle.std.specs.Prelude.{IsTrue}
use Rattle.ob_expr.proofs.Along.{same_meaning, comes_to}
use Rattle.ob_expr.proofs.Unread.{lacks_along}
use Rattle.ob_expr.proofs.evaluator.reads_along_paths.Goals as goal

pub returns-clause-meaning : goal.returns-clause-meaning
returns-clause-meaning c = λ tree held other row same. same_meaning held other row tree same

pub returns-clause-reads : goal.returns-clause-reads
returns-clause-reads c = λ tree held can_read row all. comes_to held (λ cell. IsTrue (can_read cell)) row tree all

pub returns-clause-lacks : goal.returns-clause-lacks
returns-clause-lacks c = λ tree held row cell is. lacks_along held row tree cell is
