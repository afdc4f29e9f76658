use Rattle.probe_models.proofs.Ties.{formulas_tie}
use Rattle.probe_models.proofs.tables.is_of_formulas.Goals as goal

pub returns-in-Overflow : goal.returns-in-Overflow
returns-in-Overflow c = λ yes. formulas_tie c.args.kind c.in-Overflow.is
