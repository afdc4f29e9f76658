use Rattle.ob_tables.proofs.NextIds.{next-bound, next-rises}
use Rattle.ob_tables.proofs.laws.next_ids_after.Goals as goal

pub returns-clause-rises : goal.returns-clause-rises
returns-clause-rises c = next-rises

pub returns-clause-bound : goal.returns-clause-bound
returns-clause-bound c = next-bound
