use Rattle.ob_tables.proofs.Places.{ids-increase, naming-increase}
use Rattle.ob_tables.proofs.RowIds.{ids-there, there-ids}
use Rattle.ob_tables.proofs.laws.ids_are_of_rows.Goals as goal

pub returns-clause-there : goal.returns-clause-there
returns-clause-there c = ids-there

pub returns-clause-listed : goal.returns-clause-listed
returns-clause-listed c = there-ids

pub returns-clause-rising : goal.returns-clause-rising
returns-clause-rising c = ids-increase

pub returns-clause-naming : goal.returns-clause-naming
returns-clause-naming c = naming-increase
