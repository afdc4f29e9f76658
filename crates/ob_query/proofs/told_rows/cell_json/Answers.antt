use Rattle.serde_json.specs.View.{view}
use Rattle.ob_query.proofs.ReadObjects.{value_plain}
use Rattle.ob_query.proofs.told_rows.cell_json.Goals as goal

pub returns-clause-plain : goal.returns-clause-plain
returns-clause-plain g c = value_plain c.in_ok-value.value (view c.in_ok-to_json.field-0) c.in_ok-to_json.ensures
