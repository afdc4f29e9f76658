use Rattle.ob_schema.specs.Tables.{key_of}
use Rattle.ob_tables.proofs.OneRow.{ids-after, naming-after, other-models, other-rows, row-gone, row-made, row-set}
use Rattle.ob_tables.proofs.laws.one_row_changes.Goals as goal

pub returns : goal.returns
returns c = record {
  rows = λ models tables one model id. other-rows models tables one (key_of model id);
  made = row-made;
  set = row-set;
  gone = row-gone;
  ids = ids-after;
  naming = naming-after;
  others = other-models;
}
