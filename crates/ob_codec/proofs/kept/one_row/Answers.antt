use Rattle.ob_codec.proofs.RowLaws.{one_row_lem}
use Rattle.ob_codec.proofs.kept.one_row.Goals as goal

pub returns : goal.returns
returns c = one_row_lem
