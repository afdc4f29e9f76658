-- Sets of rows, as the code has them.
use Rattle.std.specs.Prelude.{Bool}
use Rattle.ob_base.specs.Ids.{row_key_cmp}
use Rattle.ob_base.specs.declared.id.RowKey.{RowKey}
use Rattle.std.specs.BTreeSet as sorted

-- a set has a row
abbrev pub has_key : sorted.BTreeSet RowKey → RowKey → Bool
has_key rows row = sorted.contains row_key_cmp rows row
