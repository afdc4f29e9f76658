use Rattle.std.proofs.Common.{◌≡◌, ◌++◌, drop, filter}
use Rattle.std.specs.List.{filter_map}
use Rattle.ob_audit.proofs.KeptLoops.{left_from}
use Rattle.ob_audit.specs.Reading.{entries, stored_of}
use Rattle.ob_codec.specs.RowForm.{HoldAll}
use Rattle.ob_schema.specs.Fields.{is_kept}
use Rattle.ob_audit.proofs.kept_rows.add_stored.Given as goal

-- what was gathered, with what the fields give that are left, is all
abbrev pub invariant-loop-place : goal.invariant-loop-place
invariant-loop-place l = record {
  hold : HoldAll (filter is_kept (drop l.place l.fields)) l.left;
  all : l.rows.stored ++ filter_map (stored_of l.fn.model l.fn.id) (left_from l.place l.fields l.left) ≡ l.fn.rows.stored ++ filter_map (stored_of l.fn.model l.fn.id) (entries l.fields l.fn.values);
  edits : l.rows.edits ≡ l.fn.rows.edits;
}
