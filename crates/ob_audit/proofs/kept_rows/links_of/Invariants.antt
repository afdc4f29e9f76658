use Rattle.std.proofs.Common.{◌≡◌, ◌++◌, drop, filter}
use Rattle.std.specs.List.{flat_map}
use Rattle.ob_audit.proofs.KeptLoops.{left_from}
use Rattle.ob_audit.specs.Reading.{entries, links_for}
use Rattle.ob_codec.specs.RowForm.{HoldAll}
use Rattle.ob_schema.specs.Fields.{is_kept}
use Rattle.ob_audit.proofs.kept_rows.links_of.Given as goal

-- what was gathered, with what the fields give that are left, is all
abbrev pub invariant-loop-place : goal.invariant-loop-place
invariant-loop-place l = record {
  hold : HoldAll (filter is_kept (drop l.place l.fields)) l.left;
  all : l.links ++ flat_map links_for (left_from l.place l.fields l.left) ≡ flat_map links_for (entries l.fields l.fn.values);
}
