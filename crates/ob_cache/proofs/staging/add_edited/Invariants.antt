use Rattle.std.proofs.Common.{map, take}
use Rattle.std.specs.Prelude.{Contains}
use Rattle.ob_base.specs.declared.id.RowKey.{RowKey}
use Rattle.ob_tables.specs.Changes.{edited_row}
use Rattle.ob_cache.proofs.staging.add_edited.Given as goal

-- the rows of the edits so far are listed
abbrev pub invariant-loop-edit : goal.invariant-loop-edit
invariant-loop-edit l = record {
  kept : (key : RowKey) → Contains l.fn.touched.items key → Contains l.touched.items key;
  done : (key : RowKey) → Contains (map edited_row (take l.edit-index l.edits)) key → Contains l.touched.items key;
}
