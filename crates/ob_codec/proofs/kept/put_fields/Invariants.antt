use Rattle.std.proofs.Common.{◌≡◌, ◌++◌, drop, filter}
use Rattle.std.specs.List.{flat_map}
use Rattle.ob_schema.specs.Fields.{is_kept}
use Rattle.ob_codec.specs.KeptForm.{field_form}
use Rattle.ob_codec.specs.RowForm.{HoldAll, named}
use Rattle.ob_codec.proofs.kept.put_fields.Given as goal

-- what stands in `out`, with the fields that are left, is all
abbrev pub invariant-loop-field : goal.invariant-loop-field
invariant-loop-field l = record {
  holds : HoldAll (filter is_kept (drop l.field-index l.fields)) l.left;
  left : l.out.items ++ flat_map field_form (named (filter is_kept (drop l.field-index l.fields)) l.left) ≡ l.initial.out.items ++ flat_map field_form (named (filter is_kept l.fields) l.values);
}
