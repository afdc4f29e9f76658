use Rattle.std.proofs.Common.{◌≡◌, drop, filter}
use Rattle.ob_schema.specs.Fields.{is_kept}
use Rattle.ob_codec.specs.RowReading.{body_values}
use Rattle.ob_codec.proofs.Prefixes.{listed_after}
use Rattle.ob_codec.proofs.kept.values_of.Given as goal

-- the values that are left come after these
abbrev pub invariant-loop-field : goal.invariant-loop-field
invariant-loop-field l = listed_after l.values (body_values (filter is_kept (drop l.field-index l.fields)) l.left) ≡ body_values (filter is_kept l.fields) l.bytes
