use Rattle.std.proofs.Common.{◌≡◌, ◌-◌, ◌≤◌}
use Rattle.std.specs.Prelude.{All}
use Rattle.ob_codec.specs.ValueReading.{body_ids}
use Rattle.ob_codec.proofs.Prefixes.{read_after}
use Rattle.ob_codec.proofs.kept_values.ids_of.Given as goal

-- no id is above the last one, and the ids that are left come after these
abbrev pub invariant-loop-i : goal.invariant-loop-i
invariant-loop-i l = record {
  below : All (λ id. id.0 ≤ l.before) l.ids;
  left : read_after l.ids (body_ids (l.count - l.i) l.before l.left) ≡ body_ids l.count 0 l.bytes;
}
