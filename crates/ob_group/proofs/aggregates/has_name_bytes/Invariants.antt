use Rattle.std.proofs.Common.{◌≡◌, drop}
use Rattle.std.specs.List.{list_all}
use Rattle.ob_group.specs.GroupForms.{is_name_byte}
use Rattle.ob_group.proofs.aggregates.has_name_bytes.Given as goal

-- the first ones may
abbrev pub invariant-loop-byte : goal.invariant-loop-byte
invariant-loop-byte l = list_all is_name_byte l.text ≡ list_all is_name_byte (drop l.byte-index l.text)
