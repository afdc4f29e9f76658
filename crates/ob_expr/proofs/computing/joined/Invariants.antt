use Rattle.std.proofs.Common.{◌≡◌, ◌≤◌, take, length, string_bytes}
use Rattle.std.specs.List.{flat_map}
use Rattle.ob_expr.specs.Computing.{bytes_of}
use Rattle.ob_expr.proofs.computing.joined.Given as goal

abbrev pub invariant-loop-value : goal.invariant-loop-value
invariant-loop-value g l = (string_bytes l.text ≡ flat_map bytes_of (take l.value-index l.values)) × (length (string_bytes l.text) ≤ 65536)
