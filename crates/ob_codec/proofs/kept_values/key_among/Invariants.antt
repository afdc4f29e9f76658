use Rattle.std.proofs.Common.{◌≡◌, drop}
use Rattle.std.specs.List.{list_any}
use Rattle.std.specs.Str.{bytes_eq}
use Rattle.ob_definition.specs.Values.{keys_of}
use Rattle.ob_codec.proofs.kept_values.key_among.Given as goal

-- the keys that are left have the text where all have it
abbrev pub invariant-loop-choice : goal.invariant-loop-choice
invariant-loop-choice l = list_any (bytes_eq l.text) (keys_of (drop l.choice-index l.choices)) ≡ list_any (bytes_eq l.text) (keys_of l.choices)
