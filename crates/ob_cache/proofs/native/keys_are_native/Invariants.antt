use Rattle.std.proofs.Common.{All, take}
use Rattle.std.specs.Str.{IsUtf8}
use Rattle.ob_definition.specs.declared.field_type.Choice.{Choice}
use Rattle.ob_cache.proofs.native.keys_are_native.Given as goal

-- the keys so far are UTF-8
abbrev pub invariant-loop-choice : goal.invariant-loop-choice
invariant-loop-choice l = All (λ (choice : Choice). IsUtf8 choice.key) (take l.choice-index l.choices)
