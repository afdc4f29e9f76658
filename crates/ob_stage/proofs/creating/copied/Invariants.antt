use Rattle.std.proofs.Common.{◌≡◌, take}
use Rattle.ob_stage.proofs.creating.copied.Given as goal

-- the values so far
abbrev pub invariant-loop-one : goal.invariant-loop-one
invariant-loop-one l = l.given.items ≡ take l.one-index l.values
