-- The groups so far are named apart.
use Rattle.std.proofs.Common.{take}
use Rattle.ob_access.specs.Policies.{AreNamedApart}
use Rattle.ob_access.proofs.fitting.are_named_apart.Given as goal

abbrev pub invariant-loop-place : goal.invariant-loop-place
invariant-loop-place l = AreNamedApart (take l.place l.groups)
