-- The names that were passed are to come.
use Rattle.std.proofs.Common.{◌≡◌, drop, reverse}
use Rattle.ob_module.proofs.coming.Coming.wanted.Given as goal

abbrev pub invariant-loop-place : goal.invariant-loop-place
invariant-loop-place l = reverse l.coming.items ≡ drop l.place l.names
