-- So far each sign stands for its character.
use Rattle.std.proofs.Common.{◌≡◌, ℕ, ◌<◌, get_or, true}
use Rattle.ob_domain.specs.Patterns.{fits}
use Rattle.ob_domain.proofs.pattern.begins.Given as goal

abbrev pub invariant-loop-i : goal.invariant-loop-i
invariant-loop-i l = (k : ℕ) → k < l.i → fits (get_or l.pattern k 0) (get_or l.text k 0) ≡ true
