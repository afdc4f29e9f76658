-- All of no rules are met, and none applies.
use Rattle.std.proofs.Common.{◌≡◌, ◌||◌, true, false, Bool, refl}
use Rattle.ob_access.specs.Groups.{is_superuser}
use Rattle.ob_access.proofs.laws.nothing_denied_without_rules.Goals as goal

or_true : (b : Bool) → (b || true) ≡ true
or_true true = refl
or_true false = refl

pub returns : goal.returns
returns c = λ policy told own user op row none. rw none (or_true (is_superuser user))
