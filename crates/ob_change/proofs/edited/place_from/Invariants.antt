-- All ids from the first place on are lower so far.
use Rattle.std.proofs.Common.{◌<◌}
use Rattle.std.specs.List.{AllWithin}
use Rattle.ob_change.proofs.edited.place_from.Given as goal

abbrev pub invariant-loop-place : goal.invariant-loop-place
invariant-loop-place l = AllWithin (λ other. other.0 < l.id.0) l.ids l.from l.place
