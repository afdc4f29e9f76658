use Rattle.std.proofs.Common.{◌≡◌}
use Rattle.ob_io.specs.Slots.{shown_store}
use Rattle.ob_io.proofs.slots.Slots.drop_vacant.Given as goal

abbrev pub invariant-loop-change : goal.invariant-loop-change
invariant-loop-change l = shown_store l.self ≡ shown_store l.fn.self
