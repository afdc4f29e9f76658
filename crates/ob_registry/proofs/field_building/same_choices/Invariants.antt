use Rattle.std.proofs.Common.{◌≡◌, take}
use Rattle.ob_registry.proofs.field_building.same_choices.Given as goal

abbrev pub invariant-loop-choice : goal.invariant-loop-choice
invariant-loop-choice l = l.choices ≡ take l.choice-index l.own
