use Rattle.std.proofs.Common.{take}
use Rattle.std.specs.Prelude.{All}
use Rattle.ob_orm.specs.NewRowSteps.{MakesWithin}
use Rattle.ob_orm.proofs.making.limits.past_limit.Given as goal

-- the rows so far are within the limit
abbrev pub invariant-loop-edit : goal.invariant-loop-edit
invariant-loop-edit l = All MakesWithin (take l.edit-index l.edits)
