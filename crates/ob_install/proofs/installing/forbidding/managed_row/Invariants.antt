-- The edits so far make no row of a managed model.
use Rattle.std.proofs.Common.{◌≡◌, None, true, take}
use Rattle.std.specs.Prelude.{All}
use Rattle.ob_install.proofs.installing.forbidding.managed_row.Given as goal
use Rattle.ob_install.specs.InstallSteps.{FindsManaged, course_of, makes}

abbrev pub invariant-loop-edit : goal.invariant-loop-edit
invariant-loop-edit l = All (λ e. FindsManaged l.schema (course_of l.schema l.placed) (λ cell. makes cell e ≡ true) None) (take l.edit-index l.edit-items)
