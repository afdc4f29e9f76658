-- Nothing is forbidden of the values so far.
use Rattle.std.proofs.Common.{None, take}
use Rattle.ob_install.proofs.ForbiddenValues.{GivenAmong}
use Rattle.ob_install.proofs.installing.forbidding.forbidden_in.Given as goal
use Rattle.ob_install.specs.InstallSteps.{FindsBy, course_of}

abbrev pub invariant-loop-one : goal.invariant-loop-one
invariant-loop-one l =
    FindsBy l.maker.schema.now (course_of l.maker.schema.now l.placed) (GivenAmong l.maker.schema.now (course_of l.maker.schema.now l.placed) l.number l.row.model (take l.one-index l.one-items)) l.number None
