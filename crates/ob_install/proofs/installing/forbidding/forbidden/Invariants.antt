-- No row of a managed model is made, and nothing is forbidden of the rows so far.
use Rattle.std.proofs.Common.{◌<◌, ℕ, None}
use Rattle.std.specs.Prelude.{⊤}
use Rattle.ob_install.proofs.installing.forbidding.forbidden.Given as goal
use Rattle.ob_install.specs.Install.{Gives}
use Rattle.ob_install.specs.InstallSteps.{FindsBy, FindsManaged, course_of}

abbrev pub invariant-loop-number : goal.invariant-loop-number
invariant-loop-number l = record {
  managed : FindsManaged l.maker.schema.now (course_of l.maker.schema.now l.placed) (λ _. ⊤) None;
  given : (n : ℕ) → n < l.number → FindsBy l.maker.schema.now (course_of l.maker.schema.now l.placed) (Gives l.maker.schema.now (course_of l.maker.schema.now l.placed) n) n None;
}
