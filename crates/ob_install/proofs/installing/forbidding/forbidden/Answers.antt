use Rattle.std.proofs.Common.{None, below_more, subst, arith}
use Rattle.ob_install.proofs.ForbiddenValues.{none-in-all}
use Rattle.ob_install.proofs.installing.forbidding.forbidden.Goals as goal
use Rattle.ob_install.specs.Install.{Gives}
use Rattle.ob_install.specs.InstallSteps.{FindsBy, course_of}

pub loop-number-preserved : goal.loop-number-preserved
loop-number-preserved c =
    let models = c.args.maker.now.schema.now in
    let at = course_of models c.args.placed.now in
    let number = c.loop-number.number in
    record {
      managed = c.loop-number.invariant.managed;
      given = below_more (λ n. FindsBy models at (Gives models at n) n None) number c.loop-number.invariant.given
          (subst (FindsBy models at (Gives models at number) number) c.in_default-2.is c.in_ok-broken.ensures);
    }

pub returns : goal.returns
returns c =
    let models = c.args.maker.now.schema.now in
    let at = course_of models c.args.placed.now in
    none-in-all models at c.loop-number.invariant.managed (λ n low. c.loop-number.invariant.given n (let end = c.loop-number-test.false in omega (arith, low, end)))
