use Rattle.std.proofs.Common.{Option, refl, subst}
use Rattle.ob_rows.specs.AskingSteps.{TellsDenied}
use Rattle.ob_rows.specs.declared.asking.Denied.{Denied}
use Rattle.ob_rows.proofs.asking.test_rules.Goals as goal

pub returns-in-Some-clause-denies : goal.returns-in-Some-clause-denies
returns-in-Some-clause-denies g c = λ told tells. (refl, subst (λ (least : Option Denied). TellsDenied c.args.by.now told c.args.op c.args.rows.now least) c.in-Some.is (c.in_ok-row.ensures.told told tells))

pub returns-in-None-clause-admits : goal.returns-in-None-clause-admits
returns-in-None-clause-admits g c = λ told tells. subst (λ (least : Option Denied). TellsDenied c.args.by.now told c.args.op c.args.rows.now least) c.in-None.is (c.in_ok-row.ensures.told told tells)
