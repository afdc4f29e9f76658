-- One question.
use Rattle.std.proofs.Common.{rules, IfErr}
use Rattle.ob_domain.specs.Holding.{IsHoldFault}
use Rattle.ob_domain.proofs.Asking.{asked_one, failed_first}
use Rattle.ob_domain.proofs.asked.value_in.Goals as goal

pub returns-clause-fault : goal.returns-clause-fault
returns-clause-fault g c =
    let told : IfErr c.map_err.result (IsHoldFault (g.F.Facts.has_failed c.args.facts.now c.value.new.self)) = search rules in
    failed_first g.F.Facts.asks g.F.Facts.has_failed c.args.facts.now c.value.new.self c.map_err.result told

pub returns-clause-asked : goal.returns-clause-asked
returns-clause-asked g c = asked_one _ _ c.value.ensures.asked
