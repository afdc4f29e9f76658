-- One question.
use Rattle.std.proofs.Common.{rules, IfErr}
use Rattle.ob_trigger.specs.Faults.{IsCloseFault}
use Rattle.ob_trigger.proofs.Asking.{alone_one, failed_first}
use Rattle.ob_trigger.proofs.rows.targets_behind.Goals as goal

pub returns-clause-fault : goal.returns-clause-fault
returns-clause-fault g c =
    let told : IfErr c.map_err.result (IsCloseFault (g.W.Links.has_failed c.args.worlds.now c.targets.new.self)) = search rules in
    failed_first g.W.Links.asks g.W.Links.has_failed c.args.worlds.now c.targets.new.self c.map_err.result told

pub returns-clause-stays : goal.returns-clause-stays
returns-clause-stays g c = alone_one _ _ c.targets.ensures.asked c.targets.ensures.same c.targets.ensures.kept c.targets.ensures.only
