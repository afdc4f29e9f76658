-- One question.
use Rattle.std.proofs.Common.{rules, IfErr}
use Rattle.ob_trigger.specs.Faults.{IsCloseFault}
use Rattle.ob_trigger.proofs.Asking.{alone_one, failed_first}
use Rattle.ob_trigger.proofs.Reading.{leads-plain}
use Rattle.ob_trigger.proofs.walking.sources_of.Goals as goal

pub sources-requires : goal.sources-requires
sources-requires g c = leads-plain (g.W.Links.registry c.args.worlds.now) c.args.step c.requires

pub returns-clause-fault : goal.returns-clause-fault
returns-clause-fault g c =
    let told : IfErr c.map_err.result (IsCloseFault (g.W.Links.has_failed c.args.worlds.now c.sources.new.self)) = search rules in
    failed_first g.W.Links.asks g.W.Links.has_failed c.args.worlds.now c.sources.new.self c.map_err.result told

pub returns-clause-stays : goal.returns-clause-stays
returns-clause-stays g c = alone_one _ _ c.sources.ensures.asked c.sources.ensures.same c.sources.ensures.kept c.sources.ensures.only
