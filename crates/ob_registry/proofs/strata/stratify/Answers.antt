use Rattle.ob_registry.proofs.ChainFaults.{all-three, none-long}
use Rattle.ob_registry.proofs.strata.stratify.Goals as goal

pub returns-clause-faults : goal.returns-clause-faults
returns-clause-faults c = all-three c.args.models.now c.args.first.now c.self_readers.new.first c.circles.new.first c.long_chains.new.first c.in_ok-self_readers.ensures c.in_ok-on_cycles.ensures.faults c.in_ok-long_chains.ensures

pub returns-clause-strata : goal.returns-clause-strata
returns-clause-strata c = λ none. c.give_strata.ensures.strata (none-long c.args.models.now c.args.first.now c.long_chains.new.first
    (all-three c.args.models.now c.args.first.now c.self_readers.new.first c.circles.new.first c.long_chains.new.first c.in_ok-self_readers.ensures c.in_ok-on_cycles.ensures.faults c.in_ok-long_chains.ensures) none)
