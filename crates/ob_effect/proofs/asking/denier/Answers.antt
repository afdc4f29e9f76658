-- What is answered goes by the law of questions.
use Rattle.ob_cache.specs.Telling.{TellsFacts}
use Rattle.ob_cache.specs.declared.fault.ReadFault.TheVariants as read_fault
use Rattle.ob_effect.proofs.GroupsTold.{failed_as}
use Rattle.ob_effect.proofs.ChangesBehind.{asks_told}
use Rattle.ob_effect.proofs.asking.denier.Goals as goal
use Rattle.ob_io.specs.Cause.{Rose}

pub returns-in-Ok-clause-asked : goal.returns-in-Ok-clause-asked
returns-in-Ok-clause-asked g c =
    asks_told g.K.Keeper c.args.engine.now c.denier.new.facts (c.questions_are_questions.ensures.asked c.args.engine.now c.denier.new.facts c.denier.ensures.asked)

pub returns-in-Err-Fact-Missing-clause-asked : goal.returns-in-Err-Fact-Missing-clause-asked
returns-in-Err-Fact-Missing-clause-asked g c =
    asks_told g.K.Keeper c.args.engine.now c.denier.new.facts (c.questions_are_questions.ensures.asked c.args.engine.now c.denier.new.facts c.denier.ensures.asked)

pub returns-in-Err-Fact-Keeper-clause-causes : goal.returns-in-Err-Fact-Keeper-clause-causes
returns-in-Err-Fact-Keeper-clause-causes g c =
    let old = c.args.engine.now in let now = c.denier.new.facts in let faults = g.K.Keeper.faults in
    let step = c.in-Err-Fact-Keeper in
    failed_as (TellsFacts (g.K.Keeper.kept old.keeper.now) old.held) (Rose (faults old.keeper.now) (faults now.keeper.now)) _ (c.questions_are_questions.ensures.failed old now)
    c.denier.result step.field-0 step.field-0-0 read_fault.Keeper step.is step.field-0-is step.field-0-0-is c.denier.ensures.fault

pub returns-in-Err-Fact-Keeper-clause-asked : goal.returns-in-Err-Fact-Keeper-clause-asked
returns-in-Err-Fact-Keeper-clause-asked g c =
    asks_told g.K.Keeper c.args.engine.now c.denier.new.facts (c.questions_are_questions.ensures.asked c.args.engine.now c.denier.new.facts c.denier.ensures.asked)

pub returns-in-Err-Fact-NoMemory-clause-asked : goal.returns-in-Err-Fact-NoMemory-clause-asked
returns-in-Err-Fact-NoMemory-clause-asked g c =
    asks_told g.K.Keeper c.args.engine.now c.denier.new.facts (c.questions_are_questions.ensures.asked c.args.engine.now c.denier.new.facts c.denier.ensures.asked)

pub returns-in-Err-NoMemory-clause-asked : goal.returns-in-Err-NoMemory-clause-asked
returns-in-Err-NoMemory-clause-asked g c =
    asks_told g.K.Keeper c.args.engine.now c.denier.new.facts (c.questions_are_questions.ensures.asked c.args.engine.now c.denier.new.facts c.denier.ensures.asked)
