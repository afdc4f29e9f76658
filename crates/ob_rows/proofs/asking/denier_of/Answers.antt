use Rattle.std.proofs.Common.{◌≡◌, List, ℕ, Option}
use Rattle.ob_cache.specs.Telling.{TellsFacts}
use Rattle.ob_io.specs.Cause.{Rose}
use Rattle.ob_rows.proofs.Answered.{answered-causes, answered-told}
use Rattle.ob_rows.specs.AskingSteps.{denied_rule}
use Rattle.ob_rows.proofs.asking.denier_of.Goals as goal

pub returns-clause-told : goal.returns-clause-told
returns-clause-told g c =
    let old = c.args.engine.now in
    let faults = g.K.Keeper.faults in
    answered-told (TellsFacts (g.K.Keeper.kept old.keeper.now) old.held) (Rose (faults old.keeper.now) (faults c.denier-denier.new.facts.keeper.now)) _ (c.questions_are_questions.ensures.failed old c.denier-denier.new.facts)
    c.denier-denier.result _ c.answered.result (λ (rule : Option (List ℕ)) told. rule ≡ denied_rule c.args.by.now told c.args.op c.args.row) c.answered.ensures c.denier-denier.ensures.denier c.denier-denier.ensures.fault

pub returns-clause-causes : goal.returns-clause-causes
returns-clause-causes g c =
    let old = c.args.engine.now in
    let faults = g.K.Keeper.faults in
    answered-causes (TellsFacts (g.K.Keeper.kept old.keeper.now) old.held) (Rose (faults old.keeper.now) (faults c.denier-denier.new.facts.keeper.now)) _ (c.questions_are_questions.ensures.failed old c.denier-denier.new.facts)
    c.denier-denier.result _ c.answered.result c.answered.ensures c.denier-denier.ensures.fault

pub returns-clause-same : goal.returns-clause-same
returns-clause-same g c = (c.questions_are_questions.ensures.asked c.args.engine.now c.denier-denier.new.facts c.denier-denier.ensures.asked).1

pub returns-clause-count : goal.returns-clause-count
returns-clause-count g c = (c.questions_are_questions.ensures.asked c.args.engine.now c.denier-denier.new.facts c.denier-denier.ensures.asked).2

pub returns-clause-lender : goal.returns-clause-lender
returns-clause-lender g c = (c.questions_are_questions.ensures.asked c.args.engine.now c.denier-denier.new.facts c.denier-denier.ensures.asked).0
