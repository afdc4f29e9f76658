use Rattle.std.proofs.Common.{◌≡◌}
use Rattle.ob_query.proofs.Asked.{as_asked}
use Rattle.ob_query.proofs.Callers.{answered_causes, answered_told, told_seen}
use Rattle.ob_access.specs.Views.{sees}
use Rattle.ob_schema.specs.Facts.{Told}
use Rattle.std.proofs.lemmas.Result.{IfOk-weaker}
use Rattle.ob_query.proofs.searching.questions.is_known.Goals as goal

pub returns-clause-told : goal.returns-clause-told
returns-clause-told g c =
    let old = c.args.engine.now in let by = c.args.by.now in
    let law = c.questions_are_questions.ensures.failed old c.sees-known.new.facts in
    let told = answered_told g.K.Keeper old c.sees-known.new.facts _ law c.sees-known.result _ c.answered.result (λ b all. b ≡ sees by.policy.now all by.groups.now by.user c.args.model c.args.id) c.answered.ensures c.sees-known.ensures.sees c.sees-known.ensures.fault in
    IfOk-weaker c.answered.result _ _ (λ b h. told_seen g.K.Keeper by old (λ (t : Told). b ≡ t.knows c.args.model c.args.id) h) told

pub returns-clause-asked : goal.returns-clause-asked
returns-clause-asked g c =
    let q = c.questions_are_questions.ensures.asked c.args.engine.now c.sees-known.new.facts c.sees-known.ensures.asked in
    as_asked g.K.Keeper c.args.engine.now c.sees-known.new.facts q.0 q.1 q.2

pub returns-clause-causes : goal.returns-clause-causes
returns-clause-causes g c =
    let law = c.questions_are_questions.ensures.failed c.args.engine.now c.sees-known.new.facts in
    answered_causes g.K.Keeper c.args.engine.now c.sees-known.new.facts _ law c.sees-known.result _ c.answered.result c.answered.ensures c.sees-known.ensures.fault
