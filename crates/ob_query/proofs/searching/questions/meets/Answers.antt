use Rattle.std.proofs.Common.{◌≡◌, List, true, subst}
use Rattle.std.specs.Prelude.{IfOk}
use Rattle.std.proofs.lemmas.Result.{IfOk-weaker}
use Rattle.ob_access.specs.Views.{seen}
use Rattle.ob_domain.specs.Holding.{holds}
use Rattle.ob_domain.specs.Trees.{tree_of_domain}
use Rattle.ob_expr.specs.Meaning.{row_at}
use Rattle.ob_query.proofs.Asked.{as_asked}
use Rattle.ob_query.proofs.Callers.{answered_causes, answered_told, seen_told, told_seen}
use Rattle.ob_query.specs.SearchQuestions.{TellsOf}
use Rattle.ob_schema.specs.Facts.{OfAllTold, Told}
use Rattle.ob_schema.specs.declared.info.ModelInfo.{ModelInfo}
use Rattle.ob_query.proofs.searching.questions.meets.Goals as goal

pub meets_seen-met-requires-clause-row : goal.meets_seen-met-requires-clause-row
meets_seen-met-requires-clause-row g c =
    let sought = c.args.sought.now in
    seen_told g.K.Keeper sought.by c.args.engine.now (λ (t : Told). t.knows sought.model c.args.id ≡ true) c.requires.known

pub returns-clause-told : goal.returns-clause-told
returns-clause-told g c =
    let old = c.args.engine.now in let sought = c.args.sought.now in let by = sought.by in
    let law = c.questions_are_questions.ensures.failed old c.meets_seen-met.new.facts in
    let told = answered_told g.K.Keeper old c.meets_seen-met.new.facts _ law c.meets_seen-met.result _ c.answered.result
    (λ b all. b ≡ holds (seen old.held.models by.policy.now by.groups.now by.user all) by.user (tree_of_domain sought.domain) (row_at sought.model c.args.id)) c.answered.ensures
    (subst (λ (models : List ModelInfo). IfOk c.meets_seen-met.result (λ b. OfAllTold (TellsOf g.K.Keeper old) (λ all. b ≡ holds (seen models by.policy.now by.groups.now by.user all) by.user (tree_of_domain sought.domain) (row_at sought.model c.args.id))))
    c.schema-schema.ensures c.meets_seen-met.ensures.holds) c.meets_seen-met.ensures.fault in
    IfOk-weaker c.answered.result _ _ (λ b h. told_seen g.K.Keeper by old (λ (t : Told). b ≡ holds t by.user (tree_of_domain sought.domain) (row_at sought.model c.args.id)) h) told

pub returns-clause-asked : goal.returns-clause-asked
returns-clause-asked g c =
    let q = c.questions_are_questions.ensures.asked c.args.engine.now c.meets_seen-met.new.facts c.meets_seen-met.ensures.asked in
    as_asked g.K.Keeper c.args.engine.now c.meets_seen-met.new.facts q.0 q.1 q.2

pub returns-clause-causes : goal.returns-clause-causes
returns-clause-causes g c =
    let law = c.questions_are_questions.ensures.failed c.args.engine.now c.meets_seen-met.new.facts in
    answered_causes g.K.Keeper c.args.engine.now c.meets_seen-met.new.facts _ law c.meets_seen-met.result _ c.answered.result c.answered.ensures c.meets_seen-met.ensures.fault
