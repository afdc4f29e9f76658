use Rattle.std.proofs.Common.{◌≡◌, ◌&&◌, List, true, sym, subst}
use Rattle.std.specs.Prelude.{IfOk}
use Rattle.std.proofs.lemmas.Result.{IfOk-weaker}
use Rattle.ob_access.specs.Admission.{admits}
use Rattle.ob_access.specs.Rights.{right}
use Rattle.ob_access.specs.Views.{seen_value}
use Rattle.ob_base.specs.declared.refusal.Op.TheVariants as op
use Rattle.ob_expr.specs.Meaning.{row_at}
use Rattle.ob_query.proofs.Asked.{as_asked, first_true}
use Rattle.ob_query.proofs.Callers.{answered_all, answered_causes, answered_told, seen_told, told_seen}
use Rattle.ob_query.proofs.HeldTexts.{initial_typed, text_of_field}
use Rattle.ob_query.specs.Search.{held_of}
use Rattle.ob_query.specs.SearchQuestions.{TellsOf}
use Rattle.ob_schema.specs.Facts.{OfAllTold, Told}
use Rattle.ob_schema.specs.declared.info.ModelInfo.{ModelInfo}
use Rattle.ob_schema.specs.Fields.{HasFieldType}
use Rattle.ob_schema.specs.Models.{field_at}
use Rattle.ob_query.proofs.searching.questions.value_in.Goals as goal

pub seen_value-value-requires-clause-row : goal.seen_value-value-requires-clause-row
seen_value-value-requires-clause-row g c = λ all tells.
    let by = c.args.by.now in
    let seen = seen_told g.K.Keeper by c.args.engine.now (λ (t : Told). t.knows c.args.model c.args.id ≡ true) c.requires.known all tells in
    let knows = all.knows c.args.model c.args.id in
    let may = right by.policy.now by.groups.now by.user c.args.model op.Read in
    first_true knows may (sym (first_true (knows && may) (admits by.policy.now all by.groups.now by.user op.Read (row_at c.args.model c.args.id)) (sym seen)))

pub returns-clause-told : goal.returns-clause-told
returns-clause-told g c =
    let old = c.args.engine.now in let by = c.args.by.now in
    let law = c.questions_are_questions.ensures.failed old c.seen_value-value.new.facts in
    let told = answered_told g.K.Keeper old c.seen_value-value.new.facts _ law c.seen_value-value.result _ c.answered.result
    (λ v all. v ≡ seen_value old.held.models by.policy.now all by.groups.now by.user (record { model = c.args.model; id = c.args.id; field = c.args.field })) c.answered.ensures
    (subst (λ (models : List ModelInfo). IfOk c.seen_value-value.result (λ v. OfAllTold (TellsOf g.K.Keeper old) (λ all. v ≡ seen_value models by.policy.now all by.groups.now by.user (record { model = c.args.model; id = c.args.id; field = c.args.field }))))
    c.schema-schema.ensures c.seen_value-value.ensures.value) c.seen_value-value.ensures.fault in
    IfOk-weaker c.answered.result _ _ (λ v h. told_seen g.K.Keeper by old (λ (t : Told). v ≡ held_of t c.args.model c.args.field c.args.id) h) told

pub returns-clause-asked : goal.returns-clause-asked
returns-clause-asked g c =
    let q = c.questions_are_questions.ensures.asked c.args.engine.now c.seen_value-value.new.facts c.seen_value-value.ensures.asked in
    as_asked g.K.Keeper c.args.engine.now c.seen_value-value.new.facts q.0 q.1 q.2

pub returns-clause-causes : goal.returns-clause-causes
returns-clause-causes g c =
    let law = c.questions_are_questions.ensures.failed c.args.engine.now c.seen_value-value.new.facts in
    answered_causes g.K.Keeper c.args.engine.now c.seen_value-value.new.facts _ law c.seen_value-value.result _ c.answered.result c.answered.ensures c.seen_value-value.ensures.fault

pub returns-clause-typed : goal.returns-clause-typed
returns-clause-typed g c =
    answered_all c.seen_value-value.result _ c.answered.result (HasFieldType (field_at c.args.engine.now.held.models c.args.model c.args.field)) c.answered.ensures c.seen_value-value.ensures.typed
    (initial_typed (field_at c.args.engine.now.held.models c.args.model c.args.field) c.info.result.now _ (rw c.schema-schema.ensures at c.info.ensures) c.initial_value-other.ensures)

pub returns-clause-text : goal.returns-clause-text
returns-clause-text g c =
    let field = field_at c.args.engine.now.held.models c.args.model c.args.field in
    IfOk-weaker c.answered.result _ _ (λ v typed. text_of_field field v c.requires.field typed)
    (answered_all c.seen_value-value.result _ c.answered.result (HasFieldType field) c.answered.ensures c.seen_value-value.ensures.typed (initial_typed field c.info.result.now _ (rw c.schema-schema.ensures at c.info.ensures) c.initial_value-other.ensures))
