use Rattle.std.proofs.Common.{◌≡◌, ℕ, List, Option, None, Some, refl, subst}
use Rattle.std.proofs.lemmas.Option.{IfSome_then}
use Rattle.serde_json.proofs.Views.{view-Array}
use Rattle.ob_base.specs.declared.id.FieldNo.{FieldNo}
use Rattle.ob_query.proofs.ReadSteps.{FetchedIn, answers_rows}
use Rattle.ob_schema.specs.Models.{model_at}
use Rattle.ob_query.proofs.reading.told_rows.Goals as goal

pub returns-in-Some-clause-told : goal.returns-in-Some-clause-told
returns-in-Some-clause-told g c = λ told tells.
    let asked = c.args.asked.now in
    let found = model_at c.args.engine.now.held.models asked.model in
    let objects = c.in_ok-rows.rows.objects.items in
    let numbers = c.as_slice-fields.result.now in
    let fetched = subst (λ (hidden : Option ℕ). FetchedIn told found asked.model numbers c.as_slice-ids.result.now objects hidden) c.in-Some.is (c.in_ok-rows.ensures.told told tells) in
    let of = subst (λ (ids : List ℕ). FetchedIn told found asked.model numbers ids objects (Some c.in-Some.id)) c.as_slice-ids.ensures.value fetched in
    IfSome_then found of (λ info least. (refl, refl, refl, least))

pub returns-in-None-clause-told : goal.returns-in-None-clause-told
returns-in-None-clause-told g c = λ told tells.
    let asked = c.args.asked.now in
    let found = model_at c.args.engine.now.held.models asked.model in
    let objects = c.in_ok-rows.rows.objects.items in
    let numbers = c.as_slice-fields.result.now in
    let fetched = subst (λ (hidden : Option ℕ). FetchedIn told found asked.model numbers c.as_slice-ids.result.now objects hidden) c.in-None.is (c.in_ok-rows.ensures.told told tells) in
    let ids = subst (λ (ids : List ℕ). FetchedIn told found asked.model numbers ids objects None) c.as_slice-ids.ensures.value fetched in
    let of = subst (λ (fields : List FieldNo). FetchedIn told found asked.model fields asked.ids.items objects None) c.as_slice-fields.ensures.value ids in
    answers_rows told asked.model asked.fields.items asked.ids.items objects found _ (view-Array c.in_ok-rows.rows.objects) of
