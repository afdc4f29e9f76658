use Rattle.std.proofs.Common.{◌≡◌, ℕ, true, List, map, subst, ◌∙◌}
use Rattle.std.proofs.lemmas.List.Elements.{All-map}
use Rattle.ob_base.specs.declared.id.RecId.{RecId}
use Rattle.ob_query.proofs.Asked.{asked_itself}
use Rattle.ob_query.proofs.ReadSteps.{FetchedIn, rows_told}
use Rattle.ob_schema.specs.Models.{model_at}
use Rattle.serde_json.proofs.Views.{view-Array}
use Rattle.ob_query.proofs.searching.objects.objects_told.Goals as goal

pub returns-in_err-ids-clause-asked : goal.returns-in_err-ids-clause-asked
returns-in_err-ids-clause-asked g c = asked_itself g.K.Keeper c.args.engine.now

pub returns-clause-told : goal.returns-clause-told
returns-clause-told g c = λ told tells there.
    let models = c.args.engine.now.held.models in
    let sought = c.args.asked.now.sought in
    let numbers = c.args.asked.now.fields.items in
    let rows = c.in_ok-rows.rows in
    let its = λ (id : RecId). id.0 in
    let Known = λ (id : ℕ). told.knows sought.model (record { 0 = id }) ≡ true in
    let same : c.as_slice.result.now ≡ map its c.args.ids.now = c.as_slice.ensures.value ∙ c.in_ok-ids.ensures in
    let fetched = rw (same, c.as_slice-fields.ensures.value) at (c.in_ok-rows.ensures.told told tells) in
    rows_told told sought.model numbers (map its c.args.ids.now) rows.objects.items (model_at models sought.model) rows.hidden _ (view-Array rows.objects) (All-map Known its c.args.ids.now there) fetched
