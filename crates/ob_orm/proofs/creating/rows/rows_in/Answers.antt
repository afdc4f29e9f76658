use Rattle.std.proofs.Common.{◌≡◌, ◌∙◌, List, None, subst, sym}
use Rattle.std.specs.Prelude.{All}
use Rattle.serde_json.specs.View.{view}
use Rattle.serde_json.specs.declared.value.Value.{Value as Json}
use Rattle.ob_call.specs.Forms.{fields_at}
use Rattle.ob_call.specs.Places.{spot_place}
use Rattle.ob_schema.specs.Models.{model_at}
use Rattle.ob_orm.specs.CreateSteps.{rows_view}
use Rattle.ob_orm.specs.ObjectSteps.{object_view}
use Rattle.ob_rows.specs.Values.{new_values_fault}
use Rattle.ob_orm.proofs.CreateRows.{asked-alone, listed-rows}
use Rattle.ob_orm.proofs.ObjectPlaces.{all-right, objects-alone, objects-listed}
use Rattle.ob_orm.proofs.creating.rows.rows_in.Goals as goal

pub rows_of_list-requires-clause-form : goal.rows_of_list-requires-clause-form
rows_of_list-requires-clause-form c =
    let models = c.args.schema.now in
    let fields = fields_at models c.args.model in
    let items = c.in-Some.items.now.items in
    subst (λ (vs : List Json). All (λ (json : Json). new_values_fault models fields (view json) ≡ None) vs) (sym c.as_slice.ensures.value)
    (all-right (new_values_fault models fields) items 0 (sym (objects-listed models fields (view c.args.vals.now.json.now) items c.in-Some.ensures) ∙ c.requires.form))

pub given_object-requires-clause-form : goal.given_object-requires-clause-form
given_object-requires-clause-form c =
    sym (objects-alone c.args.schema.now (fields_at c.args.schema.now c.args.model) (view c.args.vals.now.json.now) c.in-None.ensures) ∙ c.requires.form

pub returns-in-Some-clause-value : goal.returns-in-Some-clause-value
returns-in-Some-clause-value c =
    let vals = c.args.vals.now in
    listed-rows c.args.schema.now (spot_place vals.spot) (view vals.json.now) (model_at c.args.schema.now c.args.model) c.in-Some.items.now.items c.rows_of_list.result c.in-Some.ensures (rw c.as_slice.ensures.value at c.rows_of_list.ensures.value)

pub returns-in_ok-add_object-in-None-clause-value : goal.returns-in_ok-add_object-in-None-clause-value
returns-in_ok-add_object-in-None-clause-value c =
    let vals = c.args.vals.now in
    asked-alone c.args.schema.now (spot_place vals.spot) (view vals.json.now) (model_at c.args.schema.now c.args.model) (rows_view c.add_object.new.rows) (rows_view c.no_rows-rows.result)
    (object_view c.in_ok-object-in-None.object) c.in-None.ensures c.no_rows-rows.ensures c.in_ok-add_object-in-None.ensures.given c.in_ok-object-in-None.ensures.given
