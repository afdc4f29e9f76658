use Rattle.std.proofs.Common.{map, sym, ap, ◌∙◌}
use Rattle.std.proofs.lemmas.Result.{IfOk-weaker}
use Rattle.serde_json.specs.View.{view}
use Rattle.ob_call.specs.Forms.{fields_at}
use Rattle.ob_orm.specs.Objects.{first_wrong}
use Rattle.ob_rows.specs.Values.{new_values_fault}
use Rattle.ob_orm.proofs.ObjectPlaces.{objects-listed}
use Rattle.ob_orm.proofs.objects.ObjectsForm.fault.Goals as goal

pub returns-in-Some : goal.returns-in-Some
returns-in-Some c =
    let values = c.args.self.now.values in
    let models = values.schema.now in
    let fields = fields_at models values.model in
    IfOk-weaker c.first_wrong.result _ _ (λ told is. is ∙ ap (λ vs. first_wrong (new_values_fault models fields) 0 (map view vs)) c.as_slice.ensures.value ∙ sym (objects-listed models fields (view c.args.json.now) c.in-Some.items.now.items c.in-Some.ensures)) c.first_wrong.ensures
