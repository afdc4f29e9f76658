use Rattle.std.proofs.Common.{map, sym, ap, ◌∙◌}
use Rattle.std.proofs.lemmas.Result.{IfOk-weaker}
use Rattle.serde_json.specs.View.{view}
use Rattle.ob_call.specs.Forms.{fields_at}
use Rattle.ob_commands.specs.Asked.{wrong_item}
use Rattle.ob_commands.proofs.WrongObjects.{objects-listed}
use Rattle.ob_commands.proofs.asked.forms.objects_fault.Goals as goal

pub returns-in-Some : goal.returns-in-Some
returns-in-Some c =
    let values = c.args.values.now in
    let fields = fields_at values.schema.now values.model in
    let same = ap (λ vs. wrong_item fields 0 (map view vs)) c.as_slice.ensures.value in
    let whole = sym (objects-listed fields (view c.args.json.now) c.in-Some.items.now.items c.in-Some.ensures) in
    IfOk-weaker c.wrong_item.result _ _ (λ told is. is ∙ same ∙ whole) c.wrong_item.ensures
