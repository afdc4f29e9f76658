use Rattle.std.proofs.Common.{sym, ap, ◌∙◌}
use Rattle.std.specs.Prelude.{is_some}
use Rattle.ob_call.specs.Forms.{first_item, id_from, ids_fault}
use Rattle.ob_call.proofs.Items.{array_is, items_are}
use Rattle.ob_call.proofs.ids.ids_fault.Goals as goal

pub returns-in-Array : goal.returns-in-Array
returns-in-Array c =
    let items = c.in-Array.items in
    c.first_no_id.ensures ∙ items_are (first_item (λ d. is_some (id_from d)) 0) _ items c.as_slice.ensures.value ∙ sym (ap ids_fault (array_is c.args.json.now items c.in-Array.is))
