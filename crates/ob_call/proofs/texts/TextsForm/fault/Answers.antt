use Rattle.std.proofs.Common.{sym, ap, ◌∙◌}
use Rattle.std.specs.Prelude.{is_some}
use Rattle.serde_json.specs.Find.{as_str}
use Rattle.ob_call.specs.Forms.{first_item, texts_fault}
use Rattle.ob_call.proofs.Items.{array_is, items_are}
use Rattle.ob_call.proofs.texts.TextsForm.fault.Goals as goal

pub returns-in-Array : goal.returns-in-Array
returns-in-Array c =
    let items = c.in-Array.items in
    c.first_no_text.ensures ∙ items_are (first_item (λ d. is_some (as_str d)) 0) _ items c.as_slice.ensures.value ∙ sym (ap texts_fault (array_is c.args.json.now items c.in-Array.is))
