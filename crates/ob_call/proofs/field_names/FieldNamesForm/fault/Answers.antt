use Rattle.std.proofs.Common.{sym, ap, ◌∙◌}
use Rattle.ob_call.specs.Forms.{fields_at, first_item, names_fault}
use Rattle.ob_call.proofs.Items.{array_is, items_are, names_one}
use Rattle.ob_call.proofs.field_names.FieldNamesForm.fault.Goals as goal

pub returns-in-Array : goal.returns-in-Array
returns-in-Array c =
    let items = c.in-Array.items in
    let fields = fields_at c.args.self.now.schema.now c.args.self.now.model in
    c.first_unknown.ensures ∙ items_are (first_item (names_one fields) 0) _ items c.as_slice.ensures.value ∙ sym (ap (names_fault fields) (array_is c.args.json.now items c.in-Array.is))
