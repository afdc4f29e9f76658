use Rattle.std.proofs.Common.{ap, sym, ◌∙◌}
use Rattle.std.specs.List.{list_any}
use Rattle.serde_json.proofs.Views.{view-Array}
use Rattle.serde_json.specs.Data.{Data}
use Rattle.serde_json.specs.View.{view}
use Rattle.serde_json.specs.declared.value.Value.{Value as Json}
use Rattle.ob_call.specs.Forms.{fields_at}
use Rattle.ob_commands.proofs.OtherNames.{any-listed}
use Rattle.ob_commands.specs.Holding as spec
use Rattle.ob_commands.proofs.holding.name_others.Goals as goal

pub returns-in-Array : goal.returns-in-Array
returns-in-Array c =
    let models = c.args.schema.now in let fields = fields_at models c.args.model in
    c.some_names_other.ensures ∙ ap (list_any (λ (item : Json). spec.names_other models fields (view item))) c.as_slice.ensures.value ∙ sym (any-listed models fields c.in-Array.items.items)
    ∙ sym (ap (λ (d : Data). spec.name_others models fields d) (ap view c.in-Array.is ∙ view-Array c.in-Array.items))
