use Rattle.std.proofs.Common.{ap, ◌∙◌, List}
use Rattle.std.specs.List.{list_any}
use Rattle.std.specs.Str.{bytes_eq}
use Rattle.ob_definition.specs.declared.field_type.Choice.{Choice}
use Rattle.ob_tables.proofs.KeyTests.{found_tells}
use Rattle.ob_tables.proofs.fitting.has_text.Goals as goal

pub returns-then-text-le-MAX_CHAR_BYTES : goal.returns-then-text-le-MAX_CHAR_BYTES
returns-then-text-le-MAX_CHAR_BYTES c =
    let field = c.args.field.now in
    found_tells field.field_type field.selection c.args.text.now c.is_key.result c.in-Selection.is c.if-text-le-MAX_CHAR_BYTES.true
    (c.is_key.ensures ∙ ap (λ (choices : List Choice). list_any (λ (choice : Choice). bytes_eq c.args.text.now choice.key) choices) c.as_slice.ensures)
