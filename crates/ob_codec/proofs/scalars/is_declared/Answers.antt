use Rattle.std.proofs.Common.{◌∙◌, rules, tests}
use Rattle.std.specs.Str.{bytes_eq}
use Rattle.std.proofs.lemmas.Iterator.{YieldsList-from_slice}
use Rattle.std.proofs.lemmas.Iterator.Search.{any_from_yields_List}
use Rattle.ob_definition.specs.declared.field_type.Choice.{Choice}
use Rattle.ob_codec.proofs.Keys.{any_key}
use Rattle.ob_codec.proofs.scalars.is_declared.Goals as goal

pub returns : goal.returns
returns c =
    let choices = c.args.choices.now in let text = c.args.text.now in
    any_from_yields_List (λ (choice : Choice). bytes_eq text choice.key) _ _ c.any.result c.any.ensures.ran (YieldsList-from_slice choices c.iter.ensures.rest) (λ x b q k. search (rules, tests))
    ∙ any_key text choices
