use Rattle.std.proofs.Common.{ap, ◌∙◌}
use Rattle.std.specs.Prelude.{map}
use Rattle.std.proofs.lemmas.List.{take_all}
use Rattle.serde_json.proofs.Views.{view-Array}
use Rattle.ob_codec.specs.CommandForms.{id_json, list_json}
use Rattle.ob_query.proofs.searching.ids_json.Goals as goal

pub returns : goal.returns
returns c = view-Array c.loop-id.items ∙ ap list_json (c.loop-id.invariant ∙ ap (map id_json) (take_all c.loop-id.id-index c.args.ids.now c.loop-id-test.false))
