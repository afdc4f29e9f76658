use Rattle.std.proofs.Common.{◌≡◌, take}
use Rattle.std.specs.Prelude.{map}
use Rattle.serde_json.specs.View.{view}
use Rattle.ob_codec.specs.CommandForms.{id_json}
use Rattle.ob_query.proofs.searching.ids_json.Given as goal

abbrev pub invariant-loop-id : goal.invariant-loop-id
invariant-loop-id l = map view l.items.items ≡ map id_json (take l.id-index l.ids)
