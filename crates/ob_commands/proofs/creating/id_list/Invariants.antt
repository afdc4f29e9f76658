use Rattle.std.proofs.Common.{◌≡◌, map, take}
use Rattle.serde_json.specs.View.{view}
use Rattle.ob_codec.specs.CommandForms.{number_json}
use Rattle.ob_commands.proofs.creating.id_list.Given as goal

-- the ids so far
abbrev pub invariant-loop-id : goal.invariant-loop-id
invariant-loop-id l = map view l.items.items ≡ map number_json (map (λ id. id.0) (take l.id-index l.ids))
