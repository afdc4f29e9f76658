use Rattle.std.proofs.Common.{◌∷◌, []}
use Rattle.ob_codec.specs.Commands.{id_of_json}
use Rattle.ob_codec.proofs.Reading.{IsReadTo}
use Rattle.ob_codec.proofs.elements.ids_from.Given as goal

abbrev pub invariant-loop-number : goal.invariant-loop-number
invariant-loop-number l = IsReadTo (λ n. id_of_json (l.command ∷ l.k ∷ n ∷ [])) l.items l.number l.ids
