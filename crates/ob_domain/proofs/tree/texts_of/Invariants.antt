-- The digits of the ids so far.
use Rattle.std.proofs.Common.{◌≡◌, map, string_bytes, decimal, take}
use Rattle.ob_domain.proofs.tree.texts_of.Given as goal

abbrev pub invariant-loop-id : goal.invariant-loop-id
invariant-loop-id l = map string_bytes l.texts.items ≡ map (λ id. decimal id.0) (take l.id-index l.ids)
