use Rattle.std.proofs.Common.{◌≡◌, map, take}
use Rattle.std.specs.Prelude.{All}
use Rattle.ob_codec.specs.Held.{HasText}
use Rattle.ob_group.specs.GroupParts.{term_key}
use Rattle.ob_query.specs.declared.searching.order.Key.{Key}
use Rattle.ob_group.proofs.gathered.term_keys.Given as goal

-- the keys for the first terms
abbrev pub invariant-loop-term : goal.invariant-loop-term
invariant-loop-term l = record {
  are : l.keys.items ≡ map (term_key l.values) (take l.term-index l.terms);
  texts : All (λ (key : Key). HasText key.value) l.keys.items;
}
