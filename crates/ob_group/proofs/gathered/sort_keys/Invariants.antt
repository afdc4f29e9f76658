use Rattle.std.proofs.Common.{◌≡◌, ◌++◌, map, take}
use Rattle.std.specs.Prelude.{All}
use Rattle.ob_codec.specs.Held.{HasText}
use Rattle.ob_group.specs.GroupParts.{term_key}
use Rattle.ob_query.specs.SearchKeys.{rising}
use Rattle.ob_query.specs.declared.searching.order.Key.{Key}
use Rattle.ob_group.proofs.gathered.sort_keys.Given as goal

-- the keys for the terms, and those of the first values
abbrev pub invariant-loop-value : goal.invariant-loop-value
invariant-loop-value l = record {
  are : l.keys.items ≡ map (term_key l.values) l.terms ++ map rising (take l.value-index l.values);
  texts : All (λ (key : Key). HasText key.value) l.keys.items;
}
