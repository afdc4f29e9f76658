-- Private: a map as std's ordered map. It has no layout of nodes to tell, so maps with the same entries are equal.
use Rattle.std.specs.Prelude.{List}
use Rattle.std.proofs.Common.{inl}
use Rattle.std.specs.BTreeMap.{BTreeMap}
use Rattle.std_collections.specs.Layout.BTreeMap.{btree_map}

-- the map of these entries
abbrev pub map_of : {K V : Type 0} → List (K × V) → BTreeMap K V
map_of entries = btree_map entries (inl tt)
