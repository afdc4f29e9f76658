-- Private: what a tree shows.
use Rattle.std.specs.Prelude.{List, [], ◌∷◌, ◌++◌}
use Rattle.std.specs.List.Sorted.{IsStrictlySortedBy}
use Rattle.std.specs.Map.{keys_of}
use Rattle.std.specs.declared.cmp.Ordering.{Ordering}
use Rattle.ob_shared.specs.declared.node.Node.{Node}
use Rattle.ob_shared.specs.declared.node.Tree.{Tree}
use Rattle.ob_shared.specs.declared.node.Tree.TheVariants.{Leaf, Fork'}

-- the entries of a tree, from its left to its right
abbrev pub entries_in : {K V : Type 0} → Tree K V → List (K × V)
entries_in Leaf = []
entries_in (Fork' p key value height left right) = entries_in left ++ (key, value.value) ∷ entries_in right

-- the entry of a node
abbrev pub entry_of : {K V : Type 0} → Node K V → K × V
entry_of node = (node.key, node.value.value)

-- the entries of a node and its sides
abbrev pub entries_at : {K V : Type 0} → Node K V → List (K × V)
entries_at node = entries_in node.left ++ entry_of node ∷ entries_in node.right

-- the keys of a tree rise by an order
abbrev pub IsSearchTree : {K V : Type 0} → (K → K → Ordering) → Tree K V → Type 0
IsSearchTree cmp tree = IsStrictlySortedBy cmp (keys_of (entries_in tree))
