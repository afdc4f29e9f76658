-- What calls on one side of a node give of its whole tree.
use Rattle.std.proofs.Common.{◌≡◌, true, false, List, [], ◌∷◌, ◌++◌, Some, None, Ok, Err, Result, drop, sym, refl, ap, subst, ◌∙◌, rules}
use Rattle.std.specs.Cmp.{IsTotalOrder}
use Rattle.std.specs.Global.{Global}
use Rattle.std.specs.List.{filter, slice_get}
use Rattle.std.specs.List.Sorted.{IsStrictlySortedBy}
use Rattle.std.specs.Map.{keys_of, lookup, remove_entry}
use Rattle.std.specs.Result.{IfOk}
use Rattle.std.specs.declared.cmp.Ordering.{Ordering}
use Rattle.std.specs.declared.cmp.Ordering.TheVariants.{Less, Equal, Greater}
use Rattle.std.specs.declared.ops.Bound.{Bound}
use Rattle.std.specs.declared.rc.Rc.{Rc}
use Rattle.std.specs.BTreeMap.{insert_entry, is_at}
use Rattle.std.specs.BTreeMap.Range.{is_from_start}
use Rattle.ob_shared.specs.declared.node.Node.{Node}
use Rattle.ob_shared.specs.declared.node.Tree.{Tree, the_lemmas}
use Rattle.ob_shared.specs.declared.node.Tree.TheVariants.{Fork}
use Rattle.ob_shared.specs.Trees.{IsSearchTree, entries_at, entries_in, entry_of}
use Rattle.ob_shared.proofs.Edits.{insert-Equal, insert-Greater, lookup-Equal, lookup-Greater, lookup-Less, remove-Equal, remove-Greater, remove-Less}
use Rattle.ob_shared.proofs.Parts.{IsAround, around}
use Rattle.ob_shared.proofs.Ranges.{first_after, head_after, head_before}
use Rattle.ob_shared.proofs.Sides.{insert_before, passed}

-- a tree that shows some entries shows equal ones
pub shown : {K V E : Type 0} (made : Result (Tree K V) E) (es fs : List (K × V)) → IfOk made (λ tree. entries_in tree ≡ es) → es ≡ fs → IfOk made (λ tree. entries_in tree ≡ fs)
shown (Ok tree) es fs h e = h ∙ e
shown (Err x) es fs h e = tt

-- two sides that show the same
pub beside : {A : Type 0} {l l' : List A} (x : A) {r r' : List A} → l ≡ l' → r ≡ r' → l ++ x ∷ r ≡ l' ++ x ∷ r'
beside x p q = λ i. p i ++ x ∷ q i

forks : {K V : Type 0} (root : Rc (Node K V) Global) → entries_in (Fork root) ≡ entries_at root.value
forks root = search (rules, the_lemmas)

-- the node at the root of a tree
module _ {K V : Type 0} (tree : Tree K V) (root : Rc (Node K V) Global) (node : Node K V) (is : tree ≡ Fork root) (at : node ≡ root.value) where
  pub entries_fork : entries_in tree ≡ entries_at node
  entries_fork = ap entries_in is ∙ forks root ∙ ap entries_at (sym at)

  module _ (R : K → K → Ordering) (sorted : IsSearchTree R tree) where
    pub sides : IsAround R (entries_in node.left) (entry_of node) (entries_in node.right)
    sides = around R (entries_in node.left) (entry_of node) (entries_in node.right) (subst (λ es. IsStrictlySortedBy R (keys_of es)) entries_fork sorted)

    module _ (total : IsTotalOrder R) (k : K) where
      pub find-Less : R k node.key ≡ Less → lookup (is_at (R k)) (entries_in node.left) ≡ lookup (is_at (R k)) (entries_in tree)
      find-Less h = sym (ap (lookup (is_at (R k))) entries_fork ∙ lookup-Less total k (entry_of node) (entries_in node.left) (entries_in node.right) sides h)

      pub find-Equal : R k node.key ≡ Equal → Some node.value.value ≡ lookup (is_at (R k)) (entries_in tree)
      find-Equal h = sym (ap (lookup (is_at (R k))) entries_fork ∙ lookup-Equal total k (entry_of node) (entries_in node.left) (entries_in node.right) sides h)

      pub find-Greater : R k node.key ≡ Greater → lookup (is_at (R k)) (entries_in node.right) ≡ lookup (is_at (R k)) (entries_in tree)
      find-Greater h = sym (ap (lookup (is_at (R k))) entries_fork ∙ lookup-Greater total k (entry_of node) (entries_in node.left) (entries_in node.right) sides h)

      module _ (l r : List (K × V)) where
        module _ (v : V) where
          pub inserted-Less : R k node.key ≡ Less → l ≡ insert_entry R (entries_in node.left) k v → r ≡ entries_in node.right → l ++ entry_of node ∷ r ≡ insert_entry R (entries_in tree) k v
          inserted-Less h p q = beside (entry_of node) p q ∙ sym (ap (λ es. insert_entry R es k v) entries_fork ∙ insert_before R k v (entries_in node.left) (entry_of node) (entries_in node.right) h)

          pub inserted-Equal : R k node.key ≡ Equal → l ≡ entries_in node.left → r ≡ entries_in node.right → l ++ (node.key, v) ∷ r ≡ insert_entry R (entries_in tree) k v
          inserted-Equal h p q = beside (node.key, v) p q ∙ sym (ap (λ es. insert_entry R es k v) entries_fork ∙ insert-Equal total k (entry_of node) (entries_in node.left) (entries_in node.right) sides v h)

          pub inserted-Greater : R k node.key ≡ Greater → l ≡ entries_in node.left → r ≡ insert_entry R (entries_in node.right) k v → l ++ entry_of node ∷ r ≡ insert_entry R (entries_in tree) k v
          inserted-Greater h p q = beside (entry_of node) p q ∙ sym (ap (λ es. insert_entry R es k v) entries_fork ∙ insert-Greater total k (entry_of node) (entries_in node.left) (entries_in node.right) sides v h)

        pub removed-Less : R k node.key ≡ Less → l ≡ remove_entry (is_at (R k)) (entries_in node.left) → r ≡ entries_in node.right → l ++ entry_of node ∷ r ≡ remove_entry (is_at (R k)) (entries_in tree)
        removed-Less h p q = beside (entry_of node) p q ∙ sym (ap (remove_entry (is_at (R k))) entries_fork ∙ remove-Less total k (entry_of node) (entries_in node.left) (entries_in node.right) sides h)

        pub removed-Greater : R k node.key ≡ Greater → l ≡ entries_in node.left → r ≡ remove_entry (is_at (R k)) (entries_in node.right) → l ++ entry_of node ∷ r ≡ remove_entry (is_at (R k)) (entries_in tree)
        removed-Greater h p q = beside (entry_of node) p q ∙ sym (ap (remove_entry (is_at (R k))) entries_fork ∙ remove-Greater total k (entry_of node) (entries_in node.left) (entries_in node.right) sides h)

      pub removed-Equal : R k node.key ≡ Equal → entries_in node.left ++ entries_in node.right ≡ remove_entry (is_at (R k)) (entries_in tree)
      removed-Equal h = sym (ap (remove_entry (is_at (R k))) entries_fork ∙ remove-Equal total k (entry_of node) (entries_in node.left) (entries_in node.right) sides h)

    module _ (total : IsTotalOrder R) (lo : Bound K) where
      -- the first entry from a bound on: behind the node, at it, or before it
      pub first-after : is_from_start R lo node.key ≡ false
          → slice_get (filter (λ x. is_from_start R lo x.0) (entries_in node.right)) 0 ≡ slice_get (filter (λ x. is_from_start R lo x.0) (entries_in tree)) 0
      first-after h =
          ap (λ es. slice_get es 0) (sym (ap (filter (λ x. is_from_start R lo x.0)) entries_fork ∙ first_after total (entries_in node.left) (entry_of node) (entries_in node.right) sides lo h))

      pub first-here : is_from_start R lo node.key ≡ true → slice_get (filter (λ x. is_from_start R lo x.0) (entries_in node.left)) 0 ≡ None
          → Some (entry_of node) ≡ slice_get (filter (λ x. is_from_start R lo x.0) (entries_in tree)) 0
      first-here h none =
          sym (ap (λ es. slice_get (filter (λ x. is_from_start R lo x.0) es) 0) entries_fork
          ∙ head_after (λ x. is_from_start R lo x.0) (entries_in node.left) (entry_of node ∷ entries_in node.right) none
          ∙ ap (λ es. slice_get es 0) (passed _ _ h))

      pub first-before : (e : K × V) → slice_get (filter (λ x. is_from_start R lo x.0) (entries_in node.left)) 0 ≡ Some e → Some e ≡ slice_get (filter (λ x. is_from_start R lo x.0) (entries_in tree)) 0
      first-before e found =
          sym (ap (λ es. slice_get (filter (λ x. is_from_start R lo x.0) es) 0) entries_fork
          ∙ head_before (λ x. is_from_start R lo x.0) (entries_in node.left) (entry_of node ∷ entries_in node.right) e found)

-- the entries but the first, where there is one
drop_first : {A : Type 0} (l : List A) (x : A) (r m : List A) → drop 1 (l ++ x ∷ r) ++ m ≡ drop 1 ((l ++ x ∷ r) ++ m)
drop_first [] x r m = refl
drop_first (y ∷ l) x r m = refl

pub without-first : {K V : Type 0} (side : Tree K V) (root : Rc (Node K V) Global) (below : Node K V) (e : K × V) (l r r' : List (K × V))
    → side ≡ Fork root → below ≡ root.value → l ≡ drop 1 (entries_at below) → r ≡ r' → l ++ e ∷ r ≡ drop 1 (entries_in side ++ e ∷ r')
without-first side root below e l r r' is at p q =
    beside e p q
    ∙ drop_first (entries_in below.left) (entry_of below) (entries_in below.right) (e ∷ r')
    ∙ ap (λ es. drop 1 (es ++ e ∷ r')) (sym (entries_fork side root below is at))
